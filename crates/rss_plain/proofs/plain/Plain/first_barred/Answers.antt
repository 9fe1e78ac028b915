use Rattle.std.proofs.Common.{sym, ◌∙◌}
use Rattle.rss_plain.specs.View.{machine}
use Rattle.rss_plain.proofs.Bars.{barred_past}
use Rattle.rss_plain.proofs.plain.Plain.first_barred.Goals as goal

pub loop-place-preserved : goal.loop-place-preserved
loop-place-preserved c =
    sym (barred_past (machine c.args.self.now).locks c.args.t c.args.needs.now c.loop-place.place
    c.loop-place-test.true c.in_default.ensures.none)
    ∙ c.loop-place.invariant
