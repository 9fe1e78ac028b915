use Rattle.std.proofs.Common.{sym}
use Rattle.rss_plain.specs.View.{machine}
use Rattle.rss_plain.proofs.Judged.{judged_save}
use Rattle.rss_plain.proofs.plain.Plain.judge_save.Goals as goal

pub returns : goal.returns
returns c =
    rw (c.unless_open.ensures)
    (sym (judged_save (machine c.args.self.now) c.args.t))
