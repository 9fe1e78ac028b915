use Rattle.std.proofs.Common.{sym}
use Rattle.rss_plain.specs.View.{machine}
use Rattle.rss_plain.proofs.Judged.{judged_insert}
use Rattle.rss_plain.proofs.plain.Plain.judge_insert.Goals as goal

pub returns : goal.returns
returns c =
    rw (
      c.or-6.ensures,
      c.or-5.ensures,
      c.or-4.ensures,
      c.or-3.ensures,
      c.or-2.ensures,
      c.or.ensures,
      c.unless_open.ensures,
      c.unless_defined.ensures,
      c.misfit_of.ensures,
      c.if_used_up.ensures,
      c.unless_free.ensures,
      c.if_busy.ensures,
      c.in_ok-needs.ensures,
      c.in_ok-duplicate.ensures,
    )
    (sym (judged_insert (machine c.args.self.now) c.args.t c.args.relation.now c.args.tuple.now))
