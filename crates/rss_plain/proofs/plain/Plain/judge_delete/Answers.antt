use Rattle.std.proofs.Common.{sym}
use Rattle.rss_plain.specs.View.{machine}
use Rattle.rss_plain.proofs.Judged.{judged_delete}
use Rattle.rss_plain.proofs.plain.Plain.judge_delete.Goals as goal

pub returns : goal.returns
returns c =
    rw (
      c.or-4.ensures,
      c.or-3.ensures,
      c.or-2.ensures,
      c.or.ensures,
      c.unless_open.ensures,
      c.unless_defined.ensures,
      c.if_busy.ensures,
      c.unless_live.ensures,
      c.if_connected.ensures,
      c.in_ok-needs.ensures,
    )
    (sym (judged_delete (machine c.args.self.now) c.args.t c.args.relation.now c.args.tid))
