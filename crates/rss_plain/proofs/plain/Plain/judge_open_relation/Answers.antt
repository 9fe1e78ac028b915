use Rattle.std.proofs.Common.{sym}
use Rattle.rss_plain.specs.View.{machine}
use Rattle.rss_plain.proofs.Judged.{judged_open_relation}
use Rattle.rss_plain.proofs.plain.Plain.judge_open_relation.Goals as goal

pub returns : goal.returns
returns c =
    rw (
      c.or-3.ensures,
      c.or-2.ensures,
      c.or.ensures,
      c.unless_open.ensures,
      c.unless_defined.ensures,
      c.if_scans_used_up.ensures,
      c.if_busy.ensures,
      c.in_ok-needs.ensures,
    )
    (sym (judged_open_relation (machine c.args.self.now) c.args.t c.args.relation.now))
