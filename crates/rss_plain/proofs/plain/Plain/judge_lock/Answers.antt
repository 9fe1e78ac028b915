use Rattle.std.proofs.Common.{sym}
use Rattle.rss_plain.specs.View.{machine}
use Rattle.rss_plain.proofs.Judged.{judged_lock}
use Rattle.rss_plain.proofs.plain.Plain.judge_lock.Goals as goal

pub returns : goal.returns
returns c =
    rw (
      c.or-2.ensures,
      c.or.ensures,
      c.unless_open.ensures,
      c.unless_granule.ensures,
      c.if_busy.ensures,
      c.in_ok-needs.ensures,
    )
    (sym (judged_lock (machine c.args.self.now) c.args.t c.args.item.now c.args.exclusive))
