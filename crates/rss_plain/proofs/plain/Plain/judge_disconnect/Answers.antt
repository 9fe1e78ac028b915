use Rattle.std.proofs.Common.{sym}
use Rattle.rss_plain.specs.View.{machine}
use Rattle.rss_plain.proofs.Judged.{judged_disconnect}
use Rattle.rss_plain.proofs.plain.Plain.judge_disconnect.Goals as goal

pub returns : goal.returns
returns c =
    rw (
      c.or-4.ensures,
      c.or-3.ensures,
      c.or-2.ensures,
      c.or.ensures,
      c.unless_open.ensures,
      c.unless_link.ensures,
      c.if_busy.ensures,
      c.unless_child.ensures,
      c.unless_in_chain_of.ensures,
      c.in_ok-needs.ensures,
      c.link.ensures,
    )
    (sym (judged_disconnect (machine c.args.self.now) c.args.t c.args.link.now c.args.child))
