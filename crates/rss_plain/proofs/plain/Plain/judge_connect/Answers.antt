use Rattle.std.proofs.Common.{sym}
use Rattle.rss_plain.specs.View.{machine}
use Rattle.rss_plain.proofs.Judged.{judged_connect}
use Rattle.rss_plain.proofs.plain.Plain.judge_connect.Goals as goal

pub returns : goal.returns
returns c =
    rw (
      c.or-6.ensures,
      c.or-5.ensures,
      c.or-4.ensures,
      c.or-3.ensures,
      c.or-2.ensures,
      c.or.ensures,
      c.unless_open.ensures,
      c.unless_link_form.ensures,
      c.if_busy.ensures,
      c.unless_child.ensures,
      c.unless_parent.ensures,
      c.if_in_chain.ensures,
      c.unless_spot.ensures,
      c.in_ok-needs.ensures,
      c.link-definition.ensures,
      c.is_some.ensures,
    )
    (sym (judged_connect (machine c.args.self.now) c.args.t c.args.link.now c.args.child c.args.parent c.args.spot))
