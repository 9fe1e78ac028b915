use Rattle.std.proofs.Common.{sym}
use Rattle.rss_plain.specs.View.{machine}
use Rattle.rss_plain.proofs.Judged.{judged_open_link}
use Rattle.rss_plain.proofs.plain.Plain.judge_open_link.Goals as goal

pub returns : goal.returns
returns c =
    rw (
      c.or-4.ensures,
      c.or-3.ensures,
      c.or-2.ensures,
      c.or.ensures,
      c.unless_open.ensures,
      c.unless_link_form.ensures,
      c.if_scans_used_up.ensures,
      c.if_busy.ensures,
      c.unless_parent.ensures,
      c.in_ok-needs.ensures,
      c.link.ensures,
      c.is_some.ensures,
    )
    (sym (judged_open_link (machine c.args.self.now) c.args.t c.args.link.now c.args.parent))
