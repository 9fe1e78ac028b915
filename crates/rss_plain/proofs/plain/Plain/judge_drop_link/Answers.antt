use Rattle.std.proofs.Common.{sym}
use Rattle.rss_plain.specs.View.{machine}
use Rattle.rss_plain.proofs.DefinitionTests.{judged_drop_link}
use Rattle.rss_plain.proofs.plain.Plain.judge_drop_link.Goals as goal

pub returns : goal.returns
returns c =
    rw (
      c.or-2.ensures,
      c.or.ensures,
      c.if_any_open.ensures,
      c.unless_known_link.ensures,
      c.if_link_holds_tuples.ensures,
      c.link.ensures,
    )
    (sym (judged_drop_link (machine c.args.self.now) c.args.name.now))
