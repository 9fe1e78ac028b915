use Rattle.std.proofs.Common.{sym}
use Rattle.rss_plain.specs.View.{machine}
use Rattle.rss_plain.proofs.DefinitionTests.{judged_make_link}
use Rattle.rss_plain.proofs.plain.Plain.judge_make_link.Goals as goal

pub returns : goal.returns
returns c =
    rw (
      c.or-5.ensures,
      c.or-4.ensures,
      c.or-3.ensures,
      c.or-2.ensures,
      c.or.ensures,
      c.if_any_open.ensures,
      c.unless_relations.ensures,
      c.if_link_taken.ensures,
      c.if_links_used_up.ensures,
      c.if_in_most.ensures,
      c.if_holding.ensures,
    )
    (sym (judged_make_link (machine c.args.self.now) c.args.name.now c.args.parent c.args.child))
