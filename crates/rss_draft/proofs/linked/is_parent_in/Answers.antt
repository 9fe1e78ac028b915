use Rattle.std.proofs.Common.{rules, tests, sym, ◌∙◌}
use Rattle.rss_draft.proofs.FoundAs.{used_link}
use Rattle.rss_draft.proofs.LinkedNow.{parent_unused, parent_decides, parent_none}
use Rattle.rss_draft.proofs.linked.is_parent_in.Goals as goal

pub returns-then-not-used : goal.returns-then-not-used
returns-then-not-used c = parent_unused (sym (used_link c.args.catalog.now.listing c.args.link) ∙ sym c.used.ensures ∙ c.if-not-used.true)

pub link-requires : goal.link-requires
link-requires c = sym (used_link c.args.catalog.now.listing c.args.link) ∙ sym c.used.ensures ∙ c.if-not-used.false

pub returns-in-Some : goal.returns-in-Some
returns-in-Some c = parent_decides c.link.result.now c.link.ensures.is c.in-Some.parent c.in-Some.is _ (search (rules, tests))

pub returns-in-None : goal.returns-in-None
returns-in-None c = parent_none c.link.result.now c.link.ensures.is c.in-None.is
