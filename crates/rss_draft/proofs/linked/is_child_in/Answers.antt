use Rattle.std.proofs.Common.{rules, tests, sym, ◌∙◌}
use Rattle.rss_draft.proofs.FoundAs.{used_link}
use Rattle.rss_draft.proofs.LinkedNow.{child_unused, child_decides}
use Rattle.rss_draft.proofs.linked.is_child_in.Goals as goal

pub returns-then-not-used : goal.returns-then-not-used
returns-then-not-used c = child_unused (sym (used_link c.args.catalog.now.listing c.args.link) ∙ sym c.used.ensures ∙ c.if-not-used.true)

pub link-requires : goal.link-requires
link-requires c = sym (used_link c.args.catalog.now.listing c.args.link) ∙ sym c.used.ensures ∙ c.if-not-used.false

pub returns : goal.returns
returns c = child_decides c.link.result.now c.link.ensures.is _ (search (rules, tests))
