use Rattle.std.proofs.Common.{rules, tests, sym, ◌∙◌}
use Rattle.rss_draft.proofs.FreeNow.{used_image, unique_unused, unique_not, unique_decides}
use Rattle.rss_draft.proofs.free.is_unique_of.Goals as goal

pub returns-then-not-used : goal.returns-then-not-used
returns-then-not-used c = unique_unused (sym (used_image c.args.catalog.now.listing c.args.image) ∙ sym c.used.ensures ∙ c.if-not-used.true)

pub image-entry-requires : goal.image-entry-requires
image-entry-requires c = sym (used_image c.args.catalog.now.listing c.args.image) ∙ sym c.used.ensures ∙ c.if-not-used.false

pub returns-then-not-entry : goal.returns-then-not-entry
returns-then-not-entry c = unique_not c.image-entry.result.now c.image-entry.ensures.is c.if-not-entry.true

pub returns : goal.returns
returns c = unique_decides c.image-entry.result.now c.image-entry.ensures.is c.if-not-entry.false _ (search (rules, tests))
