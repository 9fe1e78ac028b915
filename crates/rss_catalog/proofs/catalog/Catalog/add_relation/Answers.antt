-- The relation fits at the least number that was free, of which no image is, and no link.
use Rattle.rss_catalog.proofs.Listed.{added_relation, unused_relation}
use Rattle.rss_catalog.proofs.catalog.Catalog.add_relation.Goals as goal

pub set_relation-requires-clause-no_image : goal.set_relation-requires-clause-no_image
set_relation-requires-clause-no_image c = λ used has. unused_relation _ _ _ c.first_unused.ensures.some c.unwrap-number.ensures used

pub set_relation-requires-clause-no_link : goal.set_relation-requires-clause-no_link
set_relation-requires-clause-no_link c = λ used has. unused_relation _ _ _ c.first_unused.ensures.some c.unwrap-number.ensures used

pub returns-clause-fits : goal.returns-clause-fits
returns-clause-fits c = added_relation _ _ c.args.relation _ _ c.first_unused.ensures.some c.unwrap-number.ensures c.requires.entry c.requires.fresh c.set_relation.ensures.lists.is
