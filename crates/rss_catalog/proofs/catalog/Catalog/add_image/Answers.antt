-- The image fits at the least number that was free.
use Rattle.rss_catalog.proofs.Listed.{added_image}
use Rattle.rss_catalog.proofs.catalog.Catalog.add_image.Goals as goal

pub returns-clause-fits : goal.returns-clause-fits
returns-clause-fits c = added_image _ _ c.args.image _ _ c.first_unused.ensures.some c.unwrap-number.ensures c.requires.entry c.requires.fresh c.set_image.ensures.is
