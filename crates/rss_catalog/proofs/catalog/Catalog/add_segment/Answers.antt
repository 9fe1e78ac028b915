use Rattle.rss_catalog.proofs.Listed.{added_segment}
use Rattle.rss_catalog.proofs.catalog.Catalog.add_segment.Goals as goal

pub returns-clause-fits : goal.returns-clause-fits
returns-clause-fits c = added_segment _ _ c.args.name _ _ c.first_unused.ensures.some c.unwrap-number.ensures c.requires.name c.requires.fresh c.set_segment.ensures.is
