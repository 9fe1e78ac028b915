-- The link fits at the least number that was free.
use Rattle.rss_catalog.proofs.Roles.{safe_link}
use Rattle.rss_catalog.proofs.Links.{added_link}
use Rattle.rss_catalog.proofs.catalog.Catalog.add_link.Goals as goal

pub set_link-requires-clause-safe : goal.set_link-requires-clause-safe
set_link-requires-clause-safe c = safe_link _ c.args.link c.requires.entry

pub returns-clause-fits : goal.returns-clause-fits
returns-clause-fits c = added_link _ _ c.args.link _ _ c.first_unused.ensures.some c.unwrap-number.ensures c.requires.entry c.requires.fresh c.requires.roles c.set_link.ensures.is
