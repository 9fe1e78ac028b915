-- The link fits with other ends, too.
use Rattle.std.proofs.Common.{sym, subst}
use Rattle.rss_base.specs.Listings.{ListingFits}
use Rattle.rss_catalog.proofs.Links.{safe_ends, fits_with_ends}
use Rattle.rss_catalog.proofs.catalog.Catalog.set_ends.Goals as goal

pub set_link-requires-clause-safe : goal.set_link-requires-clause-safe
set_link-requires-clause-safe c = safe_ends _ c.args.first c.args.last _ c.link-link.ensures.safe c.requires.first c.requires.last

pub returns-clause-fits : goal.returns-clause-fits
returns-clause-fits c = λ fits. subst ListingFits (sym c.set_link.ensures.is) (fits_with_ends _ c.args.number c.args.first c.args.last _ fits c.link-link.ensures.is c.requires.first c.requires.last)
