-- The image fits with another root, too.
use Rattle.std.proofs.Common.{sym, subst, arith}
use Rattle.rss_base.specs.Listings.{ListingFits}
use Rattle.rss_catalog.proofs.Listed.{fits_with_root}
use Rattle.rss_catalog.proofs.catalog.Catalog.set_root.Goals as goal

pub returns-clause-fits : goal.returns-clause-fits
returns-clause-fits c = λ fits. subst ListingFits (sym c.set_image.ensures.is) (fits_with_root _ c.args.number c.args.root c.args.levels _ fits c.image-image.ensures.is (omega arith) c.requires.low (omega arith))
