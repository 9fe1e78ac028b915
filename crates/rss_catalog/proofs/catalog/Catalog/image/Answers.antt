-- Each image of a catalog is safe.
use Rattle.std.proofs.Common.{◌∙◌, ap, sym, subst, List, Option}
use Rattle.rss_base.specs.Listings.{Listing, numbered}
use Rattle.rss_base.specs.declared.image.ImageEntry.{ImageEntry}
use Rattle.rss_catalog.specs.Catalogs.{CatalogView, IsSafeImage}
use Rattle.rss_catalog.specs.Checking.{listing_of}
use Rattle.rss_catalog.proofs.Listed.{safe_all}
use Rattle.rss_catalog.proofs.catalog.Catalog.image.Goals as goal

pub returns-clause-safe : goal.returns-clause-safe
returns-clause-safe c =
    let listing : Listing = listing_of c.self.inside.segments.items c.self.inside.relations.items c.self.inside.images.items c.self.inside.links.items in
    subst (λ (l : Listing). IsSafeImage l c.in-Some.image.now) (ap (λ (v : CatalogView). v.listing) c.self.view_is)
    (safe_all listing c.self.inside.safe_images c.args.number _ (ap (λ (l : List (Option ImageEntry)). numbered l c.args.number) (sym c.deref.ensures.value) ∙ c.in-Some.ensures.some))
