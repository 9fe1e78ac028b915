-- The image that is put is safe, and no image stands behind the last one.
use Rattle.std.proofs.Common.{◌∙◌, ap, sym, length, subst, arith}
use Rattle.std.specs.Prelude.{IfSome}
use Rattle.std.proofs.lemmas.List.{length-set}
use Rattle.rss_base.specs.Listings.{Listing, with_image}
use Rattle.rss_catalog.specs.Catalogs.{CatalogView, IsSafeImage}
use Rattle.rss_catalog.specs.Checking.{listing_of}
use Rattle.rss_catalog.proofs.Listed.{safe_all, safe_kept, safe_with_image, none_behind_put}
use Rattle.rss_catalog.proofs.catalog.Catalog.set_image.Goals as goal

pub invariant_of-self-inside : goal.invariant_of-self-inside
invariant_of-self-inside c =
    let items = c.self.inside.images.items in
    let listing : Listing = listing_of c.self.inside.segments.items c.self.inside.relations.items items c.self.inside.links.items in
    let within = ap (λ (v : CatalogView). length v.listing.images) c.self.view_is in
    let safe = subst (λ (l : Listing). IfSome c.args.image (IsSafeImage l)) (ap (λ (v : CatalogView). v.listing) (sym c.self.view_is)) c.requires.safe in (
      c.self.inside.segment_places,
      (
        c.self.inside.relation_places,
        (
          c.self.inside.safe,
          (
            length-set items _ c.args.image ∙ c.self.inside.image_places,
            (
              safe_kept (with_image listing c.from.result c.args.image) (safe_with_image listing c.from.result c.args.image (omega arith) (omega (arith, within)) safe (safe_all listing c.self.inside.safe_images)),
              ((λ k past. none_behind_put items c.self.inside.last_image c.from.result c.args.image (omega arith) c.self.inside.none_behind k (omega (arith, past))), (omega (arith, c.self.inside.image_places, within), (c.self.inside.link_places, (c.self.inside.safe_links, (c.self.inside.no_link_behind, (c.self.inside.few_links, (c.self.inside.last_used, tt))))))),
            ),
          ),
        ),
      ),
    )
