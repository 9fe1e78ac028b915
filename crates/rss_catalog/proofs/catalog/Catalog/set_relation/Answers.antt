-- A relation that fits is safe, and no image is of the place, and no link.
use Rattle.std.proofs.Common.{refl, sym, ◌∙◌, ap, subst, length, arith}
use Rattle.std.proofs.lemmas.List.{length-set}
use Rattle.std.proofs.lemmas.Option.{IfSome_then}
use Rattle.rss_base.specs.Listings.{Listing, with_relation}
use Rattle.rss_catalog.specs.Catalogs.{CatalogView, HasImageOf, HasLinkOf}
use Rattle.rss_catalog.specs.Checking.{listing_of}
use Rattle.rss_catalog.proofs.Listed.{safe_put, safe_fit, safe_all, safe_kept, safe_off_relation, no_image_of}
use Rattle.rss_catalog.proofs.Links.{safe_links_all, safe_links_kept, safe_links_off, no_link_of}
use Rattle.rss_catalog.proofs.catalog.Catalog.set_relation.Goals as goal

pub invariant_of-self-inside : goal.invariant_of-self-inside
invariant_of-self-inside c =
    let items = c.self.inside.relations.items in
    let listing : Listing = listing_of c.self.inside.segments.items items c.self.inside.images.items c.self.inside.links.items in
    let places = ap (λ (v : CatalogView). length v.listing.segments) (sym c.self.view_is) ∙ c.self.inside.segment_places in
    let safe = IfSome_then c.args.relation c.requires.fits (λ entry fit. safe_fit c.args.self.now.listing entry places fit) in
    let images = safe_all listing c.self.inside.safe_images in
    let links = safe_links_all listing c.self.inside.safe_links in
    let unlinked = no_link_of listing c.args.self.now.listing c.args.number c.from.result (ap (λ (v : CatalogView). v.listing) c.self.view_is) c.from.ensures links c.requires.no_link in
    let none = no_image_of listing c.args.self.now.listing c.args.number c.from.result (ap (λ (v : CatalogView). v.listing) c.self.view_is) c.from.ensures images c.requires.no_image in (
      c.self.inside.segment_places,
      (
        length-set items _ c.args.relation ∙ c.self.inside.relation_places,
        (
          safe_put items c.from.result c.args.relation (omega arith) (omega (arith, ap (λ (v : CatalogView). length v.listing.relations) c.self.view_is)) c.self.inside.safe safe,
          (
            c.self.inside.image_places,
            (
              safe_kept (with_relation listing c.from.result c.args.relation) (safe_off_relation listing c.from.result c.args.relation (omega arith) none images),
              (
                c.self.inside.none_behind,
                (
                  c.self.inside.few_images,
                  (
                    c.self.inside.link_places,
                    (
                      safe_links_kept (with_relation listing c.from.result c.args.relation) (safe_links_off listing c.from.result c.args.relation (omega arith) unlinked links),
                      (c.self.inside.no_link_behind, (c.self.inside.few_links, (c.self.inside.last_used, tt))),
                    ),
                  ),
                ),
              ),
            ),
          ),
        ),
      ),
    )

pub returns-clause-none : goal.returns-clause-none
returns-clause-none c = λ has.
    let listing : Listing = listing_of c.self.inside.segments.items c.self.inside.relations.items c.self.inside.images.items c.self.inside.links.items in
    no_image_of listing c.args.self.now.listing c.args.number c.args.number (ap (λ (v : CatalogView). v.listing) c.self.view_is) refl (safe_all listing c.self.inside.safe_images) c.requires.no_image
    (subst (λ (v : CatalogView). HasImageOf v.listing c.args.number) (sym c.self.view_is) has)

pub returns-clause-unlinked : goal.returns-clause-unlinked
returns-clause-unlinked c = λ has.
    let listing : Listing = listing_of c.self.inside.segments.items c.self.inside.relations.items c.self.inside.images.items c.self.inside.links.items in
    no_link_of listing c.args.self.now.listing c.args.number c.args.number (ap (λ (v : CatalogView). v.listing) c.self.view_is) refl (safe_links_all listing c.self.inside.safe_links) c.requires.no_link
    (subst (λ (v : CatalogView). HasLinkOf v.listing c.args.number) (sym c.self.view_is) has)
