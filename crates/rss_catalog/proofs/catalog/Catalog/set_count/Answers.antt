-- Another count is no other relation: it is as safe, and its images too.
use Rattle.std.proofs.Common.{◌∙◌, ap, refl, Some, arith, sym, subst}
use Rattle.std.proofs.lemmas.List.{length-set}
use Rattle.rss_base.specs.Listings.{Listing, with_count, with_relation, ListingFits}
use Rattle.rss_catalog.specs.Catalogs.{CatalogView}
use Rattle.rss_catalog.specs.Checking.{listing_of}
use Rattle.rss_catalog.proofs.Listed.{safe_put, counted_in_place, fits_with_count, is_listed, within_listed, safe_count, safe_all, safe_kept, safe_with_count}
use Rattle.rss_catalog.proofs.Links.{safe_links_all, safe_links_kept, safe_links_counted}
use Rattle.rss_catalog.proofs.catalog.Catalog.set_count.Goals as goal

pub invariant_of-self-inside : goal.invariant_of-self-inside
invariant_of-self-inside c =
    let items = c.self.inside.relations.items in
    let listing : Listing = listing_of c.self.inside.segments.items items c.self.inside.images.items c.self.inside.links.items in
    let within = within_listed _ _ c.args.self.now c.args.number c.self.view_is c.requires in
    let here = is_listed items c.from.result c.from.result c.index_mut.result.now c.in-Some.relation refl (omega (arith, within), omega (arith, within)) c.index_mut.ensures.value c.in-Some.is in (
      c.self.inside.segment_places,
      (
        length-set items _ _ ∙ c.self.inside.relation_places,
        (
          safe_put items c.from.result (Some (with_count c.args.live c.in-Some.relation)) (omega arith) (omega arith) c.self.inside.safe (safe_count (c.self.inside.safe c.from.result c.in-Some.relation here)),
          (
            c.self.inside.image_places,
            (
              safe_kept (with_relation listing c.from.result (Some (with_count c.args.live c.in-Some.relation))) (safe_with_count listing c.from.result c.args.live c.in-Some.relation here (safe_all listing c.self.inside.safe_images)),
              (
                c.self.inside.none_behind,
                (
                  c.self.inside.few_images,
                  (
                    c.self.inside.link_places,
                    (
                      safe_links_kept (with_relation listing c.from.result (Some (with_count c.args.live c.in-Some.relation))) (safe_links_counted listing c.from.result c.args.live c.in-Some.relation here (safe_links_all listing c.self.inside.safe_links)),
                      (c.self.inside.no_link_behind, (c.self.inside.few_links, (c.self.inside.last_used, tt))),
                    ),
                  ),
                ),
              ),
            ),
          ),
        ),
      ),
    )

pub returns-clause-lists : goal.returns-clause-lists
returns-clause-lists c = counted_in_place _ _ _ _ _ _ _ _ _ _ _ _ _ c.self.view_is c.from.ensures (c.from-2.ensures ∙ c.page_of.ensures.page) c.index_mut.ensures.value c.in-Some.is

pub returns-clause-fits : goal.returns-clause-fits
returns-clause-fits c = λ fits.
    let within = within_listed _ _ c.args.self.now c.args.number c.self.view_is c.requires in
    let here = is_listed c.self.inside.relations.items c.args.number c.from.result c.index_mut.result.now c.in-Some.relation c.from.ensures within c.index_mut.ensures.value c.in-Some.is in
    rw c.from.ensures (fits_with_count (listing_of c.self.inside.segments.items c.self.inside.relations.items c.self.inside.images.items c.self.inside.links.items) c.args.number c.args.live c.in-Some.relation (subst ListingFits (ap (λ (v : CatalogView). v.listing) (sym c.self.view_is)) fits) here (omega arith))
