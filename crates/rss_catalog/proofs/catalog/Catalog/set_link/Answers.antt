-- The link that is put is safe, and the last link is found anew.
use Rattle.std.proofs.Common.{◌≡◌, ◌∙◌, ◌-◌, ◌<◌, ◌≤◌, ℕ, true, List, Option, None, ap, sym, length, subst, arith}
use Rattle.std.specs.Prelude.{IfSome, is_some}
use Rattle.std.proofs.lemmas.List.{length-set}
use Rattle.rss_base.specs.Listings.{Listing, numbered, with_link}
use Rattle.rss_base.specs.declared.link.LinkEntry.{LinkEntry}
use Rattle.rss_catalog.specs.Catalogs.{CatalogView, IsSafeLink}
use Rattle.rss_catalog.specs.Checking.{listing_of}
use Rattle.rss_catalog.proofs.Links.{safe_links_all, safe_links_kept, safe_links_put}
use Rattle.rss_catalog.proofs.catalog.Catalog.set_link.Goals as goal

pub invariant_of-self-inside : goal.invariant_of-self-inside
invariant_of-self-inside c =
    let items = c.self.inside.links.items in
    let listing : Listing = listing_of c.self.inside.segments.items c.self.inside.relations.items c.self.inside.images.items items in
    let within = ap (λ (v : CatalogView). length v.listing.links) c.self.view_is in
    let safe = subst (λ (l : Listing). IfSome c.args.link (IsSafeLink l)) (ap (λ (v : CatalogView). v.listing) (sym c.self.view_is)) c.requires.safe in (
      c.self.inside.segment_places,
      (
        c.self.inside.relation_places,
        (
          c.self.inside.safe,
          (
            c.self.inside.image_places,
            (
              c.self.inside.safe_images,
              (
                c.self.inside.none_behind,
                (
                  c.self.inside.few_images,
                  (
                    length-set items _ c.args.link ∙ c.self.inside.link_places,
                    (
                      safe_links_kept (with_link listing c.from.result c.args.link) (safe_links_put listing c.from.result c.args.link (omega arith) (omega (arith, within)) safe (safe_links_all listing c.self.inside.safe_links)),
                      (
                        subst (λ (l : List (Option LinkEntry)). (k : ℕ) → c.last_used-self-inside.result < k → numbered l k ≡ None) c.deref.ensures.value c.last_used-self-inside.ensures.none,
                        (
                          omega (arith, c.last_used-self-inside.ensures.few, ap length c.deref.ensures.value, length-set items (c.from.result - 1) c.args.link, c.self.inside.link_places),
                          (subst (λ (l : List (Option LinkEntry)). 1 ≤ c.last_used-self-inside.result → is_some (numbered l c.last_used-self-inside.result) ≡ true) c.deref.ensures.value c.last_used-self-inside.ensures.some, tt),
                        ),
                      ),
                    ),
                  ),
                ),
              ),
            ),
          ),
        ),
      ),
    )
