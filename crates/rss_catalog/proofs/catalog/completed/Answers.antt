-- The catalog is that of the listing in which each image has a level, and no link an end that is none.
use Rattle.std.proofs.Common.{◌≡◌, ◌∙◌, ℕ, ◌<◌, ◌≤◌, true, List, Option, None, length, sym, ap, subst, arith, Vec, Global}
use Rattle.std.specs.Vec.{with_items}
use Rattle.std.proofs.lemmas.List.{length-map, with_items_is}
use Rattle.std.specs.Prelude.{map, option_map, is_some, IfSome, IfNone}
use Rattle.rss_base.specs.Listings.{Listing, ListingFits, numbered}
use Rattle.rss_base.specs.declared.image.ImageEntry.{ImageEntry}
use Rattle.rss_base.specs.declared.link.LinkEntry.{LinkEntry}
use Rattle.rss_catalog.specs.Catalogs.{none_pending}
use Rattle.rss_catalog.specs.Checking.{listing_of}
use Rattle.rss_catalog.specs.Defined.{leveled, mended, has_level, has_ends, AreRight, IsFirstWrong}
use Rattle.rss_catalog.proofs.Listed.{safe_fit, safe_image, safe_kept}
use Rattle.rss_catalog.proofs.Roles.{safe_link}
use Rattle.rss_catalog.proofs.Links.{safe_links_kept}
use Rattle.rss_catalog.proofs.Completed.{completed_fits}
use Rattle.rss_catalog.proofs.catalog.completed.Goals as goal

-- what was put in the place of each entry
kept : {X : Type 0} (f : X → X) (entries : Vec (Option X) Global) (now : List (Option X)) → now ≡ map (option_map f) entries.items → (with_items entries now).items ≡ map (option_map f) entries.items
kept f entries now is = with_items_is entries now (ap length is ∙ length-map entries.items (option_map f) ∙ sym entries.ok.0) ∙ is

pub invariant_of-catalog-inside : goal.invariant_of-catalog-inside
invariant_of-catalog-inside c =
    let found : Listing = listing_of c.args.segments.items c.args.relations.items c.args.images.items c.args.links.items in
    let images = kept leveled c.args.images c.mend.new.entries (c.mend.ensures ∙ ap (map (option_map leveled)) c.deref_mut.ensures.value) in
    let links = kept mended c.args.links c.mend-2.new.entries (c.mend-2.ensures ∙ ap (map (option_map mended)) c.deref_mut-2.ensures.value) in
    let listing : Listing = listing_of c.args.segments.items c.args.relations.items (with_items c.args.images c.mend.new.entries).items (with_items c.args.links c.mend-2.new.entries).items in
    let fits : ListingFits listing = subst ListingFits (sym (λ i. listing_of c.args.segments.items c.args.relations.items (images i) (links i))) (completed_fits found c.requires) in
    let last = subst (λ (items : List (Option ImageEntry)). (number : ℕ) → c.last_used-last_image.result < number → numbered items number ≡ None) c.deref-3.ensures.value c.last_used-last_image.ensures.none in
    let last_link = subst (λ (items : List (Option LinkEntry)). (number : ℕ) → c.last_used-last_link.result < number → numbered items number ≡ None) c.deref-4.ensures.value c.last_used-last_link.ensures.none in
    let link_used = subst (λ (items : List (Option LinkEntry)). 1 ≤ c.last_used-last_link.result → is_some (numbered items c.last_used-last_link.result) ≡ true) c.deref-4.ensures.value c.last_used-last_link.ensures.some in (
      fits.segment_places,
      (
        fits.relation_places,
        (
          (λ number entry is. safe_fit listing entry fits.segment_places (fits.relations number entry is)),
          (
            fits.paths.image_places,
            (
              safe_kept listing (λ number image is. safe_image listing image (fits.paths.images number image is)),
              (
                last,
                (
                  omega (arith, ap length c.deref-3.ensures.value, fits.paths.image_places),
                  (
                    fits.paths.link_places,
                    (safe_links_kept listing (λ number link is. safe_link listing link (fits.paths.links number link is)), (last_link, (omega (arith, ap length c.deref-4.ensures.value, fits.paths.link_places), (link_used, tt)))),
                  ),
                ),
              ),
            ),
          ),
        ),
      ),
    )

pub returns : goal.returns
returns c =
    let found : Listing = listing_of c.args.segments.items c.args.relations.items c.args.images.items c.args.links.items in
    let images = kept leveled c.args.images c.mend.new.entries (c.mend.ensures ∙ ap (map (option_map leveled)) c.deref_mut.ensures.value) in
    let links = kept mended c.args.links c.mend-2.new.entries (c.mend-2.ensures ∙ ap (map (option_map mended)) c.deref_mut-2.ensures.value) in
    record {
      is = λ i. record { listing = listing_of c.args.segments.items c.args.relations.items (images i) (links i); pending = none_pending };
      fits = completed_fits found c.requires;
      image_first = subst (λ (l : List (Option ImageEntry)). IfSome c.first_wrong-image.result (IsFirstWrong has_level l)) c.deref.ensures.value c.first_wrong-image.ensures.some;
      images_right = subst (λ (l : List (Option ImageEntry)). IfNone c.first_wrong-image.result (AreRight has_level l)) c.deref.ensures.value c.first_wrong-image.ensures.none;
      link_first = subst (λ (l : List (Option LinkEntry)). IfSome c.first_wrong-link.result (IsFirstWrong has_ends l)) c.deref-2.ensures.value c.first_wrong-link.ensures.some;
      links_right = subst (λ (l : List (Option LinkEntry)). IfNone c.first_wrong-link.result (AreRight has_ends l)) c.deref-2.ensures.value c.first_wrong-link.ensures.none;
    }
