-- A listing in which each image has a level, and no link an end that is none.
use Rattle.std.proofs.Common.{◌≡◌, ℕ, ◌+◌, ◌^◌, ◌<◌, ◌≤◌, Bool, true, false, cond, List, length, get_or, map, Option, Some, None, refl, sym, ◌∙◌, ap, subst, arith}
use Rattle.std.specs.Prelude.{option_map, count_by, IfSome, IfNone, ◌&&◌}
use Rattle.std.proofs.lemmas.Bool.{and_parts, leb-true, le-leb, cond-true, false≢true}
use Rattle.std.proofs.lemmas.List.{length-map, same_lists, get_or-map, get_or_default}
use Rattle.rss_base.specs.DiskRule.{IsTold}
use Rattle.rss_base.specs.Steps.{PagesView}
use Rattle.rss_base.specs.Listings.{Listing, ListingFits, ImageFits, LinkFits, IsSpelled, HoldsListing, numbered, has_role}
use Rattle.rss_base.specs.declared.tid.Tid.{Tid}
use Rattle.rss_base.specs.declared.image.ImageEntry.{ImageEntry}
use Rattle.rss_base.specs.declared.link.LinkEntry.{LinkEntry}
use Rattle.rss_catalog.specs.Catalogs.{CatalogView, Loads}
use Rattle.rss_catalog.specs.Checking.{AreOnce}
use Rattle.rss_catalog.specs.Defined.{unrooted, endless, settled, AreDefinitions, IsRooted, IsEnded, IsInBytes, has_level, leveled, is_end, has_ends, mended, completed, AreRight, IsFirstWrong, LoadsDefined}
use Rattle.rss_catalog.proofs.Numbered.{has_number}
use Rattle.rss_catalog.proofs.Listed.{entry_moves, image_stays}
use Rattle.rss_catalog.proofs.Roles.{link_stays}
use Rattle.rss_catalog.proofs.Fronts.{map_has, has_map}
use Rattle.rss_catalog.proofs.Tested.{map_map, names_unrooted, names_endless, roles_map, roles_endless}
use Rattle.rss_catalog.proofs.Read.{images_long, links_long}
use Rattle.rss_catalog.proofs.Same.{same_listable, listable_of}

-- ---- images

name_leveled : (image : ImageEntry) → (leveled image).name ≡ image.name
name_leveled image = by (has_level image) where
  by : (b : Bool) → (cond b image (record image { levels = 1 })).name ≡ image.name
  by true = refl
  by false = refl

-- an image that fits whatever its levels fits with some
with_levels : (listing : Listing) (image : ImageEntry) (levels : ℕ) → ImageFits listing (unrooted image) → image.root < 2 ^ 32 → 1 ≤ levels → levels < 2 ^ 8 → ImageFits listing (record image { levels = levels })
with_levels listing image levels fit low_root some low = record {
  name = fit.name;
  relation = fit.relation;
  listed = fit.listed;
  some = fit.some;
  few = fit.few;
  long = fit.long;
  places = fit.places;
  within = fit.within;
  different = fit.different;
  narrow = fit.narrow;
  some_levels = some;
  levels = low;
  root = low_root;
}

level_fits : (listing : Listing) (image : ImageEntry) (b : Bool) → has_level image ≡ b → ImageFits listing (unrooted image) → IsRooted image → ImageFits listing (cond b image (record image { levels = 1 }))
level_fits listing image true has fit rooted = with_levels listing image image.levels fit rooted.root (leb-true 1 image.levels has) rooted.levels
level_fits listing image false has fit rooted = with_levels listing image 1 fit rooted.root (omega arith) (omega arith)

-- ---- links

name_mended : (link : LinkEntry) → (mended link).name ≡ link.name
name_mended link = by (has_ends link) where
  by : (b : Bool) → (cond b link (endless link)).name ≡ link.name
  by true = refl
  by false = refl

role_mended : (number : ℕ) (link : LinkEntry) → has_role number (Some (mended link)) ≡ has_role number (Some link)
role_mended number link = by (has_ends link) where
  by : (b : Bool) → has_role number (Some (cond b link (endless link))) ≡ has_role number (Some link)
  by true = refl
  by false = refl

roles_mended : (number : ℕ) (links : List (Option LinkEntry)) → count_by (has_role number) (map (option_map mended) links) ≡ count_by (has_role number) links
roles_mended number links = roles_map number mended (role_mended number) links

spelled_end : (end : Option Tid) → is_end end ≡ true → IfSome end IsInBytes → IfSome end IsSpelled
spelled_end None is has = tt
spelled_end (Some tid) is has = (has.page, omega (arith, leb-true (1 + tid.slot) 128 is))

end_fits : (listing : Listing) (link : LinkEntry) (b : Bool) → has_ends link ≡ b → LinkFits listing (endless link) → IsEnded link → LinkFits listing (cond b link (endless link))
end_fits listing link true has fit ended =
    let parts = and_parts (is_end link.first) (is_end link.last) has in
    record { name = fit.name; child = fit.child; parent = fit.parent; first = spelled_end link.first parts.0 ended.first; last = spelled_end link.last parts.1 ended.last; early = fit.early }
end_fits listing link false has fit ended = fit

-- ---- the listing

pub completed_fits : (listing : Listing) → AreDefinitions listing → ListingFits (completed listing)
completed_fits listing are =
    let fits = are.listable.fit in
    record {
      segment_places = fits.segment_places;
      relation_places = fits.relation_places;
      segment_names = fits.segment_names;
      segments_once = fits.segments_once;
      relations_once = fits.relations_once;
      relations = λ number entry is. entry_moves (settled listing) (completed listing) entry refl (fits.relations number entry is);
      paths = record {
        image_places = length-map listing.images (option_map leveled) ∙ images_long listing are.listable;
        link_places = length-map listing.links (option_map mended) ∙ links_long listing are.listable;
        images_once = subst AreOnce (names_unrooted listing.images ∙ sym (map_map (λ (image : ImageEntry). image.name) leveled name_leveled listing.images)) fits.paths.images_once;
        links_once = subst AreOnce (names_endless listing.links ∙ sym (map_map (λ (link : LinkEntry). link.name) mended name_mended listing.links)) fits.paths.links_once;
        images = λ number image is.
            let has = map_has leveled listing.images number image is in
            let fit = fits.paths.images number (unrooted has.0) (has_map unrooted listing.images number has.0 has.1) in
            subst (ImageFits (completed listing)) has.2 (level_fits (completed listing) has.0 (has_level has.0) refl (image_stays (settled listing) (completed listing) (unrooted has.0) refl fit) (are.listable.rooted number has.0 has.1));
        links = λ number link is.
            let has = map_has mended listing.links number link is in
            let fit = fits.paths.links number (endless has.0) (has_map endless listing.links number has.0 has.1) in
            subst (LinkFits (completed listing)) has.2 (end_fits (completed listing) has.0 (has_ends has.0) refl (link_stays (settled listing) (completed listing) (endless has.0) refl fit) (are.listable.ended number has.0 has.1));
        few_roles = λ number. subst (λ (n : ℕ). n ≤ 16) (roles_endless number listing.links ∙ sym (roles_mended number listing.links)) (fits.paths.few_roles number);
      };
    }

-- ---- where all are right

map_same : {X : Type 0} (f : X → X) (items : List (Option X)) → ((number : ℕ) (item : X) → numbered items number ≡ Some item → f item ≡ item) → map (option_map f) items ≡ items
map_same {X = X} f items same = same_lists (map (option_map f) items) items (length-map items (option_map f)) (λ k d low.
    let less : k < length items = omega (arith, low, length-map items (option_map f)) in
    get_or-map (option_map f) items k None d less ∙ by k less (get_or items k None) refl ∙ get_or_default items k None d less) where
      by : (k : ℕ) → k < length items → (o : Option X) → get_or items k None ≡ o → option_map f (get_or items k None) ≡ get_or items k None
      by k low None is = ap (option_map f) is ∙ sym is
      by k low (Some item) is = ap (option_map f) is ∙ ap Some (same (k + 1) item (has_number items k None item low is)) ∙ sym is

pub completed_same : (listing : Listing) → AreRight has_level listing.images → AreRight has_ends listing.links → completed listing ≡ listing
completed_same listing images links = λ i. record {
  segments = listing.segments;
  relations = listing.relations;
  images = map_same leveled listing.images (λ number image is. cond-true (has_level image) _ _ (images number image is)) i;
  links = map_same mended listing.links (λ number link is. cond-true (has_ends link) _ _ (links number link is)) i;
}

none_right : {X : Type 0} (right : X → Bool) (items : List (Option X)) (found : Option ℕ) → found ≡ None → IfNone found (AreRight right items) → AreRight right items
none_right right items None is are = are
none_right right items (Some number) is are = absurd (cc)

-- the catalog of pages that spell a listing as a store has it
pub loads_of : (pages : PagesView) (catalog : CatalogView) (image link : Option ℕ) → LoadsDefined pages catalog image link → image ≡ None → link ≡ None → Loads pages catalog
loads_of pages catalog image link loads no_image no_link =
    let same = completed_same loads.listing (none_right has_level loads.listing.images image no_image loads.of.images_right) (none_right has_ends loads.listing.links link no_link loads.of.links_right) in
    let listed : catalog.listing ≡ completed loads.listing = ap (λ (v : CatalogView). v.listing) loads.of.is in
    record {
      mapped = loads.mapped;
      fits = subst ListingFits (sym listed) loads.of.fits;
      holds = λ told. subst (HoldsListing pages.held) (sym (listed ∙ same)) (loads.spells told);
      written = ap (λ (v : CatalogView). v.pending) loads.of.is;
    }

pub catalog_fits : (pages : PagesView) (catalog : CatalogView) (image link : Option ℕ) → LoadsDefined pages catalog image link → ListingFits catalog.listing
catalog_fits pages catalog image link loads = subst ListingFits (sym (ap (λ (v : CatalogView). v.listing) loads.of.is)) loads.of.fits

-- ---- pages that spell a listing as a store has it

-- it is the one that was found, and all are right
module _ (pages : PagesView) (catalog : CatalogView) (image link : Option ℕ) (loads : LoadsDefined pages catalog image link) (told : IsTold pages.disk) (other : Listing) (holds : HoldsListing pages.held other) (fits : ListingFits other) where
  found_same : loads.listing ≡ other
  found_same = same_listable pages.held loads.listing other (loads.spells told) holds loads.are.listable (listable_of other fits)

  images_right : AreRight has_level loads.listing.images
  images_right number found is = le-leb 1 found.levels (fits.paths.images number found (ap (λ (l : Listing). numbered l.images number) (sym found_same) ∙ is)).some_levels

  right_end : (end : Option Tid) → IfSome end IsSpelled → is_end end ≡ true
  right_end None is = refl
  right_end (Some tid) is = le-leb (1 + tid.slot) 128 (omega (arith, is.1))

  links_right : AreRight has_ends loads.listing.links
  links_right number found is =
      let fit = fits.paths.links number found (ap (λ (l : Listing). numbered l.links number) (sym found_same) ∙ is) in
      (λ i. right_end found.first fit.first i && right_end found.last fit.last i)

  pub stored_same : catalog.listing ≡ other
  stored_same = ap (λ (v : CatalogView). v.listing) loads.of.is ∙ completed_same loads.listing images_right links_right ∙ found_same

  pub stored_image : (number : ℕ) → image ≡ Some number → ⊥
  stored_image number is =
      let first = subst (λ (o : Option ℕ). IfSome o (IsFirstWrong has_level loads.listing.images)) is loads.of.image_first in
      false≢true (sym first.wrong ∙ images_right number first.item first.at)

  pub stored_link : (number : ℕ) → link ≡ Some number → ⊥
  stored_link number is =
      let first = subst (λ (o : Option ℕ). IfSome o (IsFirstWrong has_ends loads.listing.links)) is loads.of.link_first in
      false≢true (sym first.wrong ∙ links_right number first.item first.at)
