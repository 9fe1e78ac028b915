-- Listings that give the same pages are the same, and the pages of the empty one are zeros.
use Rattle.std.proofs.Common.{◌≡◌, ℕ, ◌+◌, ◌*◌, ◌/◌, ◌%◌, ◌<◌, ◌≤◌, List, length, take, drop, get_or, refl, sym, subst, ◌∙◌, ap, inl, inr, arith}
use Rattle.std.specs.Prelude.{map, option_map, IfSome, Option, Some, None}
use Rattle.std.proofs.lemmas.Bool.{cases_lt}
use Rattle.std.proofs.lemmas.Option.{none-some, same_Some}
use Rattle.std.proofs.lemmas.List.{same_lists, length-map, get_or-take, get_or-drop}
use Rattle.std.proofs.Math.Nat.{mul-le-mul_left}
use Rattle.rss_base.specs.Sizes.{system_pages}
use Rattle.rss_base.specs.Paged.{Held}
use Rattle.rss_base.specs.Listings.{Listing, ListingFits, ImageFits, LinkFits, IsSpelled, HoldsListing, catalog_page}
use Rattle.rss_base.specs.declared.tid.Tid.{Tid}
use Rattle.rss_catalog.specs.Reading.{pieces, segment_of, relation_of, image_of, link_of}
use Rattle.rss_catalog.specs.Defined.{unrooted, endless, settled, IsInBytes, IsListable, AreDefinitions, AreDefined, HasFewTuples, IsFirstFlaw, unmapped, undefined}
use Rattle.rss_catalog.specs.Checking.{AreOnce}
use Rattle.rss_catalog.proofs.Listed.{entry_moves, image_stays}
use Rattle.rss_catalog.proofs.Roles.{link_stays}
use Rattle.rss_catalog.proofs.Fronts.{map_has}
use Rattle.rss_catalog.proofs.Tested.{names_unrooted, names_endless, roles_endless, definitions_front}
use Rattle.rss_catalog.proofs.Read.{segments_back, relations_back, images_back, links_back, images_long}

-- a page of one is a page of the other
same_page : (held : Held) (one other : Listing) → HoldsListing held one → HoldsListing held other → (page : ℕ) → page < system_pages → catalog_page one page ≡ catalog_page other page
same_page held one other holds_one holds_other page low = same_Some (catalog_page one page) (catalog_page other page) (sym (holds_one page low) ∙ holds_other page low)

-- a place of a list, by the part of it that has so many places
place_on : {X : Type 0} (count : ℕ) (items : List X) (k : ℕ) (d : X) → 0 < count → get_or items k d ≡ get_or (take count (drop (count * (k / count)) items)) (k % count) d
place_on count items k d some =
    let from = count * (k / count) in
    let here : from + k % count ≡ k = omega arith in
    ap (λ (n : ℕ). get_or items n d) (sym here) ∙ sym (get_or-drop from items (k % count) d) ∙ sym (get_or-take count (drop from items) (k % count) d (omega (arith, some)))

place_low : (count parts k : ℕ) → 0 < count → k < count * parts → k / count < parts
place_low count parts k some low = elim (cases_lt (k / count) parts) [
  | inl less ↦ less
  | inr past ↦
      let room : count * parts ≤ count * (k / count) = mul-le-mul_left count past in
      absurd (omega (arith, room, low))
]

-- two lists are the same whose parts are
same_parts : {X : Type 0} (count parts : ℕ) (one other : List X) → 0 < count → length one ≡ count * parts → length other ≡ count * parts → ((part : ℕ) → part < parts → take count (drop (count * part) one) ≡ take count (drop (count * part) other)) → one ≡ other
same_parts {X = X} count parts one other some long long_other same = same_lists one other (long ∙ sym long_other) (λ k d low.
    place_on count one k d some ∙ ap (λ (l : List X). get_or l (k % count) d) (same (k / count) (place_low count parts k some (omega (arith, long, low)))) ∙ sym (place_on count other k d some))

-- the relations of a page, and the images, as they are read
relations_part : (listing : Listing) (part : ℕ) → IsListable listing → part < 6 → take 8 (drop (8 * part) listing.relations) ≡ map relation_of (pieces 512 8 (catalog_page listing (1 + part)))
relations_part listing part fits low = ap (λ (n : ℕ). take 8 (drop (8 * n) listing.relations)) (omega arith) ∙ sym (relations_back listing (1 + part) fits (omega arith) (omega arith))

images_part : (listing : Listing) (part : ℕ) → IsListable listing → part < 2 → take 64 (drop (64 * part) listing.images) ≡ map image_of (pieces 64 64 (catalog_page listing (7 + part)))
images_part listing part fits low = ap (λ (n : ℕ). take 64 (drop (64 * n) listing.images)) (omega arith) ∙ sym (images_back listing (7 + part) fits (omega arith) (omega arith))

-- two listings that are spelled by the same pages are the same
pub same_listable : (held : Held) (one other : Listing) → HoldsListing held one → HoldsListing held other → IsListable one → IsListable other → one ≡ other
same_listable held one other holds_one holds_other fits_one fits_other =
    let pages = same_page held one other holds_one holds_other in
    let names : one.segments ≡ other.segments = sym (segments_back one fits_one) ∙ ap (λ (bytes : List ℕ). map segment_of (pieces 16 8 bytes)) (pages 0 (omega arith)) ∙ segments_back other fits_other in
    let relations : one.relations ≡ other.relations = same_parts 8 6 one.relations other.relations (omega arith) fits_one.fit.relation_places fits_other.fit.relation_places (λ part low.
    relations_part one part fits_one low ∙ ap (λ (bytes : List ℕ). map relation_of (pieces 512 8 bytes)) (pages (1 + part) (omega (arith, low))) ∙ sym (relations_part other part fits_other low)) in
    let images : one.images ≡ other.images = same_parts 64 2 one.images other.images (omega arith) (images_long one fits_one) (images_long other fits_other) (λ part low.
    images_part one part fits_one low ∙ ap (λ (bytes : List ℕ). map image_of (pieces 64 64 bytes)) (pages (7 + part) (omega (arith, low))) ∙ sym (images_part other part fits_other low)) in
    let links : one.links ≡ other.links = sym (links_back one fits_one) ∙ ap (λ (bytes : List ℕ). map link_of (pieces 64 64 bytes)) (pages 9 (omega arith)) ∙ links_back other fits_other in
    λ i. record { segments = names i; relations = relations i; images = images i; links = links i }

in_bytes : (end : Option Tid) → IfSome end IsSpelled → IfSome end IsInBytes
in_bytes None is = tt
in_bytes (Some tid) is = record { page = is.0; slot = omega (arith, is.1); some = λ same. omega (arith, is.1, ap (λ (t : Tid). t.slot) same) }

-- a listing that fits is one of them
pub listable_of : (listing : Listing) → ListingFits listing → IsListable listing
listable_of listing fits = record {
  rooted = λ number image is. let fit = fits.paths.images number image is in record { levels = fit.levels; root = fit.root };
  ended = λ number link is. let fit = fits.paths.links number link is in record { first = in_bytes link.first fit.first; last = in_bytes link.last fit.last };
  fit = record {
    segment_places = fits.segment_places;
    relation_places = fits.relation_places;
    segment_names = fits.segment_names;
    segments_once = fits.segments_once;
    relations_once = fits.relations_once;
    relations = λ number entry is. entry_moves listing (settled listing) entry refl (fits.relations number entry is);
    paths = record {
      image_places = length-map listing.images (option_map unrooted) ∙ fits.paths.image_places;
      link_places = length-map listing.links (option_map endless) ∙ fits.paths.link_places;
      images_once = subst AreOnce (sym (names_unrooted listing.images)) fits.paths.images_once;
      links_once = subst AreOnce (sym (names_endless listing.links)) fits.paths.links_once;
      images = λ number image is.
          let has = map_has unrooted listing.images number image is in
          let fit = fits.paths.images number has.0 has.1 in
          subst (ImageFits (settled listing)) has.2 (image_stays listing (settled listing) (unrooted has.0) refl (record {
            name = fit.name;
            relation = fit.relation;
            listed = fit.listed;
            some = fit.some;
            few = fit.few;
            long = fit.long;
            places = fit.places;
            within = fit.within;
            different = fit.different;
            narrow = fit.narrow;
            some_levels = omega arith;
            levels = omega arith;
            root = omega arith;
          }));
      links = λ number link is.
          let has = map_has endless listing.links number link is in
          let fit = fits.paths.links number has.0 has.1 in
          subst (LinkFits (settled listing)) has.2 (link_stays listing (settled listing) (endless has.0) refl (record { name = fit.name; child = fit.child; parent = fit.parent; first = tt; last = tt; early = fit.early }));
      few_roles = λ number. subst (λ (n : ℕ). n ≤ 16) (sym (roles_endless number listing.links)) (fits.paths.few_roles number);
    };
  };
}

-- two listings that fit and are spelled by the same pages are the same
pub same_listing : (held : Held) (one other : Listing) → HoldsListing held one → HoldsListing held other → ListingFits one → ListingFits other → one ≡ other
same_listing held one other holds_one holds_other fits_one fits_other = same_listable held one other holds_one holds_other (listable_of one fits_one) (listable_of other fits_other)

-- ---- stores have no flaw

-- the pages of definitions are defined, page by page
pub all_defined : (held : Held) (listing : Listing) → HoldsListing held listing → AreDefinitions listing → (page : ℕ) → page < system_pages → AreDefined held page
all_defined held listing holds are page low = record { listing = listing; spells = λ p few. holds p (omega (arith, few, low)); are = definitions_front listing page are }

-- so they have no first flaw
pub no_flaw : (held : Held) (listing : Listing) (page : ℕ) → HoldsListing held listing → AreDefinitions listing → IsFirstFlaw held page → ⊥
no_flaw held listing page holds are (unmapped low none before) = none-some (catalog_page listing page) (sym none ∙ holds page low)
no_flaw held listing page holds are (undefined low not there before) = not (all_defined held listing holds are page low)

-- a listing that fits, with few tuples, has none
pub fits_no_flaw : (held : Held) (listing : Listing) (page : ℕ) → HoldsListing held listing → ListingFits listing → HasFewTuples listing → IsFirstFlaw held page → ⊥
fits_no_flaw held listing page holds fits few = no_flaw held listing page holds (record { listable = listable_of listing fits; few = few })
