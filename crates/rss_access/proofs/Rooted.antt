-- A catalog in which images begin elsewhere: what it lists else, and which of its pages are spelled as they were.
use Rattle.std.proofs.Common.{◌≡◌, ◌≢◌, ◌⊎◌, inl, inr, ℕ, ◌+◌, ◌-◌, ◌*◌, ◌/◌, ◌<◌, ◌≤◌, Bool, true, false, cond, ◌==◌, List, length, take, drop, get_or, refl, sym, ◌∙◌, ap, arith}
use Rattle.std.specs.Prelude.{Option, Some, None, option_map, slice_set, flat_map, nat_le, map as list_map}
use Rattle.std.proofs.lemmas.Bool.{cases_eq, cases_lt, leb-false, true≢false}
use Rattle.std.proofs.lemmas.List.{length-set, get_or-set_same, get_or-set_other, take-set-le, drop-set-lt, drop-set-add, set-get_or, get_or_past}
use Rattle.std.proofs.Math.Seq.{map-set_same}
use Rattle.rss_base.specs.Listings.{Listing, ListingFits, image_at, with_image, with_root, catalog_page, relation_spelled, relations_on, image_spelled, images_on, link_spelled, padded}
use Rattle.rss_base.specs.declared.image.ImageEntry.{ImageEntry}
use Rattle.rss_base.specs.declared.refusal.Kind.TheVariants.{Image as ImageKind}
use Rattle.rss_catalog.specs.Catalogs.{CatalogView, Lists, page_of}
use Rattle.rss_catalog.proofs.Numbered.{numbered_at, numbered_within}
use Rattle.rss_model.specs.Meanings.{rootless}
use Rattle.rss_access.specs.Moved.{Reroots}
use Rattle.rss_access.specs.Relisted.{KeepsSpelled, Rerooted}
use Rattle.rss_access.proofs.Rerooting.{keeps_then, rerooted_itself}

-- ---- catalogs

pub rerooted_then : {old mid new : CatalogView} → Rerooted old mid → Rerooted mid new → Rerooted old new
rerooted_then first then = record {
  segments = then.segments ∙ first.segments;
  relations = then.relations ∙ first.relations;
  images = then.images ∙ first.images;
  links = then.links ∙ first.links;
  keeps = keeps_then first.keeps then.keeps;
  fits = λ fit. then.fits (first.fits fit);
}

-- ---- pages of the catalog

-- a part of a list that a place is not in
part_same : {A : Type 0} (from count : ℕ) (list : List A) (i : ℕ) (a : A) → (i < from) ⊎ (from + count ≤ i) → take count (drop from (slice_set list i a)) ≡ take count (drop from list)
part_same from count list i a (inl before) = ap (take count) (drop-set-lt from list i a before)
part_same {A = A} from count list i a (inr behind) =
    let place : from + (i - from) ≡ i = omega (arith, behind) in
    ap (λ (j : ℕ). take count (drop from (slice_set list j a))) (sym place) ∙ ap (take count) (drop-set-add from list (i - from) a) ∙ take-set-le count (drop from list) (i - from) a (omega (arith, behind))

outside : (i page : ℕ) → 6 < page → page ≢ 7 + i / 64 → (i < 64 * (page - 1 - 6)) ⊎ (64 * (page - 1 - 6) + 64 ≤ i)
outside i page behind off = elim (cases_lt i (64 * (page - 1 - 6))) [
  | inl before ↦ inl before
  | inr from ↦ elim (cases_lt i (64 * (page - 1 - 6) + 64)) [
    | inl inside ↦ absurd (off (omega (arith, from, inside, behind)))
    | inr past ↦ inr past
  ]
]

either_same : (b : Bool) (one two other : List ℕ) → (b ≡ false → two ≡ other) → cond b one two ≡ cond b one other
either_same true one two other same = refl
either_same false one two other same = same refl

-- a page that doesn't have the image's place
pub page_same : (listing : Listing) (number : ℕ) (image : Option ImageEntry) (page : ℕ) → page ≢ 7 + (number - 1) / 64 → catalog_page (with_image listing number image) page ≡ catalog_page listing page
page_same listing number image page other =
    ap (padded 4096)
    (either_same (page == 0) _ _ _ (λ some. either_same (nat_le page 6) (flat_map relation_spelled (relations_on listing page)) _ _ (λ behind.
    let part : images_on (with_image listing number image) page ≡ images_on listing page = part_same (64 * (page - 1 - 6)) 64 listing.images (number - 1) image (outside (number - 1) page (leb-false page 6 behind) other) in
    ap (λ (on_page : List (Option ImageEntry)). cond (nat_le page 8) (flat_map image_spelled on_page) (flat_map link_spelled listing.links)) part)))

-- ---- an image that begins elsewhere

module _ (listing : Listing) (number : ℕ) (image : ImageEntry) (at : image_at listing number ≡ Some image) where
  within : (1 ≤ number) × (number ≤ length listing.images)
  within = numbered_within listing.images number image at

  its_place : get_or listing.images (number - 1) None ≡ Some image
  its_place = sym (numbered_at listing.images number within.0 within.1) ∙ at

  -- the same but for the root and the levels
  pub images_same : (root levels : ℕ) → list_map (option_map rootless) (with_image listing number (Some (with_root root levels image))).images ≡ list_map (option_map rootless) listing.images
  images_same root levels = map-set_same (option_map rootless) listing.images (number - 1) (Some (with_root root levels image)) None (ap (option_map rootless) (sym its_place))

  -- where these are the same, too, so is the listing
  pub listing_same : (root levels : ℕ) → root ≡ image.root → levels ≡ image.levels → listing ≡ with_image listing number (Some (with_root root levels image))
  listing_same root levels same_root same_levels =
      let entry : with_root root levels image ≡ image = λ i. record image { root = same_root i; levels = same_levels i } in
      let images : slice_set listing.images (number - 1) (Some (with_root root levels image)) ≡ listing.images =
      ap (λ (e : ImageEntry). slice_set listing.images (number - 1) (Some e)) entry ∙ ap (slice_set listing.images (number - 1)) (sym its_place) ∙ set-get_or listing.images (number - 1) None in
      λ i. record listing { images = sym images i }

module _ {before after : CatalogView} (number root levels : ℕ) (image : ImageEntry) (at : image_at before.listing number ≡ Some image) where
  module _ (few : number ≤ 128) (lists : Lists (with_image before.listing number (Some (with_root root levels image))) (page_of ImageKind number) before after) where
    abbrev its_page : ℕ
    its_page = 7 + (number - 1) / 64

    keeps_set : KeepsSpelled before after
    keeps_set = record {
      places = ap length lists.pending ∙ length-set before.pending its_page true;
      still = λ page is. still page is (cases_eq page its_page);
      same = λ places page low not. elim (cases_eq page its_page) [
        | inl here ↦ absurd (not (now_pending page here (omega (arith, few, places))))
        | inr other ↦ ap (λ (l : Listing). catalog_page l page) lists.is ∙ page_same before.listing number (Some (with_root root levels image)) page other
      ];
    }
      where
        now_pending : (page : ℕ) → page ≡ its_page → its_page < length before.pending → get_or after.pending page false ≡ true
        now_pending page here place =
            ap (λ (l : List Bool). get_or l page false) lists.pending ∙ ap (λ (q : ℕ). get_or (slice_set before.pending its_page true) q false) here
            ∙ get_or-set_same before.pending its_page true false place

        still : (page : ℕ) → get_or before.pending page false ≡ true → (page ≡ its_page) ⊎ (page ≢ its_page) → get_or after.pending page false ≡ true
        still page is (inr other) = ap (λ (l : List Bool). get_or l page false) lists.pending ∙ get_or-set_other before.pending its_page page true false other ∙ is
        still page is (inl here) = elim (cases_lt its_page (length before.pending)) [
          | inl place ↦ now_pending page here place
          | inr past ↦ absurd (true≢false (sym is ∙ get_or_past before.pending page false (omega (arith, past, here))))
        ]

    pub reroots_set : (ListingFits before.listing → ListingFits after.listing) → Reroots number root levels image before after
    reroots_set fits = record {
      is = lists.is;
      rerooted = record {
        segments = ap (λ (l : Listing). l.segments) lists.is;
        relations = ap (λ (l : Listing). l.relations) lists.is;
        images = ap (λ (l : Listing). list_map (option_map rootless) l.images) lists.is ∙ images_same before.listing number image at root levels;
        links = ap (λ (l : Listing). l.links) lists.is;
        keeps = keeps_set;
        fits = fits;
      };
    }

-- where it begins where it did
pub reroots_same : (catalog : CatalogView) (number root levels : ℕ) (image : ImageEntry) → image_at catalog.listing number ≡ Some image → root ≡ image.root → levels ≡ image.levels → Reroots number root levels image catalog catalog
reroots_same catalog number root levels image at same_root same_levels = record {
  is = listing_same catalog.listing number image at root levels same_root same_levels;
  rerooted = rerooted_itself catalog;
}
