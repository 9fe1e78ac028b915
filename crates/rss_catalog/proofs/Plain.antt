-- A listing without images and links, and the pages of a listing behind its relations.
use Rattle.std.proofs.Common.{◌≡◌, ℕ, zero, suc, ◌+◌, ◌-◌, ◌*◌, ◌<◌, ◌≤◌, List, ◌++◌, length, get_or, take, drop, map, replicate, zero-mul, inl, inr, refl, sym, ◌∙◌, ap, arith}
use Rattle.std.specs.Prelude.{Option, Some, None, option_map, count_by, flat_map, min, nat_le, ◌==◌, if◌then◌else◌}
use Rattle.std.proofs.lemmas.List.{same_lists, get_or_default, get_or-replicate, length-replicate, take-replicate, drop-replicate, replicate-append-replicate, take_all}
use Rattle.std.proofs.lemmas.Bool.{cases_lt, cond-true, cond-false, ne_eqb, lt-leb, le-leb}
use Rattle.std.proofs.lemmas.Option.{none-some}
use Rattle.rss_base.specs.declared.link.LinkEntry.{LinkEntry}
use Rattle.rss_base.specs.Sizes.{images_most, links_most, page_bytes, zero_page}
use Rattle.rss_base.specs.declared.image.ImageEntry.{ImageEntry}
use Rattle.rss_base.specs.Listings.{Listing, PathsFit, IsPlain, HasNoLinks, numbered, has_role, padded, catalog_page, image_spelled, link_spelled, images_on}
use Rattle.rss_catalog.proofs.Numbered.{numbered_at, numbered_map, none_numbered}

-- nothing has a number
pub none_of : {A : Type 0} (items : List (Option A)) (count number : ℕ) (item : A) → items ≡ replicate count None → numbered items number ≡ Some item → ⊥
none_of {A = A} items count number item none is =
    none-some item (sym (none_numbered count number) ∙ (sym (ap (λ (l : List (Option A)). numbered l number) none) ∙ is))

pub none_at : {A : Type 0} (items : List (Option A)) (count number : ℕ) → items ≡ replicate count None → numbered items number ≡ None
none_at {A = A} items count number none = ap (λ (l : List (Option A)). numbered l number) none ∙ none_numbered count number

-- where no number has anything, nothing stands at any place
pub none_where : {A : Type 0} (items : List (Option A)) (count : ℕ) → length items ≡ count → ((number : ℕ) → 0 < number → numbered items number ≡ None) → items ≡ replicate count None
none_where {A = A} items count long none = same_lists items (replicate count None) (long ∙ sym (length-replicate {A = Option A} count None)) (λ k d low.
    get_or_default items k d None low ∙ ap (λ (n : ℕ). get_or items n None) (omega arith) ∙ sym (numbered_at items (k + 1) (omega arith) (omega (arith, low))) ∙ none (k + 1) (omega arith) ∙ sym (get_or-replicate count k None d (omega (arith, long, low))))

pub none_named : {A B : Type 0} (f : A → B) (items : List (Option A)) (count number : ℕ) (name : B) → items ≡ replicate count None → numbered (map (option_map f) items) number ≡ Some name → ⊥
none_named {A = A} f items count number name none is =
    none-some name (sym (numbered_map f items number ∙ ap (λ (l : List (Option A)). option_map f (numbered l number)) none ∙ ap (option_map f) (none_numbered count number)) ∙ is)

pub no_roles : (number count : ℕ) → count_by (has_role number) (replicate count None) ≡ 0
no_roles number zero = refl
no_roles number (suc count) = no_roles number count

pub plain_paths : (listing : Listing) → IsPlain listing → PathsFit listing
plain_paths listing plain = record {
  image_places = ap length plain.no_images ∙ length-replicate {A = Option ImageEntry} images_most None;
  link_places = ap length plain.no_links ∙ length-replicate {A = Option LinkEntry} links_most None;
  images_once = λ one other name is_one is_other. absurd (none_named (λ (image : ImageEntry). image.name) listing.images images_most one name plain.no_images is_one);
  links_once = λ one other name is_one is_other. absurd (none_named (λ (link : LinkEntry). link.name) listing.links links_most one name plain.no_links is_one);
  images = λ number image is. absurd (none_of listing.images images_most number image plain.no_images is);
  links = λ number link is. absurd (none_of listing.links links_most number link plain.no_links is);
  few_roles = λ number. let none = ap (count_by (has_role number)) plain.no_links ∙ no_roles number links_most in omega (arith, none);
}

-- ---- its pages

pub nones_spelled : {A : Type 0} (spell : Option A → List ℕ) (width : ℕ) → spell None ≡ replicate width 0 → (count : ℕ) → flat_map spell (replicate count None) ≡ replicate (count * width) 0
nones_spelled spell width none zero = ap (λ (n : ℕ). replicate n 0) (sym (zero-mul width))
nones_spelled spell width none (suc k) =
    (λ i. none i ++ nones_spelled spell width none k i) ∙ replicate-append-replicate width (k * width) 0 ∙ ap (λ (n : ℕ). replicate n 0) (omega arith)

pub padded_zeros : (bytes : List ℕ) (count : ℕ) → bytes ≡ replicate count 0 → count ≤ 4096 → padded page_bytes bytes ≡ zero_page
padded_zeros bytes count is few =
    let room : count + (4096 - count) ≡ 4096 = omega (arith, few) in
    ap (padded page_bytes) is ∙ ap (λ (n : ℕ). replicate count 0 ++ replicate (4096 - n) 0) (length-replicate {A = ℕ} count 0)
    ∙ replicate-append-replicate count (4096 - count) 0 ∙ ap (λ (n : ℕ). replicate n 0) room

least_left : (a b : ℕ) → a ≤ b → min a b ≡ a
least_left a b few = omega (arith, few)

least_right : (a b : ℕ) → b ≤ a → min a b ≡ b
least_right a b few = omega (arith, few)

pub take_some : {A : Type 0} (n count : ℕ) → take n (replicate {A = Option A} count None) ≡ replicate (min n count) None
take_some {A = A} n count = elim (cases_lt n count) [
  | inl more ↦ take-replicate n count None (omega arith) ∙ ap (λ (k : ℕ). replicate {A = Option A} k None) (sym (least_left n count (omega arith)))
  | inr few ↦ take_all n (replicate count None) (omega (arith, length-replicate {A = Option A} count None)) ∙ ap (λ (k : ℕ). replicate {A = Option A} k None) (sym (least_right n count few))
]

-- a page of images where there are none
no_images_on : (listing : Listing) → IsPlain listing → (page : ℕ) → images_on listing page ≡ replicate (min 64 (128 - 64 * (page - 1 - 6))) None
no_images_on listing plain page =
    let from = 64 * (page - 1 - 6) in
    ap (λ (l : List (Option ImageEntry)). take 64 (drop from l)) plain.no_images ∙ (ap (take 64) (drop-replicate from 128 None) ∙ take_some 64 (128 - from))

images_zero : (listing : Listing) → IsPlain listing → (page : ℕ) → padded page_bytes (flat_map image_spelled (images_on listing page)) ≡ zero_page
images_zero listing plain page =
    let count = min 64 (128 - 64 * (page - 1 - 6)) in
    padded_zeros (flat_map image_spelled (images_on listing page)) (count * 64) (ap (flat_map image_spelled) (no_images_on listing plain page) ∙ nones_spelled image_spelled 64 refl count) (omega arith)

links_zero : (listing : Listing) → HasNoLinks listing → padded page_bytes (flat_map link_spelled listing.links) ≡ zero_page
links_zero listing no_links =
    padded_zeros (flat_map link_spelled listing.links) (64 * 64) (ap (flat_map link_spelled) no_links ∙ nones_spelled link_spelled 64 refl 64) (omega arith)

-- the page of a number behind the relations
past_relations : (listing : Listing) (page : ℕ) → 6 < page → catalog_page listing page ≡ padded page_bytes (if nat_le page 8 then flat_map image_spelled (images_on listing page) else flat_map link_spelled listing.links)
past_relations listing page past =
    ap (padded page_bytes) (cond-false (page == 0) _ _ (ne_eqb page 0 (λ is. omega arith)) ∙ cond-false (nat_le page 6) _ _ (lt-leb page 6 past))

pub images_page_is : (listing : Listing) (page : ℕ) → 6 < page → page ≤ 8 → catalog_page listing page ≡ padded page_bytes (flat_map image_spelled (images_on listing page))
images_page_is listing page low high = past_relations listing page low ∙ ap (padded page_bytes) (cond-true (nat_le page 8) _ _ (le-leb page 8 high))

pub links_page_is : (listing : Listing) (page : ℕ) → 8 < page → catalog_page listing page ≡ padded page_bytes (flat_map link_spelled listing.links)
links_page_is listing page past = past_relations listing page (omega arith) ∙ ap (padded page_bytes) (cond-false (nat_le page 8) _ _ (lt-leb page 8 past))

pub zeros_past : (listing : Listing) → IsPlain listing → (page : ℕ) → 6 < page → catalog_page listing page ≡ zero_page
zeros_past listing plain page past = elim (cases_lt 8 page) [
  | inl links ↦ links_page_is listing page links ∙ links_zero listing plain.no_links
  | inr images ↦ images_page_is listing page past images ∙ images_zero listing plain page
]
