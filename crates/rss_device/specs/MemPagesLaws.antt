-- The laws of pages, for those in memory.
use Rattle.std.proofs.Common.{◌≡◌, ℕ, zero, suc, ◌+◌, ◌^◌, ◌<◌, true, false, cond, List, [], ◌∷◌, length, map, inl, inr, Option, Some, None, refl, sym, ◌∙◌, ap, arith}
use Rattle.std.specs.Prelude.{is_some, is_none, option_map}
use Rattle.std.proofs.lemmas.Bool.{cases_Bool, cond-true, cond-false, true≢false}
use Rattle.std.proofs.lemmas.List.Sums.{sum_by-cons}
use Rattle.rss_base.specs.DiskRule.{Pages}
use Rattle.rss_base.specs.PageMap.{IsKey, owner_of, page_count}
use Rattle.rss_base.specs.Paged.{HasFixed, is_same, mapped_pages}
use Rattle.rss_base.specs.StoredPages.{slot_from}
use Rattle.rss_base.specs.declared.key.PageKey.{PageKey}
use Rattle.rss_device.specs.MemPages.{has_key, place_at, stored_in, page_in, held_in, note_in, noted_in, placed_in, free_in, ArePlaces, none_fixed, no_backing}
use Rattle.rss_base.proofs.Counts.{mapped_pages-owners}
use Rattle.rss_base.proofs.Keys.{is_same-true, is_same-itself, is_same-other}
use Rattle.rss_device.specs.declared.stored.Stored.{Stored}

pub none_left : (pages : Pages) → Some [] ≡ Some pages → pages ≡ []
none_left pages told = cc

pub none_stays : (image : Pages) → image ≡ [] → HasFixed none_fixed image
none_stays image is = record { size = ap length is; pages = λ q bytes none. cc }

pub some_mapped : (places : List (Option Stored)) (key : PageKey) → is_some (held_in places key) ≡ placed_in places key
unfolding placed_in
some_mapped places key = at (stored_in places key)
  where
    at : (place : Option Stored) → is_some (page_in place) ≡ is_some place
    at None = refl
    at (Some stored) = refl

-- what is noted is mapped
pub noted_mapped : (places : List (Option Stored)) (key : PageKey) → is_some (noted_in places key) ≡ true → placed_in places key ≡ true
unfolding placed_in
noted_mapped places key is = at (stored_in places key) is
  where
    at : (place : Option Stored) → is_some (note_in place) ≡ true → is_some place ≡ true
    at None is = is
    at (Some stored) is = refl

-- a page that is mapped has a place
pub mapped_at : (places : List (Option Stored)) (key : PageKey) → placed_in places key ≡ true → (at : ℕ) × (has_key key (place_at places at) ≡ true)
unfolding placed_in
mapped_at [] key is = cc
mapped_at (None ∷ places) key is = let found = mapped_at places key is in (suc found.0, found.1)
mapped_at (Some stored ∷ places) key is = elim (cases_Bool (is_same key stored.key)) [
  | inl same ↦ (zero, same)
  | inr other ↦ let found = mapped_at places key (rw other at is) in (suc found.0, found.1)
]

-- ---- how many there are

-- the page of each place
abbrev pub owners_of : List (Option Stored) → List (Option PageKey)
owners_of places = map (option_map (λ (stored : Stored). stored.key)) places

pub owner_at : (places : List (Option Stored)) (s : ℕ) (key : PageKey) → owner_of (owners_of places) s ≡ Some key → has_key key (place_at places s) ≡ true
owner_at [] s key is = cc
owner_at (None ∷ places) zero key is = cc
owner_at (Some stored ∷ places) zero key is = let at : stored.key ≡ key = cc in ap (is_same key) at ∙ is_same-itself key
owner_at (None ∷ places) (suc s) key is = owner_at places s key is
owner_at (Some stored ∷ places) (suc s) key is = owner_at places s key is

pub mapped_from : (n : ℕ) (places : List (Option Stored)) (key : PageKey) → is_some (stored_in places key) ≡ is_some (slot_from n (owners_of places) key)
mapped_from n [] key = refl
mapped_from n (None ∷ places) key = mapped_from (n + 1) places key
mapped_from n (Some stored ∷ places) key = elim (cases_Bool (is_same key stored.key)) [
  | inl same ↦
      ap (λ (o : Option Stored). is_some o) (cond-true (is_same key stored.key) (Some stored) (stored_in places key) same)
      ∙ sym (ap (λ (o : Option ℕ). is_some o) (cond-true (is_same stored.key key) (Some n) (slot_from (n + 1) (owners_of places) key) (ap (is_same stored.key) (is_same-true key stored.key same) ∙ is_same-itself stored.key)))
  | inr other ↦
      ap (λ (o : Option Stored). is_some o) (cond-false (is_same key stored.key) (Some stored) (stored_in places key) other)
      ∙ mapped_from (n + 1) places key
      ∙ sym (ap (λ (o : Option ℕ). is_some o) (cond-false (is_same stored.key key) (Some n) (slot_from (n + 1) (owners_of places) key)
      (is_same-other stored.key key (λ at. let no : is_same key stored.key ≡ true = ap (λ (k : PageKey). is_same key k) at ∙ is_same-itself key in true≢false (sym no ∙ other)))))
]

free_and_used : (places : List (Option Stored)) → free_in places + page_count (owners_of places) ≡ length places
free_and_used [] = refl
free_and_used (None ∷ places) = omega (arith, free_and_used places, sum_by-cons (λ (o : Option Stored). cond (is_none o) 1 0) None places)
free_and_used (Some stored ∷ places) = omega (arith, free_and_used places, sum_by-cons (λ (o : Option PageKey). cond (is_some o) 1 0) (Some stored.key) (owners_of places))

pub counted_in : {places : List (Option Stored)} → ArePlaces places → free_in places + mapped_pages (length places) (placed_in places) + page_count (no_backing (length places)).shadow ≡ length places
unfolding placed_in
counted_in {places} placed =
    let pages = mapped_pages-owners (length places) (owners_of places) (λ key. is_some (stored_in places key))
    (λ s key is. placed.allowed s key (owner_at places s key is))
    (λ s t key here there. placed.distinct s t key (owner_at places s key here) (owner_at places t key there))
    (mapped_from 0 places) in
    omega (arith, pages, free_and_used places)

-- there are fewer places than a `u32` counts
pub few_in : {places : List (Option Stored)} → ArePlaces places → length places < 2 ^ 32
few_in placed = omega (arith, placed.most)

-- none was changed
pub never : {P : Type 0} → false ≡ true → P
never is = cc

pub allowed_in : {places : List (Option Stored)} → ArePlaces places → (key : PageKey) → placed_in places key ≡ true → IsKey (length places) key
allowed_in {places} placed key is = let found = mapped_at places key is in placed.allowed found.0 key found.1
