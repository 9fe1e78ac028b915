-- If the layout is broken nowhere, there is one.
use Rattle.std.proofs.Common.{◌≡◌, ◌≢◌, ◌⊎◌, inl, inr, ℕ, zero, suc, ◌+◌, ◌*◌, true, List, [], ◌∷◌, ◌++◌, length, Option, Some, None, refl, sym, ◌∙◌, ap, subst, arith}
use Rattle.std.specs.Prelude.{is_some}
use Rattle.std.specs.Ordering.{nat_cmp}
use Rattle.std.specs.Cmp.Lexicographic.{slice_cmp}
use Rattle.std.specs.FinMap.{slice_cmp-IsAntisymmetric, nat_cmp-IsAntisymmetric}
use Rattle.std.specs.declared.cmp.Ordering.{Ordering}
use Rattle.std.specs.declared.cmp.Ordering.TheVariants.{Less, Equal, Greater}
use Rattle.std.proofs.lemmas.Bool.{cases_Bool, cases_lt, cases_eq, cond-true, cond-false}
use Rattle.std.proofs.lemmas.Cmp.{nat_list_cmp_total, tied_itself}
use Rattle.std.proofs.lemmas.List.{get_or_append_left, get_or_past, get_or_push, length_push}
use Rattle.std.proofs.lemmas.Option.{none-some, same_Some}
use Rattle.rss_base.specs.DiskRule.{Pages}
use Rattle.rss_base.specs.Layout.{map_at, slots_at, map_pages, device_pages, selected, HasRoot, few, no_root, other_size}
use Rattle.rss_base.specs.PageMap.{AreDistinct, owner_of, entry_at, entry_bytes, IsEntry, IsKey, IsMap, IsOwned, entry, rest}
use Rattle.rss_base.specs.Paged.{is_same}
use Rattle.rss_base.specs.StoredPages.{slot_from, slot_of, held_at}
use Rattle.rss_base.specs.declared.key.PageKey.{PageKey}
use Rattle.rss_base.specs.declared.place.Place.{Place}
use Rattle.rss_base.specs.declared.root.Root.{Root}
use Rattle.rss_base.proofs.Keys.{is_same-itself, owner_of-slot_of, the_number}
use Rattle.rss_pagemap.specs.Taking.{BeginsArea, next, zeros}
use Rattle.rss_pagemap.proofs.Areas.{area_more, area_all}
use Rattle.rss_stored.specs.Store.{IsBrokenAt, at_root, at_map}
use Rattle.rss_stored.proofs.StorePages.{held_mapped, map_allowed}
use Rattle.rss_check.specs.Layouts.{Laid}

-- ---- whether a page has a slot

found_some : (n : ℕ) (owners : List (Option PageKey)) (key : PageKey) (s : ℕ) → owner_of owners s ≡ Some key → slot_from n owners key ≡ None → ⊥
found_some n [] key s owned none = none-some key (sym (get_or_past [] s None (omega arith)) ∙ owned)
found_some n (None ∷ owners) key zero owned none = none-some key owned
found_some n (None ∷ owners) key (suc s) owned none = found_some (n + 1) owners key s owned none
found_some n (Some owner ∷ owners) key zero owned none =
    let here : is_same owner key ≡ true = ap (λ (k : PageKey). is_same k key) (same_Some owner key owned) ∙ is_same-itself key in
    none-some n (sym none ∙ cond-true (is_same owner key) (Some n) (slot_from (n + 1) owners key) here)
found_some n (Some owner ∷ owners) key (suc s) owned none = elim (cases_Bool (is_same owner key)) [
  | inl here ↦ none-some n (sym none ∙ cond-true (is_same owner key) (Some n) (slot_from (n + 1) owners key) here)
  | inr other ↦ found_some (n + 1) owners key s owned (sym (cond-false (is_same owner key) (Some n) (slot_from (n + 1) owners key) other) ∙ none)
]

-- no slot has this owner
abbrev IsFree : List (Option PageKey) → Option PageKey → Type 0
IsFree owners owner = (key : PageKey) (s : ℕ) → owner ≡ Some key → owner_of owners s ≡ Some key → ⊥

owned_or : (owners : List (Option PageKey)) (owner : Option PageKey) → IsOwned owners owner ⊎ IsFree owners owner
owned_or owners None = inr (λ key s is owned. none-some key is)
owned_or owners (Some key) = by (slot_of owners key) refl
  where
    by : (found : Option ℕ) → slot_of owners key ≡ found → IsOwned owners (Some key) ⊎ IsFree owners (Some key)
    by (Some slot) is = inl (record { key = key; is = refl; slot = slot; owned = owner_of-slot_of owners key slot is })
    by None is = inr (λ other s same owned. found_some 0 owners other s owned (ap (slot_of owners) (sym (same_Some key other same)) ∙ is))

-- what a slot holds where one was added
at_more : (owners : List (Option PageKey)) (owner : Option PageKey) (s : ℕ) (key : PageKey) → owner_of (owners ++ owner ∷ []) s ≡ Some key → (owner_of owners s ≡ Some key) ⊎ ((s ≡ length owners) × (owner ≡ Some key))
at_more owners owner s key is = elim (cases_lt s (length owners)) [
  | inl within ↦ inl (sym (get_or_append_left owners (owner ∷ []) None s within) ∙ is)
  | inr past ↦ elim (cases_eq s (length owners)) [
    | inl last ↦ inr (last, sym (get_or_push owners owner None s (sym last)) ∙ is)
    | inr other ↦ absurd (none-some key (sym (get_or_past (owners ++ owner ∷ []) s None (omega (arith, past, other, length_push owners owner))) ∙ is))
  ]
]

distinct_more : (owners : List (Option PageKey)) (owner : Option PageKey) → AreDistinct owners → IsFree owners owner → AreDistinct (owners ++ owner ∷ [])
distinct_more owners owner distinct free s t key one two = elim (at_more owners owner s key one) [
  | inl here ↦ elim (at_more owners owner t key two) [
    | inl there ↦ distinct s t key here there
    | inr last ↦ absurd (free key s last.1 here)
  ]
  | inr last ↦ elim (at_more owners owner t key two) [
    | inl there ↦ absurd (free key t last.1 there)
    | inr too ↦ last.0 ∙ sym too.0
  ]
]

-- ---- whether bytes are the same

same_or : (a b : List ℕ) → (a ≡ b) ⊎ (a ≢ b)
same_or a b = by (slice_cmp nat_cmp a b) refl
  where
    other : (r : Ordering) → slice_cmp nat_cmp a b ≡ r → (Equal ≡ r → ⊥) → a ≢ b
    other r is apart same = apart (sym (tied_itself nat_list_cmp_total b) ∙ ap (λ (l : List ℕ). slice_cmp nat_cmp l b) (sym same) ∙ is)

    by : (r : Ordering) → slice_cmp nat_cmp a b ≡ r → (a ≡ b) ⊎ (a ≢ b)
    by Less is = inr (other Less is (λ e. cc (e)))
    by Equal is = inl (slice_cmp-IsAntisymmetric nat_cmp-IsAntisymmetric a b is)
    by Greater is = inr (other Greater is (λ e. cc (e)))

-- ---- the map

module _ {pages : Pages} (unbroken : (place : Place) → IsBrokenAt place pages → ⊥) where
  module _ {number : ℕ} {root : Root} (has : HasRoot pages number root) (goes_on : (owners : List (Option PageKey)) → IsMap root.slots pages (map_at root.slots root.area) owners → ⊥) where
    abbrev first : ℕ
    first = map_at root.slots root.area

    -- so many entries are still to be looked at
    entries_left : (n s : ℕ) (owners : List (Option PageKey)) → s + n ≡ 512 * map_pages root.slots → BeginsArea root.slots pages first s owners → ⊥
    entries_left zero s owners all area = goes_on owners (area_all {at = map_pages root.slots} refl (subst (λ (k : ℕ). BeginsArea root.slots pages first k owners) (omega (arith, all)) area))
    entries_left (suc n) s owners all area = elim (cases_lt (length owners) root.slots) [
      | inl room ↦
          let here : s ≡ length owners = omega (arith, area.long, room) in
          unbroken _ (at_map has (entry owners refl room area.begins (λ owner is. elim (owned_or owners owner) [
            | inl own ↦ own
            | inr free ↦ absurd (entries_left n (s + 1) (owners ++ owner ∷ []) (omega (arith, all))
                (area_more owners (owners ++ owner ∷ []) (distinct_more owners owner area.begins.distinct free) refl area
                (next owner room (subst (λ (k : ℕ). IsEntry root.slots (entry_at pages first k) owner) (sym here) is) refl)))
          ])))
      | inr full ↦
          let whole : length owners ≡ root.slots = omega (arith, area.long, full) in
          elim (same_or (entry_at pages first s) (entry_bytes None)) [
            | inl none ↦ entries_left n (s + 1) owners (omega (arith, all)) (area_more owners owners area.begins.distinct refl area (zeros whole none refl))
            | inr other ↦ unbroken _ (at_map has (rest owners s whole area.begins (omega (arith, area.long, full)) (omega (arith, all)) other))
          ]
    ]

    map_found : ⊥
    map_found = entries_left (512 * map_pages root.slots) 0 [] (omega arith) (record {
      long = omega arith;
      begins = record { entries = λ s low. absurd (omega (arith, low)); distinct = λ s t key one two. absurd (none-some key one) };
      zeros = λ s past low. absurd (omega (arith, low));
    })

  -- ---- the root

  pub laid_found : (Laid pages → ⊥) → ⊥
  laid_found goes_on = elim (cases_lt (length pages) 3) [
    | inl less ↦ unbroken _ (at_root (few less))
    | inr three ↦ unbroken _ (at_root (no_root three refl (λ root there. elim (cases_eq (length pages) (device_pages root)) [
      | inl size ↦
          let has : HasRoot pages (selected pages) root = record { selects = refl; there = there; size = size } in
          map_found has (λ owners map. goes_on (record { number = selected pages; root = root; owners = owners; there = record { root_there = has; map = map } }))
      | inr apart ↦ unbroken _ (at_root (other_size three there apart))
    ])))
  ]

-- ---- the pages of a map

-- the map may name each page that is there
pub allowed_in : (pages : Pages) (root : Root) (owners : List (Option PageKey)) → IsMap root.slots pages (map_at root.slots root.area) owners
    → (key : PageKey) → is_some (held_at (slots_at root.slots root.log_pages) pages owners key) ≡ true → IsKey root.slots key
allowed_in pages root owners map key there =
    let slot = the_number (slot_of owners key) (sym (held_mapped (slots_at root.slots root.log_pages) pages owners key) ∙ there) in
    map_allowed map slot.0 key (owner_of-slot_of owners key slot.0 slot.1)
