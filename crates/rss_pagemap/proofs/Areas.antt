-- A map area, read from its first entry on.
use Rattle.std.proofs.Common.{◌≡◌, ◌⊎◌, inl, inr, ℕ, ◌+◌, ◌-◌, ◌*◌, ◌/◌, ◌%◌, ◌<◌, ◌≤◌, List, [], ◌∷◌, ◌++◌, length, min, take, drop, Option, None, Result, Err, refl, sym, ◌∙◌, ap, subst, arith}
use Rattle.std.proofs.lemmas.Bool.{cases_lt, cases_eq}
use Rattle.std.proofs.lemmas.List.{get_or_append_left, get_or_push, length_push}
use Rattle.rss_base.specs.DiskRule.{Pages, page}
use Rattle.rss_base.specs.Layout.{map_pages, IsLayoutFault}
use Rattle.rss_base.specs.PageMap.{AreDistinct, owner_of, entry_at, IsEntry, BeginsMap, IsMap, IsMapFault, entry, rest}
use Rattle.rss_base.specs.declared.key.PageKey.{PageKey}
use Rattle.rss_base.specs.declared.place.Place.{Place}
use Rattle.rss_base.specs.declared.fault.OpenFault.{OpenFault}
use Rattle.rss_base.specs.declared.fault.OpenFault.TheVariants.{Device, NotAStore, NoMemory}
use Rattle.rss_pagemap.specs.Places.{IsSlotPlace}
use Rattle.rss_pagemap.specs.Taking.{TakesEntry, next, zeros, RefusesEntry, no_entry, no_zeros, BeginsArea, RefusesPage, memory, fault}
use Rattle.rss_pagemap.proofs.Maps.{one_fault}

-- ---- an entry more

pub entry_of_page : (pages : Pages) (first at place : ℕ) (bytes : List ℕ) → place < 512 → bytes ≡ page pages (first + at) → take 8 (drop (8 * place) bytes) ≡ entry_at pages first (512 * at + place)
entry_of_page pages first at place bytes within is =
    let row : (512 * at + place) / 512 ≡ at = omega arith in
    let column : (512 * at + place) % 512 ≡ place = omega arith in
    ap (λ (l : List ℕ). take 8 (drop (8 * place) l)) is ∙ sym (ap (λ (n : ℕ). take 8 (drop (8 * n) (page pages (first + (512 * at + place) / 512)))) column ∙ ap (λ (n : ℕ). take 8 (drop (8 * place) (page pages (first + n)))) row)

-- the part of a page that is copied
pub entry_part : (place : ℕ) (bytes : List ℕ) → take ((place + 1) * 8 - place * 8) (drop (place * 8) bytes) ≡ take 8 (drop (8 * place) bytes)
entry_part place bytes =
    let eight : (place + 1) * 8 - place * 8 ≡ 8 = omega arith in
    let start : place * 8 ≡ 8 * place = omega arith in
    ap (λ (n : ℕ). take n (drop (place * 8) bytes)) eight ∙ ap (λ (n : ℕ). take 8 (drop n bytes)) start

pub taken_long : {slots : ℕ} {bytes : List ℕ} (old new : List (Option PageKey)) → TakesEntry slots bytes old new → length new ≡ min (length old + 1) slots
taken_long old new (next owner room is pushed) = let long = ap (λ (l : List (Option PageKey)). length l) pushed ∙ length_push old owner in omega arith
taken_long old new (zeros all is same) = let long = ap (λ (l : List (Option PageKey)). length l) same in omega arith

-- the entries of these owners, and one more
more_entries : {slots : ℕ} {pages : Pages} {first : ℕ} (old : List (Option PageKey)) (owner : Option PageKey) → BeginsMap slots pages first old → IsEntry slots (entry_at pages first (length old)) owner → (s : ℕ) → s < length (old ++ owner ∷ []) → IsEntry slots (entry_at pages first s) (owner_of (old ++ owner ∷ []) s)
more_entries {slots = slots} {pages = pages} {first = first} old owner begins is s lt = elim (cases_lt s (length old)) [
  | inl within ↦ subst (IsEntry slots (entry_at pages first s)) (sym (get_or_append_left old (owner ∷ []) None s within)) (begins.entries s within)
  | inr past ↦
      let last : length old ≡ s = omega (arith, length_push old owner) in
      subst (IsEntry slots (entry_at pages first s)) (sym (get_or_push old owner None s last)) (subst (λ (n : ℕ). IsEntry slots (entry_at pages first n) owner) last is)
]

pub area_more : {slots : ℕ} {pages : Pages} {first s : ℕ} {bytes : List ℕ} (old new : List (Option PageKey)) → AreDistinct new → bytes ≡ entry_at pages first s → BeginsArea slots pages first s old → TakesEntry slots bytes old new → BeginsArea slots pages first (s + 1) new
area_more {slots = slots} {pages = pages} {first = first} {s = s} {bytes = bytes} old new distinct here begins (next owner room is pushed) =
    let long = begins.long in
    let there : IsEntry slots (entry_at pages first (length old)) owner = subst (λ (l : List ℕ). IsEntry slots l owner) (here ∙ ap (entry_at pages first) (omega arith)) is in
    let longer = ap (λ (l : List (Option PageKey)). length l) pushed ∙ length_push old owner in
    record {
      long = omega arith;
      begins = record { entries = subst (λ (l : List (Option PageKey)). (t : ℕ) → t < length l → IsEntry slots (entry_at pages first t) (owner_of l t)) (sym pushed) (more_entries old owner begins.begins there); distinct = distinct };
      zeros = λ t past lt. absurd (omega arith);
    }
area_more {slots = slots} {pages = pages} {first = first} {s = s} {bytes = bytes} old new distinct here begins (zeros all is same) =
    let long = begins.long in
    let as_long = ap (λ (l : List (Option PageKey)). length l) same in
    record {
      long = omega arith;
      begins = subst (BeginsMap slots pages first) (sym same) begins.begins;
      zeros = λ t past lt. elim (cases_eq t s) [
        | inl last ↦ ap (entry_at pages first) last ∙ sym here ∙ is
        | inr other ↦ begins.zeros t past (omega (arith, other))
      ];
    }

-- all entries
pub area_all : {slots : ℕ} {pages : Pages} {first at : ℕ} {owners : List (Option PageKey)} → at ≡ map_pages slots → BeginsArea slots pages first (512 * at) owners → IsMap slots pages first owners
area_all all area = record { count = area.long ∙ omega arith; begins = area.begins; rest = λ s past lt. area.zeros s past (omega arith) }

-- ---- a page that is refused

pub page_refused : {slots place : ℕ} {bytes here : List ℕ} {start owners : List (Option PageKey)} {why : OpenFault} → place < 512 → here ≡ take 8 (drop (8 * place) bytes) → length owners ≤ slots
    → ((pages : Pages) (first at : ℕ) → bytes ≡ page pages (first + at) → BeginsArea slots pages first (512 * at) start → BeginsArea slots pages first (512 * at + place) owners) → RefusesEntry slots here owners why → RefusesPage slots bytes start why
page_refused within is fits taken memory = memory
page_refused {slots = slots} {place = place} {bytes = bytes} {owners = owners} within is fits taken (no_entry room refused) = fault fits (λ pages first at few same begins.
    let area = taken pages first at same begins in
    let last : 512 * at + place ≡ length owners = omega (arith, area.long) in
    entry owners refl room area.begins (λ owner there. refused owner (subst (λ (l : List ℕ). IsEntry slots l owner) (sym (is ∙ entry_of_page pages first at place bytes within same ∙ ap (entry_at pages first) last)) there)))
page_refused {slots = slots} {place = place} {bytes = bytes} {owners = owners} within is fits taken (no_zeros all other) = fault (omega arith) (λ pages first at few same begins.
    let area = taken pages first at same begins in
    rest owners (512 * at + place) all area.begins (omega (arith, area.long)) (omega arith) (λ none. other (is ∙ entry_of_page pages first at place bytes within same ∙ none)))

store_fault : {place : Place} → NoMemory ≡ NotAStore place → ⊥
store_fault e = cc

same_place : {p q : Place} → NotAStore p ≡ NotAStore q → p ≡ q
same_place e = cc

-- why a `?` returned
pub one_answer : {T : Type 0} {result : Result T OpenFault} {given why other : OpenFault} → result ≡ Err given → given ≡ why → result ≡ Err other → why ≡ other
one_answer is same again = cc

-- what a refusal says where it is the answer
pub refused_fault : {slots : ℕ} {bytes : List ℕ} {owners : List (Option PageKey)} {why : OpenFault} {place : Place} → RefusesPage slots bytes owners why → why ≡ NotAStore place → (pages : Pages) (first at : ℕ) → at < map_pages slots → bytes ≡ page pages (first + at) → BeginsArea slots pages first (512 * at) owners → IsMapFault slots pages first place
refused_fault memory is pages first at few same begins = absurd (store_fault is)
refused_fault {slots = slots} (fault fits each) is pages first at few same begins = subst (IsMapFault slots pages first) (same_place is) (each pages first at few same begins)

pub refused_place : {slots : ℕ} {bytes : List ℕ} {owners : List (Option PageKey)} {why : OpenFault} {place : Place} → RefusesPage slots bytes owners why → why ≡ NotAStore place → IsSlotPlace slots place
refused_place memory is = absurd (store_fault is)
refused_place {slots = slots} (fault fits each) is = subst (IsSlotPlace slots) (same_place is) fits

pub refused_device : {slots : ℕ} {bytes : List ℕ} {owners : List (Option PageKey)} {why : OpenFault} → RefusesPage slots bytes owners why → why ≡ Device → ⊥
refused_device memory is = cc
refused_device (fault fits each) is = cc

pub refused_one : {slots : ℕ} {bytes : List ℕ} {owners : List (Option PageKey)} {why : OpenFault} {place : Place} → slots ≤ 65536 → RefusesPage slots bytes owners why → (pages : Pages) (first at : ℕ) → at < map_pages slots → bytes ≡ page pages (first + at) → BeginsArea slots pages first (512 * at) owners → IsMapFault slots pages first place → (why ≡ NotAStore place) ⊎ (why ≡ NoMemory)
refused_one most memory pages first at few same begins broken = inr refl
refused_one most (fault fits each) pages first at few same begins broken = inl (ap NotAStore (one_fault most (each pages first at few same begins) broken))

pub refused_layout : {slots : ℕ} {bytes : List ℕ} {owners : List (Option PageKey)} {why : OpenFault} → RefusesPage slots bytes owners why → IsLayoutFault why
refused_layout memory = tt
refused_layout (fault fits each) = tt
