-- A map area says one thing: it is the map of one list of owners, or out of form at one place.
use Rattle.std.proofs.Common.{◌≡◌, inl, inr, ℕ, ◌^◌, ◌<◌, ◌≤◌, List, [], ◌∷◌, length, get_or, drop, Option, Some, None, IfSome, refl, sym, ◌∙◌, ap, arith}
use Rattle.std.specs.Int.{w32, to_be_bytes, from_be_bytes}
use Rattle.std.proofs.lemmas.Bool.{cases_order}
use Rattle.std.proofs.lemmas.Nat.{from_be_bytes-to_be_bytes_4}
use Rattle.std.proofs.lemmas.List.{ext_get_or}
use Rattle.rss_base.specs.DiskRule.{Pages}
use Rattle.rss_base.specs.PageMap.{number_limit, IsKey, owner_of, space_code, entry_bytes, entry_at, IsEntry, BeginsMap, IsMap, IsOwned, IsMapFault, entry, rest}
use Rattle.rss_base.specs.declared.key.Space.{Space}
use Rattle.rss_base.specs.declared.key.Space.TheVariants.{Home, Overflow, Image, System}
use Rattle.rss_base.specs.declared.key.PageKey.{PageKey}
use Rattle.rss_base.specs.declared.place.Place.{Place}
use Rattle.rss_base.specs.declared.place.Place.TheVariants.{Slot}
use Rattle.rss_pagemap.proofs.Owners.{owned_within}

-- ---- an entry has one owner

space_at : ℕ → Space
space_at code = get_or (Home ∷ Home ∷ Overflow ∷ Image ∷ System ∷ []) code Home

same_space : (space : Space) → space_at (space_code space) ≡ space
unfolding space_at
same_space Home = refl
same_space Overflow = refl
same_space Image = refl
same_space System = refl

some_code : (space : Space) → 0 ≡ space_code space → ⊥
some_code Home e = cc
some_code Overflow e = cc
some_code Image e = cc
some_code System e = cc

number_below : (slots number : ℕ) (space : Space) → slots ≤ 65536 → number < number_limit slots space → number < 2 ^ 32
number_below slots number Home most lt = omega arith
number_below slots number Overflow most lt = omega arith
number_below slots number Image most lt = omega arith
number_below slots number System most lt = omega arith

same_number : (m n : ℕ) → m < 2 ^ 32 → n < 2 ^ 32 → to_be_bytes w32 m ≡ to_be_bytes w32 n → m ≡ n
same_number m n below_m below_n same = sym (from_be_bytes-to_be_bytes_4 m below_m) ∙ ap (from_be_bytes w32) same ∙ from_be_bytes-to_be_bytes_4 n below_n

same_key : (slots : ℕ) (a b : PageKey) → slots ≤ 65536 → IsKey slots a → IsKey slots b → entry_bytes (Some a) ≡ entry_bytes (Some b) → a ≡ b
same_key slots a b most key_a key_b same =
    let segment : a.segment ≡ b.segment = ap (λ (l : List ℕ). get_or l 1 0) same in
    let space : a.space ≡ b.space = sym (same_space a.space) ∙ ap (λ (l : List ℕ). space_at (get_or l 0 0)) same ∙ same_space b.space in
    let number : a.number ≡ b.number = same_number a.number b.number (number_below slots a.number a.space most key_a.number) (number_below slots b.number b.space most key_b.number) (ap (λ (l : List ℕ). drop 4 l) same) in
    λ i. record { segment = segment i; space = space i; number = number i }

same_owner : (slots : ℕ) (a b : Option PageKey) → slots ≤ 65536 → IfSome a (IsKey slots) → IfSome b (IsKey slots) → entry_bytes a ≡ entry_bytes b → a ≡ b
same_owner slots None None most key_a key_b same = refl
same_owner slots None (Some b) most key_a key_b same = absurd (some_code b.space (ap (λ (l : List ℕ). get_or l 0 0) same))
same_owner slots (Some a) None most key_a key_b same = absurd (some_code a.space (sym (ap (λ (l : List ℕ). get_or l 0 0) same)))
same_owner slots (Some a) (Some b) most key_a key_b same = ap Some (same_key slots a b most key_a key_b same)

pub same_entry : {slots : ℕ} {bytes : List ℕ} {a b : Option PageKey} → slots ≤ 65536 → IsEntry slots bytes a → IsEntry slots bytes b → a ≡ b
same_entry {slots = slots} {a = a} {b = b} most is_a is_b = same_owner slots a b most is_a.allowed is_b.allowed (sym is_a.spelled ∙ is_b.spelled)

-- ---- a map has one list of owners

pub same_map : {slots : ℕ} {pages : Pages} {first : ℕ} {a b : List (Option PageKey)} → slots ≤ 65536 → IsMap slots pages first a → IsMap slots pages first b → a ≡ b
same_map {a = a} {b = b} most map_a map_b = ext_get_or None a b (map_a.count ∙ sym map_b.count) (λ s lt. same_entry most (map_a.begins.entries s lt) (map_b.begins.entries s (omega (arith, map_a.count, map_b.count))))

-- Where all lesser slots have entries, no entry is refused that a map has.
begun : {slots : ℕ} {pages : Pages} {first slot : ℕ} (a b : List (Option PageKey)) → slots ≤ 65536 → length a ≡ slot → BeginsMap slots pages first a → BeginsMap slots pages first b → slot < length b → ((owner : Option PageKey) → IsEntry slots (entry_at pages first slot) owner → IsOwned a owner) → ⊥
begun {slot = slot} a b most long begins_a begins_b shorter refused =
    let owned : IsOwned a (owner_of b slot) = refused (owner_of b slot) (begins_b.entries slot shorter) in
    let within : owned.slot < length a = owned_within a owned.slot owned.key owned.owned in
    let again : owner_of b owned.slot ≡ Some owned.key = same_entry most (begins_b.entries owned.slot (omega arith)) (begins_a.entries owned.slot within) ∙ owned.owned in
    let one : owned.slot ≡ slot = begins_b.distinct owned.slot slot owned.key again owned.is in
    omega arith

pub no_fault : {slots : ℕ} {pages : Pages} {first : ℕ} {owners : List (Option PageKey)} {place : Place} → slots ≤ 65536 → IsMap slots pages first owners → IsMapFault slots pages first place → ⊥
no_fault {owners = owners} most map (entry {slot = slot} a long within begins refused) = begun a owners most long begins map.begins (omega (arith, map.count)) refused
no_fault {owners = owners} most map (rest a s long begins past within other) = other (map.rest s past within)

pub one_fault : {slots : ℕ} {pages : Pages} {first : ℕ} {p q : Place} → slots ≤ 65536 → IsMapFault slots pages first p → IsMapFault slots pages first q → p ≡ q
one_fault most (entry {slot = m} a a_long a_within a_begins a_refused) (entry {slot = n} b b_long b_within b_begins b_refused) = elim (cases_order m n) [
  | inl same ↦ ap Slot same
  | inr (inl less) ↦ absurd (begun a b most a_long a_begins b_begins (omega arith) a_refused)
  | inr (inr more) ↦ absurd (begun b a most b_long b_begins a_begins (omega arith) b_refused)
]
one_fault most (entry {slot = m} a a_long a_within a_begins a_refused) (rest b t b_long b_begins b_past b_within b_other) = absurd (begun a b most a_long a_begins b_begins (omega arith) a_refused)
one_fault most (rest a s a_long a_begins a_past a_within a_other) (entry {slot = n} b b_long b_within b_begins b_refused) = absurd (begun b a most b_long b_begins a_begins (omega arith) b_refused)
one_fault most (rest a s a_long a_begins a_past a_within a_other) (rest b t b_long b_begins b_past b_within b_other) = refl
