-- Pointers as bytes: six bytes spell one pointer, and a pointer is spelled by its bytes alone.
use Rattle.std.proofs.Common.{◌≡◌, ℕ, ◌+◌, ◌^◌, ◌<◌, ◌≤◌, List, ◌++◌, length, get_or, take, drop, Option, Some, None, refl, sym, ◌∙◌, ap, subst, arith, inl, inr}
use Rattle.std.specs.Int.{w16, w32, from_be_bytes, to_be_bytes}
use Rattle.std.proofs.lemmas.Bool.{cases_lt}
use Rattle.std.proofs.lemmas.List.{length-take, length-drop, get_or-drop, get_or-take, get_or_past, drop-drop}
use Rattle.std.proofs.lemmas.Nat.{be_bytes_2, be_bytes_4, from_be_bytes-to_be_bytes_2, from_be_bytes-to_be_bytes_4}
use Rattle.std.proofs.Math.Seq.{take-add}
use Rattle.rss_base.specs.LogRecords.{tid_bytes, place_bytes}
use Rattle.rss_base.specs.declared.tid.Tid.{Tid}
use Rattle.rss_link.specs.Blocks.{no_tid, IsNamed, IsPointer}
use Rattle.rss_link.proofs.Lists.{same_parts}

abbrev pub AreBytes : List ℕ → Type 0
AreBytes bytes = (i : ℕ) → get_or bytes i 0 < 256

AreBytes-drop : (n : ℕ) (bytes : List ℕ) → AreBytes bytes → AreBytes (drop n bytes)
AreBytes-drop n bytes fits i = rw get_or-drop (fits (n + i))

AreBytes-take : (n : ℕ) (bytes : List ℕ) → AreBytes bytes → AreBytes (take n bytes)
AreBytes-take n bytes fits i =
    elim (cases_lt i n) [
      | inl lt ↦ rw (get_or-take n bytes i 0 lt) (fits i)
      | inr le ↦ rw (get_or_past (take n bytes) i 0 (omega (arith, length-take n bytes))) (omega arith)
    ]

-- the six bytes from a place on, read as a page and a slot
pub six_bytes : (bytes front back : List ℕ) (at page slot n m : ℕ) → AreBytes bytes → at + 6 ≤ length bytes
    → n ≡ 4 → m ≡ 2 → front ≡ take n (drop at bytes) → back ≡ take m (drop (at + 4) bytes)
    → page ≡ from_be_bytes w32 front → slot ≡ from_be_bytes w16 back
    → to_be_bytes w32 page ++ to_be_bytes w16 slot ≡ take 6 (drop at bytes)
six_bytes bytes front back at page slot n m fits room four two_more was_front was_back is_page is_slot =
    let is_front : front ≡ take 4 (drop at bytes) = was_front ∙ ap (λ (k : ℕ). take k (drop at bytes)) four in
    let is_back : back ≡ take 2 (drop (at + 4) bytes) = was_back ∙ ap (λ (k : ℕ). take k (drop (at + 4) bytes)) two_more in
    let front_fits : AreBytes front = subst AreBytes (sym is_front) (AreBytes-take 4 (drop at bytes) (AreBytes-drop at bytes fits)) in
    let back_fits : AreBytes back = subst AreBytes (sym is_back) (AreBytes-take 2 (drop (at + 4) bytes) (AreBytes-drop (at + 4) bytes fits)) in
    let front_long : length front ≡ 4 = ap length is_front ∙ omega (arith, length-take 4 (drop at bytes), length-drop at bytes) in
    let back_long : length back ≡ 2 = ap length is_back ∙ omega (arith, length-take 2 (drop (at + 4) bytes), length-drop (at + 4) bytes) in
    let one : to_be_bytes w32 page ≡ take 4 (drop at bytes) = be_bytes_4 front page front_long front_fits is_page ∙ is_front in
    let two : to_be_bytes w16 slot ≡ take 2 (drop 4 (drop at bytes)) = be_bytes_2 back slot back_long back_fits is_slot ∙ is_back ∙ ap (take 2) (sym (drop-drop 4 at bytes)) in
    (λ i. one i ++ two i) ∙ sym (take-add 4 2 (drop at bytes))

-- ---- one pointer

length-place_bytes : (pointer : Option Tid) → length (place_bytes pointer) ≡ 6
length-place_bytes None = refl
length-place_bytes (Some tid) = refl

pub long_pointer : (pointer : Option Tid) → length (place_bytes pointer) ≡ 6
long_pointer = length-place_bytes

tid_one : (a b : Tid) → a.page < 2 ^ 32 → a.slot < 2 ^ 16 → b.page < 2 ^ 32 → b.slot < 2 ^ 16 → tid_bytes a ≡ tid_bytes b → a ≡ b
tid_one a b page slot page_too slot_too same =
    let pages : a.page ≡ b.page = sym (from_be_bytes-to_be_bytes_4 a.page page) ∙ ap (λ (l : List ℕ). from_be_bytes w32 (take 4 l)) same ∙ from_be_bytes-to_be_bytes_4 b.page page_too in
    let slots : a.slot ≡ b.slot = sym (from_be_bytes-to_be_bytes_2 a.slot slot) ∙ ap (λ (l : List ℕ). from_be_bytes w16 (drop 4 l)) same ∙ from_be_bytes-to_be_bytes_2 b.slot slot_too in
    λ i. record { page = pages i; slot = slots i }

pub pointer_one : (a b : Option Tid) → IsPointer a → IsPointer b → place_bytes a ≡ place_bytes b → a ≡ b
pointer_one None None a_fits b_fits same = refl
pointer_one None (Some b) a_fits b_fits same = absurd (b_fits.some (sym (tid_one no_tid b (omega arith) (omega arith) b_fits.page b_fits.slot same)))
pointer_one (Some a) None a_fits b_fits same = absurd (a_fits.some (tid_one a no_tid a_fits.page a_fits.slot (omega arith) (omega arith) same))
pointer_one (Some a) (Some b) a_fits b_fits same = ap Some (tid_one a b a_fits.page a_fits.slot b_fits.page b_fits.slot same)

-- what was read is no identifier that stands for none
pub is_named : (page slot : ℕ) → page < 2 ^ 32 → slot < 2 ^ 16 → (page ≡ 4294967295 → slot ≡ 65535 → ⊥) → IsNamed (record { page = page; slot = slot })
is_named page slot page_fits slot_fits off = record {
  page = page_fits;
  slot = slot_fits;
  some = λ is. off (ap (λ (t : Tid). t.page) is) (ap (λ (t : Tid). t.slot) is);
}

-- pointers in a row
pub pointers_one : (a b : Option Tid) (x y : List ℕ) → IsPointer a → IsPointer b → place_bytes a ++ x ≡ place_bytes b ++ y → (a ≡ b) × (x ≡ y)
pointers_one a b x y a_fits b_fits same =
    let parts = same_parts (place_bytes a) (place_bytes b) x y (long_pointer a ∙ sym (long_pointer b)) same in
    (pointer_one a b a_fits b_fits parts.0, parts.1)
