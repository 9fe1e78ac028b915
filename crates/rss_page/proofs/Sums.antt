-- Bodies that share no byte fit together behind the directory.
use Rattle.std.proofs.Common.{◌≡◌, ◌⊎◌, inl, inr, ℕ, zero, suc, ◌+◌, ◌-◌, ◌<◌, ◌≤◌, true, false, eqb, List, [], ◌∷◌, ◌++◌, length, take, set, get_or, refl, sym, ◌∙◌, ap, arith, add-one}
use Rattle.std.specs.Cmp.{nat_eq_equiv}
use Rattle.std.specs.List.{list_any, IsDistinct}
use Rattle.std.proofs.lemmas.Bool.{or_cases, eqb-true, false_from_ne_true, false≢true}
use Rattle.std.proofs.lemmas.List.{length_push, take_all}
use Rattle.std.proofs.lemmas.List.Folds.{list_any-append}
use Rattle.std.proofs.lemmas.List.Sums.{sum_by_more, sum_by-set}
use Rattle.std.proofs.lemmas.Map.Keys.{IsDistinct-push}
use Rattle.std.proofs.lemmas.Map.Steps.{length-le_from_distinct_below}
use Rattle.rss_page.specs.Content.{Empty, body_length}
use Rattle.rss_page.specs.Slotted.{entry_of, entries, body_bytes, place_of, length_of, IsInBody, IsAllowed, IsSlotted}
use Rattle.rss_page.proofs.Contents.{length-entries, entries_at, body_within, body_long}

-- ---- numbers in a row, put behind others

abbrev with_row : List ℕ → ℕ → ℕ → List ℕ
with_row numbers from zero = numbers
with_row numbers from (suc count) = with_row numbers from count ++ (from + count) ∷ []

length-with_row : (numbers : List ℕ) (from count : ℕ) → length (with_row numbers from count) ≡ length numbers + count
length-with_row numbers from zero = omega arith
length-with_row numbers from (suc count) = omega (arith, length_push (with_row numbers from count) (from + count), length-with_row numbers from count)

-- each is one of the others or of the row
row_cases : (numbers : List ℕ) (from count number : ℕ) → list_any (eqb number) (with_row numbers from count) ≡ true → (list_any (eqb number) numbers ≡ true) ⊎ ((from ≤ number) × (number < from + count))
row_cases numbers from zero number is = inl is
row_cases numbers from (suc count) number is = elim (or_cases (list_any (eqb number) (with_row numbers from count)) (list_any (eqb number) ((from + count) ∷ [])) (sym (list_any-append (eqb number) (with_row numbers from count) ((from + count) ∷ [])) ∙ is)) [
  | inl front ↦ elim (row_cases numbers from count number front) [
    | inl other ↦ inl other
    | inr row ↦ inr (row.0, omega (arith, row.1))
  ]
  | inr last ↦ elim (or_cases (eqb number (from + count)) false last) [
    | inl same ↦ let e = eqb-true number (from + count) same in inr (omega arith, omega arith)
    | inr none_left ↦ absurd (false≢true none_left)
  ]
]

row_distinct : (numbers : List ℕ) (from count : ℕ) → IsDistinct eqb numbers → ((number : ℕ) → from ≤ number → number < from + count → list_any (eqb number) numbers ≡ true → ⊥) → IsDistinct eqb (with_row numbers from count)
row_distinct numbers from zero is fresh = is
row_distinct numbers from (suc count) is fresh =
    IsDistinct-push nat_eq_equiv (with_row numbers from count) (from + count)
    (row_distinct numbers from count is (λ number low high has. fresh number low (omega arith) has))
    (false_from_ne_true (list_any (eqb (from + count)) (with_row numbers from count)) (λ has. elim (row_cases numbers from count (from + count) has) [
      | inl other ↦ fresh (from + count) (omega arith) (omega arith) other
      | inr row ↦ omega (arith, row.1)
    ]))

-- ---- the bytes of the first bodies, counted from where bodies begin

-- a body of the first slots has this byte
record IsBodyOf (page : List ℕ) (count byte : ℕ) : Type 0 where
  pub slot : ℕ
  pub low : slot < count
  pub inside : IsInBody (entry_of page slot) byte

-- one body more
pub body_more : (page : List ℕ) (slot : ℕ) → length page ≡ 4096 → IsAllowed (get_or page 0 0) (entry_of page slot) → slot < 128 → body_bytes (take (slot + 1) (entries page)) ≡ body_bytes (take slot (entries page)) + length_of (entry_of page slot)
body_more page slot size allowed low = omega (arith, sum_by_more body_length (entries page) slot Empty (omega (arith, length-entries page)), ap body_length (entries_at page slot low), body_long page (get_or page 0 0) (entry_of page slot) size allowed)

covered : List ℕ → ℕ → List ℕ
covered page zero = []
covered page (suc count) = with_row (covered page count) (place_of (entry_of page count) - 1040) (length_of (entry_of page count))

-- a number among them is a byte of a body
covered_cases : (page : List ℕ) (count number : ℕ) → IsSlotted page → count ≤ 128 → list_any (eqb number) (covered page count) ≡ true → IsBodyOf page count (number + 1040)
unfolding covered
covered_cases page zero number is few has = absurd (false≢true has)
covered_cases page (suc count) number is few has = elim (row_cases (covered page count) (place_of (entry_of page count) - 1040) (length_of (entry_of page count)) number has) [
  | inl other ↦
      let found : IsBodyOf page count (number + 1040) = covered_cases page count number is (omega arith) other in
      record { slot = found.slot; low = omega (arith, found.low); inside = found.inside }
  | inr row ↦ elim (body_within (get_or page 0 0) (entry_of page count) (is.spelled count (omega arith)).allowed) [
    | inl empty ↦ absurd (omega (arith, row.1))
    | inr body ↦ record { slot = count; low = omega arith; inside = record { low = omega (arith, row.0, body.low); high = omega (arith, row.1, body.low) } }
  ]
]

covered_distinct : (page : List ℕ) (count : ℕ) → IsSlotted page → count ≤ 128 → IsDistinct eqb (covered page count)
unfolding IsDistinct covered
covered_distinct page zero is few = tt
covered_distinct page (suc count) is few =
    row_distinct (covered page count) (place_of (entry_of page count) - 1040) (length_of (entry_of page count)) (covered_distinct page count is (omega arith)) (λ number low high has.
    let found : IsBodyOf page count (number + 1040) = covered_cases page count number is (omega arith) has in
    elim (body_within (get_or page 0 0) (entry_of page count) (is.spelled count (omega arith)).allowed) [
      | inl empty ↦ omega arith
      | inr body ↦
          let same = is.apart found.slot count (number + 1040) (omega (arith, found.low)) (omega arith) found.inside (record { low = omega (arith, body.low); high = omega (arith, body.low) }) in
          omega (arith, same, found.low)
    ])

length-covered : (page : List ℕ) (count : ℕ) → IsSlotted page → count ≤ 128 → length (covered page count) ≡ body_bytes (take count (entries page))
unfolding covered
length-covered page zero is few = refl
length-covered page (suc count) is few = omega (arith, length-with_row (covered page count) (place_of (entry_of page count) - 1040) (length_of (entry_of page count)), length-covered page count is (omega arith), body_more page count is.size (is.spelled count (omega arith)).allowed (omega arith), ap (λ (n : ℕ). body_bytes (take n (entries page))) (add-one count))

-- the bodies have 3,056 bytes at most
pub bodies_fit : (page : List ℕ) → IsSlotted page → body_bytes (entries page) ≤ 3056
bodies_fit page is =
    let few = length-le_from_distinct_below (covered page 128) 3056 (covered_distinct page 128 is (omega arith)) (λ number has.
    let found : IsBodyOf page 128 (number + 1040) = covered_cases page 128 number is (omega arith) has in
    let allowed = (is.spelled found.slot found.low).allowed in
    elim (body_within (get_or page 0 0) (entry_of page found.slot) allowed) [
      | inl empty ↦ absurd (omega (arith, found.inside.low, found.inside.high))
      | inr body ↦ omega (arith, found.inside.high, body.high)
    ]) in
    omega (arith, length-covered page 128 is (omega arith), ap body_bytes (take_all 128 (entries page) (omega (arith, length-entries page))))

-- the bodies of all other slots, and that of this one
pub room_beside : (page : List ℕ) (slot : ℕ) → IsSlotted page → slot < 128 → body_bytes (set (entries page) slot Empty) + length_of (entry_of page slot) ≡ body_bytes (entries page)
room_beside page slot is low = omega (arith, sum_by-set body_length (entries page) slot Empty Empty (omega (arith, length-entries page)), ap body_length (entries_at page slot low), body_long page (get_or page 0 0) (entry_of page slot) is.size (is.spelled slot low).allowed)
