-- What the tests of an image's key find.
use Rattle.std.proofs.Common.{◌≡◌, ℕ, ◌+◌, ◌-◌, ◌<◌, ◌≤◌, Bool, List, [], ◌∷◌, ◌++◌, length, take, drop, get_or, replicate, Option, Some, None, All, refl, sym, ◌∙◌, ap, subst, inl, inr, arith}
use Rattle.std.specs.Prelude.{option_map, slice_get, ◌==◌}
use Rattle.std.specs.Bool.{Decides}
use Rattle.std.specs.List.{IsAnyAnswer, cons_option}
use Rattle.std.proofs.lemmas.Bool.{cases_eq, cases_lt}
use Rattle.std.proofs.lemmas.Bool.Decides.{Decides-eqb}
use Rattle.std.proofs.lemmas.Option.{slice_get-map}
use Rattle.std.proofs.lemmas.List.{length-drop, length-take-le, take-append-drop, drop_at, get_or-take, get_or_default}
use Rattle.std.proofs.lemmas.List.Elements.{All-replicate, contains_decides}
use Rattle.rss_base.specs.TupleTypes.{form_of, kinds, chosen}
use Rattle.rss_base.specs.Listings.{IsFieldNumber, AreDifferent}
use Rattle.rss_base.specs.declared.field.FieldDef.{FieldDef}
use Rattle.rss_value.specs.Numbers.{IsNumberOf}
use Rattle.rss_catalog.proofs.Tested.{zeros_all}

-- ---- zeros behind the numbers

pub zeros_behind : (fields : List ℕ) (count : ℕ) → length fields ≡ 16 → count ≤ 16 → All (λ byte. byte ≡ 0) (drop count fields) → fields ≡ take count fields ++ replicate (16 - count) 0
zeros_behind fields count long few all =
    let rest : length (drop count fields) ≡ 16 - count = length-drop count fields ∙ omega (arith, long) in
    sym (take-append-drop count fields) ∙ ap (λ (l : List ℕ). take count fields ++ l) (zeros_all (drop count fields) all ∙ ap (λ (n : ℕ). replicate n 0) rest)

pub zeros_there : (fields : List ℕ) (count : ℕ) → length fields ≡ 16 → count ≤ 16 → fields ≡ take count fields ++ replicate (16 - count) 0 → All (λ byte. byte ≡ 0) (drop count fields)
zeros_there fields count long few places =
    let front : length (take count fields) ≡ count = length-take-le count fields (omega (arith, long, few)) in
    let rest : drop count fields ≡ replicate (16 - count) 0 = ap (drop count) places ∙ drop_at (take count fields) (replicate (16 - count) 0) count front in
    subst (λ (l : List ℕ). All (λ byte. byte ≡ 0) l) (sym rest) (All-replicate (λ byte. byte ≡ 0) (16 - count) 0 refl)

-- ---- numbers that differ

-- whether the number of a place stands before it
pub stands_before : (numbers : List ℕ) (place : ℕ) (found : Bool) → place < length numbers → IsAnyAnswer (λ y t. (y == get_or numbers place 0) ≡ t) (take place numbers) found → Decides found ((j : ℕ) × (j < place) × (get_or numbers j 0 ≡ get_or numbers place 0))
stands_before numbers place found low any =
    let front = length-take-le place numbers (omega (arith, low)) in
    let is = contains_decides (λ a b. a == b) Decides-eqb (take place numbers) (get_or numbers place 0) found any in (
      λ yes. let at = is.0 yes in (at.0, omega (arith, at.1, front), sym (get_or-take place numbers at.0 0 (omega (arith, at.1, front))) ∙ at.2 0),
      λ at. is.1 (at.0, omega (arith, at.1, front), λ d. get_or-take place numbers at.0 d (omega (arith, at.1, front)) ∙ get_or_default numbers at.0 d 0 (omega (arith, at.1, low)) ∙ at.2),
    )

-- one number more that differs from those before
pub different_more : (numbers : List ℕ) (place : ℕ) → (((j : ℕ) × (j < place) × (get_or numbers j 0 ≡ get_or numbers place 0)) → ⊥) → ((j k : ℕ) → j < k → k < place → get_or numbers j 0 ≡ get_or numbers k 0 → ⊥)
    → (j k : ℕ) → j < k → k < place + 1 → get_or numbers j 0 ≡ get_or numbers k 0 → ⊥
different_more numbers place other before j k less low same = elim (cases_eq k place) [
  | inl here ↦ other (j, omega (arith, less, here), same ∙ ap (λ (n : ℕ). get_or numbers n 0) here)
  | inr off ↦ before j k less (omega (arith, low, off)) same
]

pub different_all : (numbers : List ℕ) (count : ℕ) → length numbers ≤ count → ((j k : ℕ) → j < k → k < count → get_or numbers j 0 ≡ get_or numbers k 0 → ⊥) → AreDifferent numbers
different_all numbers count all apart j k low_j low_k same = elim (cases_lt j k) [
  | inl less ↦ absurd (apart j k less (omega (arith, low_k, all)) same)
  | inr rest ↦ elim (cases_lt k j) [
    | inl more ↦ absurd (apart k j more (omega (arith, low_j, all)) (sym same))
    | inr both ↦ omega (arith, rest, both)
  ]
]

-- a number that stands twice
pub not_different : (numbers : List ℕ) (place : ℕ) → place < length numbers → ((j : ℕ) × (j < place) × (get_or numbers j 0 ≡ get_or numbers place 0)) → AreDifferent numbers → ⊥
not_different numbers place low found different =
    let same = different found.0 place (omega (arith, found.1, low)) low found.2 in
    omega (arith, same, found.1)

-- ---- the key's width

cons_kinds : (first : Option FieldDef) (rest : List FieldDef) → kinds (cons_option first rest) ≡ cons_option (option_map form_of first) (kinds rest)
cons_kinds None rest = refl
cons_kinds (Some field) rest = refl

-- the kinds of the fields of these numbers
pub chosen_kinds : (numbers : List ℕ) (fields : List FieldDef) → kinds (chosen numbers fields) ≡ chosen numbers (kinds fields)
chosen_kinds [] fields = refl
chosen_kinds (number ∷ numbers) fields =
    cons_kinds (slice_get fields (number - 1)) (chosen numbers fields)
    ∙ (λ i. cons_option (sym (slice_get-map form_of fields (number - 1)) i) (chosen_kinds numbers fields i))

-- numbers of fields, as they are said of a key
pub numbers_of : (fields : List FieldDef) (numbers : List ℕ) → All (IsFieldNumber (length fields)) numbers → All (IsNumberOf fields) numbers
numbers_of fields numbers all k d low = let here = all k d low in (here.low, here.high)
