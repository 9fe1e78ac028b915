-- What has which number.
use Rattle.std.proofs.Common.{◌≡◌, ◌⊎◌, ℕ, ◌+◌, ◌-◌, ◌<◌, ◌≤◌, suc, zero, true, false, List, length, take, replicate, Option, Some, None, refl, sym, ◌∙◌, ap, inl, inr, arith, get_or}
use Rattle.std.specs.Prelude.{is_some, map, option_map, option_and_then, slice_get, ◌==◌}
use Rattle.std.proofs.lemmas.Bool.{cases_eq, cases_lt, cond-false, ne_eqb}
use Rattle.std.proofs.lemmas.Option.{none-some, slice_get-get_or, slice_get_past, slice_get-map}
use Rattle.std.proofs.lemmas.List.{length-set, length-replicate, length-take-le, get_or-take, get_or_default, get_or-replicate, get_or-set_same, get_or-set_other}
use Rattle.rss_base.specs.Listings.{numbered, with_number}

-- the item of a place, as a number looks it up
abbrev whole : {A : Type 0} → Option (Option A) → Option A
whole o = option_and_then (λ item. item) o

numbered_up : {A : Type 0} (items : List (Option A)) (number : ℕ) → 1 ≤ number → numbered items number ≡ whole (slice_get items (number - 1))
numbered_up items number low = cond-false (number == 0) None (whole (slice_get items (number - 1))) (ne_eqb number 0 (λ is. omega arith))

-- a place by its number
pub numbered_at : {A : Type 0} (items : List (Option A)) (number : ℕ) → 1 ≤ number → number ≤ length items → numbered items number ≡ get_or items (number - 1) None
numbered_at {A = A} items number low high = numbered_up items number low ∙ ap (λ (o : Option (Option A)). whole o) (slice_get-get_or items (number - 1) None (omega arith))

pub numbered_past : {A : Type 0} (items : List (Option A)) (number : ℕ) → length items < number → numbered items number ≡ None
numbered_past {A = A} items number past = numbered_up items number (omega arith) ∙ ap (λ (o : Option (Option A)). whole o) (slice_get_past items (number - 1) (omega arith))

-- only a place of the list has something
pub numbered_within : {A : Type 0} (items : List (Option A)) (number : ℕ) (item : A) → numbered items number ≡ Some item → (1 ≤ number) × (number ≤ length items)
numbered_within items zero item is = absurd (none-some item is)
numbered_within items (suc k) item is = elim (cases_lt (length items) (suc k)) [
  | inl past ↦ absurd (none-some item (sym (numbered_past items (suc k) past) ∙ is))
  | inr within ↦ (omega arith, within)
]

-- what a place has, its number has
pub has_number : {A : Type 0} (items : List (Option A)) (k : ℕ) (d : Option A) (item : A) → k < length items → get_or items k d ≡ Some item → numbered items (k + 1) ≡ Some item
has_number items k d item low is = numbered_at items (k + 1) (omega arith) (omega arith) ∙ ap (λ (n : ℕ). get_or items n None) (omega arith) ∙ get_or_default items k None d low ∙ is

-- and what a number has, its place has
pub place_has : {A : Type 0} (items : List (Option A)) (number : ℕ) (item : A) → numbered items number ≡ Some item → get_or items (number - 1) None ≡ Some item
place_has items number item is = let within = numbered_within items number item is in sym (numbered_at items number within.0 within.1) ∙ is

-- the first places have what has their numbers, where no later number has anything
pub numbered_take : {A : Type 0} (items : List (Option A)) (count number : ℕ) → count ≤ length items → ((k : ℕ) → count < k → numbered items k ≡ None) → numbered (take count items) number ≡ numbered items number
numbered_take items count zero few none = refl
numbered_take items count (suc k) few none =
    let long = length-take-le count items few in
    elim (cases_lt count (suc k)) [
      | inl past ↦ numbered_past (take count items) (suc k) (omega arith) ∙ sym (none (suc k) past)
      | inr within ↦
          numbered_at (take count items) (suc k) (omega arith) (omega arith)
          ∙ get_or-take count items (suc k - 1) None (omega arith)
          ∙ sym (numbered_at items (suc k) (omega arith) (omega arith))
    ]

-- what a number has that was given this, and what the others have
pub with_same : {A : Type 0} (items : List (Option A)) (number : ℕ) (item : Option A) → 1 ≤ number → number ≤ length items → numbered (with_number items number item) number ≡ item
with_same {A = A} items number item low high =
    numbered_at (with_number items number item) number low (omega (arith, length-set {A = Option A} items (number - 1) item)) ∙ get_or-set_same items (number - 1) item None (omega arith)

pub with_other : {A : Type 0} (items : List (Option A)) (number other : ℕ) (item : Option A) → 1 ≤ number → (other ≡ number → ⊥) → numbered (with_number items number item) other ≡ numbered items other
with_other items number zero item low off = refl
with_other {A = A} items number (suc k) item low off = elim (cases_lt (length items) (suc k)) [
  | inl past ↦ numbered_past (with_number items number item) (suc k) (omega (arith, length-set {A = Option A} items (number - 1) item)) ∙ sym (numbered_past items (suc k) past)
  | inr within ↦
      numbered_at (with_number items number item) (suc k) (omega arith) (omega (arith, length-set {A = Option A} items (number - 1) item))
      ∙ get_or-set_other items (number - 1) (suc k - 1) item None (λ same. off (omega arith))
      ∙ sym (numbered_at items (suc k) (omega arith) within)
]

-- what has a number now: it was given this, or had it before
pub with_cases : {A : Type 0} (items : List (Option A)) (number other : ℕ) (item : Option A) (found : A) → 1 ≤ number → number ≤ length items → numbered (with_number items number item) other ≡ Some found
    → ((other ≡ number) × (item ≡ Some found)) ⊎ ((other ≡ number → ⊥) × (numbered items other ≡ Some found))
with_cases {A = A} items number other item found low high is = elim (cases_eq other number) [
  | inl here ↦ inl (here, sym (with_same items number item low high) ∙ ap (λ (n : ℕ). numbered (with_number items number item) n) (sym here) ∙ is)
  | inr off ↦ inr (off, sym (with_other items number other item low off) ∙ is)
]

-- a number that is in use has something
pub used_has : {A : Type 0} (o : Option A) → is_some o ≡ true → (item : A) × (o ≡ Some item)
used_has None is = absurd (cc)
used_has (Some item) is = (item, refl)

pub unused_none : {A : Type 0} (o : Option A) → is_some o ≡ false → o ≡ None
unused_none None is = refl
unused_none (Some item) is = absurd (cc)

-- none of the numbers of a list has it: no number has
pub none_has : {A : Type 0} (items : List (Option A)) (item : A) (count : ℕ) → length items ≤ count → ((k : ℕ) → 1 ≤ k → k ≤ count → numbered items k ≡ Some item → ⊥) → (k : ℕ) → numbered items k ≡ Some item → ⊥
none_has items item count all none k is =
    let within = numbered_within items k item is in
    none k within.0 (omega (arith, within.1)) is

-- a part of each item, by its number
mapped_whole : {A B : Type 0} (f : A → B) (o : Option (Option A)) → whole (option_map (option_map f) o) ≡ option_map f (whole o)
mapped_whole f None = refl
mapped_whole f (Some item) = refl

pub numbered_map : {A B : Type 0} (f : A → B) (items : List (Option A)) (number : ℕ) → numbered (map (option_map f) items) number ≡ option_map f (numbered items number)
numbered_map f items zero = refl
numbered_map {A = A} {B = B} f items (suc k) =
    numbered_up (map (option_map f) items) (suc k) (omega arith)
    ∙ ap (λ (o : Option (Option B)). whole o) (slice_get-map (option_map f) items (suc k - 1))
    ∙ mapped_whole f (slice_get items (suc k - 1))
    ∙ ap (option_map f) (sym (numbered_up items (suc k) (omega arith)))

-- where nothing stands, no number has anything
pub none_numbered : {A : Type 0} (count number : ℕ) → numbered {A = A} (replicate count None) number ≡ None
none_numbered {A = A} count number = elim (cases_lt count number) [
  | inl past ↦ numbered_past (replicate count None) number (omega (arith, length-replicate {A = Option A} count None))
  | inr within ↦ elim (cases_eq number 0) [
    | inl zero_is ↦ ap (λ (n : ℕ). numbered {A = A} (replicate count None) n) zero_is
    | inr off ↦ numbered_at (replicate count None) number (omega (arith, off)) (omega (arith, length-replicate {A = Option A} count None)) ∙ get_or-replicate count (number - 1) None None (omega (arith, off))
  ]
]
