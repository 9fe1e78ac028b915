-- Elements of a list by their place, where it has parts.
use Rattle.std.proofs.Common.{◌≡◌, ℕ, zero, suc, ◌+◌, ◌-◌, ◌<◌, ◌≤◌, Bool, true, false, List, [], ◌∷◌, ◌++◌, length, refl, ap, ◌∙◌, sym, arith}
use Rattle.std.specs.Prelude.{Option, Some, Result, Ok, Err, IfOk, slice_get, ◌==◌, if◌then◌else◌}
use Rattle.std.proofs.lemmas.Bool.Decides.{nat_tests}
use Rattle.rss_model.specs.Generator.{when}

module _ {A : Type 0} where
  pub get_front : (xs ys : List A) (k : ℕ) → k < length xs → slice_get (xs ++ ys) k ≡ slice_get xs k
  get_front [] ys k low = absurd (omega arith)
  get_front (x ∷ xs) ys zero low = refl
  get_front (x ∷ xs) ys (suc k) low = get_front xs ys k (omega arith)

  pub get_behind : (xs ys : List A) (k : ℕ) → slice_get (xs ++ ys) (length xs + k) ≡ slice_get ys k
  get_behind [] ys k = ap (slice_get ys) (omega arith)
  get_behind (x ∷ xs) ys k =
      let next : length (x ∷ xs) + k ≡ suc (length xs + k) = omega arith in
      ap (slice_get (x ∷ (xs ++ ys))) next ∙ get_behind xs ys k

  -- by the whole place
  pub get_past : (xs ys : List A) (k : ℕ) → length xs ≤ k → slice_get (xs ++ ys) k ≡ slice_get ys (k - length xs)
  get_past xs ys k past =
      let parts : k ≡ length xs + (k - length xs) = omega arith in
      ap (slice_get (xs ++ ys)) parts ∙ get_behind xs ys (k - length xs)

  -- a line that is made is the one that stands there
  pub made : {E : Type 0} {o : Option A} {x : A} (r : Result A E) → o ≡ Some x → IfOk r (λ y. y ≡ x) → IfOk r (λ y. o ≡ Some y)
  made (Ok y) is same = is ∙ ap Some (sym same)
  made (Err e) is same = tt

  -- what is the same as one thing is the same as another
  pub same_as : {E : Type 0} {x z : A} (r : Result A E) → x ≡ z → IfOk r (λ y. y ≡ x) → IfOk r (λ y. y ≡ z)
  same_as (Ok y) same is = is ∙ same
  same_as (Err e) same is = tt

  -- one of a place is one of another, where the same stands there
  pub moved_to : {E : Type 0} {o p : Option A} (r : Result A E) → o ≡ p → IfOk r (λ y. p ≡ Some y) → IfOk r (λ y. o ≡ Some y)
  moved_to (Ok y) same is = same ∙ is
  moved_to (Err e) same is = tt

pub length-when : (test : Bool) (lines : List (List ℕ)) → length (when test lines) ≡ (if test then length lines else 0)
length-when true lines = refl
length-when false lines = refl

-- a line that is there only where a test holds
pub when_one : (test : Bool) (line : List ℕ) (k : ℕ) → k < length (when test (line ∷ [])) → slice_get (when test (line ∷ [])) k ≡ Some line
when_one true line zero low = refl
when_one true line (suc k) low = absurd (omega arith)
when_one false line k low = absurd (omega arith)

pub when_two : (test : Bool) (first second : List ℕ) (k : ℕ) → k < length (when test (first ∷ second ∷ [])) → slice_get (when test (first ∷ second ∷ [])) k ≡ Some (if k == 0 then first else second)
when_two true first second zero low = refl
when_two true first second (suc zero) low = refl
when_two true first second (suc (suc k)) low = absurd (omega arith)
when_two false first second k low = absurd (omega arith)

pub not_zero : (n : ℕ) → (n ≡ 0 → ⊥) → (n == 0) ≡ false
not_zero n some = grind (arith, nat_tests)
