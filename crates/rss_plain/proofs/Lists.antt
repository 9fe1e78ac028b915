-- Tests over lists.
use Rattle.std.proofs.Common.{◌≡◌, ◌+◌, ◌-◌, ◌<◌, ℕ, Bool, true, false, cond, ◌||◌, List, [], ◌∷◌, suc, drop, get_or, length, refl, sym, ◌∙◌, ap, arith}
use Rattle.std.specs.Prelude.{Option, Some, None, is_some, option_map, slice_get, slice_range, filter, find, count_by, map as list_map}
use Rattle.std.specs.List.{list_any}
use Rattle.std.proofs.lemmas.List.{drop_more}
use Rattle.std.proofs.lemmas.List.Sums.{length-filter}

module _ {X : Type 0} where
  -- what is left at a place begins with the item there
  pub head_of : (xs : List X) (i : ℕ) (x : X) → i < length xs → x ≡ get_or xs i x → drop i xs ≡ x ∷ drop (i + 1) xs
  head_of xs i x low is = drop_more xs i x low ∙ ap (λ (y : X). y ∷ drop (i + 1) xs) (sym is)

  -- a part of one item
  pub one_of : (xs : List X) (i : ℕ) (d : X) → i < length xs → slice_range xs i (i + 1) ≡ get_or xs i d ∷ []
  one_of xs i d low = let one : (i + 1) - i ≡ 1 = omega arith in rw (one, drop_more xs i d low) refl

module _ {X Y : Type 0} (f : X → Y) where
  pub find_map : (p : Y → Bool) (xs : List X) → find p (list_map f xs) ≡ option_map f (find (λ x. p (f x)) xs)
  find_map p [] = refl
  find_map p (x ∷ xs) = by (p (f x)) (find_map p xs)
    where
      by : (b : Bool) → find p (list_map f xs) ≡ option_map f (find (λ x. p (f x)) xs)
          → cond b (Some (f x)) (find p (list_map f xs)) ≡ option_map f (cond b (Some x) (find (λ x. p (f x)) xs))
      by true rest = refl
      by false rest = rest

  pub any_map : (p : Y → Bool) (xs : List X) → list_any p (list_map f xs) ≡ list_any (λ x. p (f x)) xs
  any_map p [] = refl
  any_map p (x ∷ xs) = ap (λ (b : Bool). p (f x) || b) (any_map p xs)

  pub filter_map : (p : Y → Bool) (xs : List X) → filter p (list_map f xs) ≡ list_map f (filter (λ x. p (f x)) xs)
  filter_map p [] = refl
  filter_map p (x ∷ xs) = by (p (f x)) (filter_map p xs)
    where
      by : (b : Bool) → filter p (list_map f xs) ≡ list_map f (filter (λ x. p (f x)) xs)
          → cond b (f x ∷ filter p (list_map f xs)) (filter p (list_map f xs))
          ≡ list_map f (cond b (x ∷ filter (λ x. p (f x)) xs) (filter (λ x. p (f x)) xs))
      by true rest = ap (λ (l : List Y). f x ∷ l) rest
      by false rest = rest

  length_map : (xs : List X) → length (list_map f xs) ≡ length xs
  length_map [] = refl
  length_map (x ∷ xs) = ap (λ (n : ℕ). suc n) (length_map xs)

  pub first_map : (xs : List X) → slice_get (list_map f xs) 0 ≡ option_map f (slice_get xs 0)
  first_map [] = refl
  first_map (x ∷ xs) = refl

  -- how many of what is made of a list pass a test
  pub count_map : (p : Y → Bool) (xs : List X) → length (filter p (list_map f xs)) ≡ count_by (λ x. p (f x)) xs
  count_map p xs = ap (λ (l : List Y). length l) (filter_map p xs) ∙ length_map (filter (λ x. p (f x)) xs)
      ∙ length-filter (λ x. p (f x)) xs

  pub counted_map : (p : Y → Bool) (xs : List X) → count_by p (list_map f xs) ≡ count_by (λ x. p (f x)) xs
  counted_map p xs = sym (length-filter p (list_map f xs)) ∙ count_map p xs

pub some_map : {X Y : Type 0} (f : X → Y) (o : Option X) → is_some (option_map f o) ≡ is_some o
some_map f None = refl
some_map f (Some x) = refl

pub none_of : {X : Type 0} (o : Option X) → is_some o ≡ false → o ≡ None
none_of None none = refl
none_of (Some x) none = absurd (cc (none))
