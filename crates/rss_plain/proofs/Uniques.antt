-- The unique images of a relation, one after another.
use Rattle.std.proofs.Common.{◌≡◌, Bool, true, false, cond, List, [], ◌∷◌, ◌++◌, refl, sym, ◌∙◌, ap, append_assoc}
use Rattle.std.specs.Prelude.{Option, Some, None, filter, flat_map, find, if◌then◌else◌, map as list_map}
use Rattle.rss_base.specs.declared.refusal.Refusal.{Refusal}
use Rattle.rss_model.specs.Refusals.{first_of}
use Rattle.rss_model.proofs.LogLists.{none_some}

module _ {X : Type 0} (p : X → Bool) (xs : List X) (x : X) (rest : List X) (is : xs ≡ x ∷ rest) where
  -- the first refusal among those that pass
  module _ (f : X → Option Refusal) where
    pub refused_past : (if p x then f x else None) ≡ None
        → first_of (list_map f (filter p xs)) ≡ first_of (list_map f (filter p rest))
    refused_past none = ap (λ (l : List X). first_of (list_map f (filter p l))) is ∙ by (p x) none
      where
        skip : (o : Option Refusal) → o ≡ None
            → first_of (o ∷ list_map f (filter p rest)) ≡ first_of (list_map f (filter p rest))
        skip o none = ap (λ (r : Option Refusal). first_of (r ∷ list_map f (filter p rest))) none

        by : (b : Bool) → (if b then f x else None) ≡ None
            → first_of (list_map f (cond b (x ∷ filter p rest) (filter p rest))) ≡ first_of (list_map f (filter p rest))
        by true none = skip (f x) none
        by false none = refl

    pub refused_here : (why : Refusal) → (if p x then f x else None) ≡ Some why
        → first_of (list_map f (filter p xs)) ≡ Some why
    refused_here why some = ap (λ (l : List X). first_of (list_map f (filter p l))) is ∙ by (p x) some
      where
        by : (b : Bool) → (if b then f x else None) ≡ Some why
            → first_of (list_map f (cond b (x ∷ filter p rest) (filter p rest))) ≡ Some why
        by true some = ap (λ (r : Option Refusal). first_of (r ∷ list_map f (filter p rest))) some
        by false some = none_some some

  -- what is made of those that pass
  pub made_more : {A : Type 0} (f : X → List A) (made : List A)
      → (made ++ (if p x then f x else [])) ++ flat_map f (filter p rest) ≡ made ++ flat_map f (filter p xs)
  made_more f made = by (p x) ∙ ap (λ (l : List X). made ++ flat_map f (filter p l)) (sym is)
    where
      by : (b : Bool) → (made ++ (if b then f x else [])) ++ flat_map f (filter p rest)
          ≡ made ++ flat_map f (cond b (x ∷ filter p rest) (filter p rest))
      by true = append_assoc made (f x) (flat_map f (filter p rest))
      by false = append_assoc made [] (flat_map f (filter p rest))

  -- the first that passes
  pub find_past : p x ≡ false → find p xs ≡ find p rest
  find_past off = rw (is, off) refl

  pub find_here : p x ≡ true → find p xs ≡ Some x
  find_here on = rw (is, on) refl
