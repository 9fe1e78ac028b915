-- Each scan of a list is closed or kept.
use Rattle.std.proofs.Common.{◌≡◌, ℕ, suc, ◌<◌, ◌≤◌, List, [], ◌∷◌, ◌++◌, length, map, take, drop, get_or, ◌∙◌, ap, refl, arith}
use Rattle.std.specs.Prelude.{Option, None}
use Rattle.std.proofs.lemmas.List.{take_all, append-nil, drop_all}

-- a list whose elements are those of another, each after a step
pub mapped : {A : Type 0} (f : Option A → Option A) (old new : List (Option A)) → length new ≡ length old → ((k : ℕ) → k < length old → get_or new k None ≡ f (get_or old k None)) → new ≡ map f old
mapped f [] [] long each = refl
mapped f [] (n ∷ ns) long each = absurd (omega arith)
mapped f (o ∷ os) [] long each = absurd (omega arith)
mapped f (o ∷ os) (n ∷ ns) long each =
    let here : n ≡ f o = each 0 (omega arith) in
    let others = mapped f os ns (omega arith) (λ k below. each (suc k) (omega arith)) in
    λ i. here i ∷ others i

-- what was looked at is changed, and the others are not
pub record IsMapped {A : Type 0} (f : Option A → Option A) (old new : List (Option A)) (end : ℕ) : Type 0 where
  pub done : (k : ℕ) → k < end → get_or new k None ≡ f (get_or old k None)
  pub others : (k : ℕ) → end ≤ k → get_or new k None ≡ get_or old k None

pub whole : {A : Type 0} (n : ℕ) (new old : List A) → length new ≡ length old → n ≡ length old → take n (new ++ drop (length new) old) ≡ new
whole n new old long count =
    let none : drop (length new) old ≡ [] = drop_all (length new) old (omega arith) in
    ap (λ (l : List _). take n (new ++ l)) none ∙ ap (take n) (append-nil new) ∙ take_all n new (omega arith)
