-- How many items of a list pass a test: none.
use Rattle.std.proofs.Common.{◌≡◌, ℕ, ◌+◌, Bool, true, false, cond, List, [], ◌∷◌, All, refl, sym, ◌∙◌, arith}
use Rattle.std.specs.Prelude.{count_by}
use Rattle.std.proofs.lemmas.List.Sums.{sum_by-cons}
use Rattle.std.proofs.lemmas.List.Elements.{All-nil, All-cons, All-head, All-tail}

-- one that passes is counted
abbrev bit : Bool → ℕ
bit passes = cond passes 1 0

pub counts_none : {X : Type 0} (p : X → Bool) (xs : List X) → All (λ x. p x ≡ false) xs → count_by p xs ≡ 0
counts_none p [] all = refl
counts_none p (x ∷ xs) all =
    let here = All-head (λ y. p y ≡ false) x xs all in
    let rest = counts_none p xs (All-tail (λ y. p y ≡ false) x xs all) in
    sum_by-cons (λ y. bit (p y)) x xs ∙ (λ i. bit (here i) + rest i)

not_counted : (passes : Bool) → bit passes ≡ 0 → passes ≡ false
not_counted true none = absurd (omega (arith, none))
not_counted false none = refl

pub none_counted : {X : Type 0} (p : X → Bool) (xs : List X) → count_by p xs ≡ 0 → All (λ x. p x ≡ false) xs
none_counted p [] none = All-nil (λ y. p y ≡ false)
none_counted p (x ∷ xs) none =
    let parts = sym (sum_by-cons (λ y. bit (p y)) x xs) ∙ none in
    All-cons (λ y. p y ≡ false) x xs (not_counted (p x) (omega (arith, parts))) (none_counted p xs (omega (arith, parts)))
