-- A loop, from the one of its members on that began last.
use Rattle.std.proofs.Common.{◌≡◌, inl, inr, ℕ, Bool, true, cond, List, [], ◌∷◌, reverse, refl, sym, ◌∙◌, ap}
use Rattle.std.specs.Prelude.{Option, Some, None, is_some, is_none, find, IfNone}
use Rattle.std.proofs.lemmas.Bool.{cases_Bool, cond-true, cond-false, or_left, or_right, true≢false}
use Rattle.std.proofs.lemmas.List.{reverse-append}
use Rattle.rss_wait.specs.declared.wait.Wait.{Wait}
use Rattle.rss_wait.specs.Waits.{is_in, latest, IsLoop, IsCycle}
use Rattle.rss_wait.proofs.Members.{in_both, in_itself, cases_in}
use Rattle.rss_wait.proofs.Loops.{some_is, one_loop, turn}

-- ---- what is found

found_passes : (p : ℕ → Bool) (xs : List ℕ) (x : ℕ) → find p xs ≡ Some x → p x ≡ true
found_passes p [] x is = absurd (true≢false (ap is_none is))
found_passes p (y ∷ xs) x is = elim (cases_Bool (p y)) [
  | inl passes ↦ ap p (some_is (sym is ∙ cond-true (p y) (Some y) (find p xs) passes)) ∙ passes
  | inr fails ↦ found_passes p xs x (sym (cond-false (p y) (Some y) (find p xs) fails) ∙ is)
]

none_passes : (p : ℕ → Bool) (xs : List ℕ) (x : ℕ) → find p xs ≡ None → is_in xs x ≡ true → p x ≡ true → ⊥
none_passes p [] x none there passes = true≢false (sym there)
none_passes p (y ∷ xs) x none there passes = elim (cases_Bool (p y)) [
  | inl passed ↦ true≢false (ap is_some (sym (cond-true (p y) (Some y) (find p xs) passed) ∙ none))
  | inr failed ↦ elim (cases_in x y xs there) [
    | inl same ↦ true≢false (sym passes ∙ ap p (sym same) ∙ failed)
    | inr rest ↦ none_passes p xs x (sym (cond-false (p y) (Some y) (find p xs) failed) ∙ none) rest passes
  ]
]

found_alike : (p q : ℕ → Bool) → ((x : ℕ) → p x ≡ q x) → (xs : List ℕ) → find p xs ≡ find q xs
found_alike p q alike [] = refl
found_alike p q alike (x ∷ xs) = ap (λ (b : Bool). cond b (Some x) (find p xs)) (alike x) ∙ ap (cond (q x) (Some x)) (found_alike p q alike xs)

in_reverse : (t : ℕ) (xs : List ℕ) → is_in xs t ≡ true → is_in (reverse xs) t ≡ true
in_reverse t [] there = there
in_reverse t (x ∷ xs) there =
    ap (λ (l : List ℕ). is_in l t) (reverse-append (x ∷ []) xs)
    ∙ in_both t (reverse xs) (x ∷ [])
    ∙ elim (cases_in t x xs there) [
      | inl same ↦ or_right (is_in (reverse xs) t) (is_in (x ∷ []) t) (ap (λ (u : ℕ). is_in (u ∷ []) t) same ∙ in_itself t [])
      | inr rest ↦ or_left (is_in (reverse xs) t) (is_in (x ∷ []) t) (in_reverse t xs rest)
    ]

-- ---- the cycle

pub a_cycle : (opened : List ℕ) (waits : List Wait) (t last : ℕ) (loop cycle : List ℕ) → IsLoop waits t loop → latest opened loop ≡ Some last → IsLoop waits last cycle → IsCycle opened waits cycle × (is_in cycle t ≡ true)
a_cycle opened waits t last loop cycle one is two =
    let there : is_in loop last ≡ true = found_passes (is_in loop) (reverse opened) last is in
    let turned = turn waits t last loop one there in
    let same : (u : ℕ) → is_in cycle u ≡ is_in loop u = λ u. ap (λ (l : List ℕ). is_in l u) (one_loop waits last cycle turned.turned two turned.loop) ∙ turned.same u in
    let begins : is_in loop t ≡ true = ap (λ (l : List ℕ). is_in l t) one.is ∙ in_itself t one.rest in
    (record { first = last; loop = two; last = found_alike (is_in cycle) (is_in loop) same (reverse opened) ∙ is }, same t ∙ begins)

pub no_loop : (opened : List ℕ) (waits : List Wait) (t : ℕ) (cycle : List ℕ) → ((loop : List ℕ) → IsLoop waits t loop → ⊥) → IsCycle opened waits cycle → is_in cycle t ≡ true → ⊥
no_loop opened waits t cycle none is there = let turned = turn waits is.first t cycle is.loop there in none turned.turned turned.loop

pub some_latest : (opened : List ℕ) (waits : List Wait) (t : ℕ) (loop : List ℕ) → IsLoop waits t loop → is_in opened t ≡ true → latest opened loop ≡ None → ⊥
some_latest opened waits t loop is there none =
    none_passes (is_in loop) (reverse opened) t none (in_reverse t opened there) (ap (λ (l : List ℕ). is_in l t) is.is ∙ in_itself t is.rest)

pub some_loop : (opened : List ℕ) (waits : List Wait) (t last : ℕ) (loop : List ℕ) → IsLoop waits t loop → latest opened loop ≡ Some last → ((cycle : List ℕ) → IsLoop waits last cycle → ⊥) → ⊥
some_loop opened waits t last loop one is none =
    let turned = turn waits t last loop one (found_passes (is_in loop) (reverse opened) last is) in
    none turned.turned turned.loop

pub none_then : {X : Type 0} (r : Option X) {P Q : Type 0} → IfNone r P → (P → Q) → IfNone r Q
none_then None is so = so is
none_then (Some x) is so = tt
