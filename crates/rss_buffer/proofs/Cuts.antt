-- Lists that are cut at one element, or at some.
use Rattle.std.proofs.Common.{◌≡◌, ◌≢◌, ℕ, zero, suc, ◌+◌, ◌<◌, ◌⊎◌, inl, inr, List, [], ◌∷◌, ◌++◌, length, get_or, refl, sym, ap, subst, arith}
use Rattle.std.proofs.lemmas.List.{length-append}
use Rattle.std.specs.List.{Contains}

module _ {X : Type 0} where
  head_in : (x : X) (xs : List X) → Contains (x ∷ xs) x
  head_in x xs = (0, omega arith, refl)

  tail_in : (y : X) (xs : List X) (x : X) → Contains xs x → Contains (y ∷ xs) x
  tail_in y xs x c = let within = c.1 in (suc c.0, omega arith, c.2)

  cases_at : (y : X) (xs : List X) (x : X) (k : ℕ) → k < length (y ∷ xs) → get_or (y ∷ xs) k x ≡ x → (y ≡ x) ⊎ Contains xs x
  cases_at y xs x zero within is = inl is
  cases_at y xs x (suc k) within is = inr (k, omega arith, is)

  cases_in : (y : X) (xs : List X) (x : X) → Contains (y ∷ xs) x → (y ≡ x) ⊎ Contains xs x
  cases_in y xs x c = cases_at y xs x c.0 c.1 c.2

  none_in : (x : X) → Contains [] x → ⊥
  none_in x c = let within = c.1 in omega arith

  -- an element that a list has cuts it
  pub Contains-cut : (xs : List X) (x : X) → Contains xs x → (us : List X) × (vs : List X) × (xs ≡ us ++ x ∷ vs)
  Contains-cut [] x c = absurd (none_in x c)
  Contains-cut (y ∷ xs) x c = elim (cases_in y xs x c) [
    | inl e ↦ ([], xs, ap (λ z. z ∷ xs) e)
    | inr d ↦ let on = Contains-cut xs x d in (y ∷ on.0, on.1, ap (λ l. y ∷ l) on.2)
  ]

  -- any other element is in what is left
  pub Contains-without : (xs : List X) (y : X) (ys : List X) (x : X) → Contains (xs ++ y ∷ ys) x → (y ≡ x) ⊎ Contains (xs ++ ys) x
  Contains-without [] y ys x c = cases_in y ys x c
  Contains-without (z ∷ xs) y ys x c = elim (cases_in z (xs ++ y ∷ ys) x c) [
    | inl e ↦ inr (subst (λ w. Contains (w ∷ (xs ++ ys)) x) (sym e) (head_in x (xs ++ ys)))
    | inr d ↦ elim (Contains-without xs y ys x d) [ inl e ↦ inl e | inr f ↦ inr (tail_in z (xs ++ ys) x f) ]
  ]

  without_shorter : {xs : List X} (us vs : List X) (x : X) → xs ≡ us ++ x ∷ vs → length xs ≡ length (us ++ vs) + 1
  without_shorter us vs x is = omega (arith, ap (λ l. length l) is, length-append us (x ∷ vs), length-append us vs)

  without_others : {xs : List X} (us vs : List X) (y x : X) → xs ≡ us ++ y ∷ vs → Contains xs x → (y ≡ x) ⊎ Contains (us ++ vs) x
  without_others us vs y x is there = Contains-without us y vs x (subst (λ l. Contains l x) is there)

  -- what is left of a list without so many elements that it has, no two of them the same
  pub record IsLeft (count : ℕ) (one : (k : ℕ) → k < count → X) (xs : List X) : Type 0 where
    pub rest : List X
    pub shorter : length xs ≡ length rest + count
    pub others : (x : X) → Contains xs x → ((k : ℕ) × (less : k < count) × (one k less ≡ x)) ⊎ Contains rest x

  abbrev pub AreApart : (count : ℕ) → ((k : ℕ) → k < count → X) → Type 0
  AreApart count one = (j k : ℕ) (earlier : j < count) (less : k < count) → j < k → one j earlier ≢ one k less

  pub left_of : (count : ℕ) (one : (k : ℕ) → k < count → X) (xs : List X) → AreApart count one → ((k : ℕ) (less : k < count) → Contains xs (one k less)) → IsLeft count one xs
  left_of zero one xs apart has = record { rest = xs; shorter = omega arith; others = λ x there. inr there }
  left_of (suc n) one xs apart has =
      let wider : (k : ℕ) → k < n → k < suc n = λ k less. omega arith in
      let most = left_of n (λ k less. one k (wider k less)) xs (λ j k earlier less. apart j k (wider j earlier) (wider k less)) (λ k less. has k (wider k less)) in
      let last : n < suc n = omega arith in
      let there : Contains most.rest (one n last) = elim (most.others (one n last) (has n last)) [
        | inl same ↦ absurd (apart same.0 n (wider same.0 same.1) last same.1 same.2)
        | inr there ↦ there
      ] in
      let cut = Contains-cut most.rest (one n last) there in record {
        rest = cut.0 ++ cut.1;
        shorter = omega (arith, most.shorter, without_shorter cut.0 cut.1 _ cut.2);
        others = λ x is. elim (most.others x is) [
          | inl same ↦ inl (same.0, wider same.0 same.1, same.2)
          | inr in_rest ↦ elim (without_others cut.0 cut.1 _ x cut.2 in_rest) [
            | inl same ↦ inl (n, last, same)
            | inr in_both ↦ inr in_both
          ]
        ];
      }
