-- Two lists that rise and have the same members are one, and a list that rises still does where a pair comes or goes.
use Rattle.std.proofs.Common.{◌≡◌, ◌≢◌, ◌⊎◌, inl, inr, ⊎_elim, ℕ, zero, suc, true, false, List, [], ◌∷◌, refl, sym, ◌∙◌, ap, subst, arith}
use Rattle.std.specs.Prelude.{Contains, map as list_map}
use Rattle.std.specs.Ordering.{nat_cmp, is_eq, is_lt}
use Rattle.std.specs.Cmp.Lexicographic.{slice_cmp}
use Rattle.std.specs.FinMap.{slice_cmp-IsAntisymmetric, nat_cmp-IsAntisymmetric}
use Rattle.std.specs.declared.cmp.Ordering.{Ordering}
use Rattle.std.specs.declared.cmp.Ordering.TheVariants.{Less, Equal, Greater}
use Rattle.rss_base.specs.Entries.{IsLess}
use Rattle.rss_levels.specs.Entries.{Each, Pairwise}
use Rattle.rss_levels.specs.Spots.{with_pair}
use Rattle.rss_levels.specs.Removes.{without_pair}
use Rattle.rss_levels.proofs.Lists.{each_weaker}
use Rattle.rss_base.proofs.Entries.{less_never, less_trans, greater_less}
use Rattle.rss_model.proofs.Mixing.{In}

-- ---- members

module _ {X : Type 0} where
  pub each_in : (P : X → Type 0) (xs : List X) → Each P xs → (a : X) → In a xs → P a
  each_in P [] all a is = absurd is
  each_in P (x ∷ xs) all a (inl same) = subst P same all.0
  each_in P (x ∷ xs) all a (inr is) = each_in P xs all.1 a is

  pub each_of_in : (P : X → Type 0) (xs : List X) → ((a : X) → In a xs → P a) → Each P xs
  each_of_in P [] each = tt
  each_of_in P (x ∷ xs) each = (each x (inl refl), each_of_in P xs (λ a is. each a (inr is)))

  pub in_contains : (xs : List X) (a : X) → In a xs → Contains xs a
  in_contains [] a is = absurd is
  in_contains (x ∷ xs) a (inl same) = (zero, omega arith, same)
  in_contains (x ∷ xs) a (inr is) = let rest = in_contains xs a is in (suc rest.0, omega (arith, rest.1), rest.2)

module _ {X Y : Type 0} (f : X → Y) where
  pub in_map : (xs : List X) (a : X) → In a xs → In (f a) (list_map f xs)
  in_map [] a is = absurd is
  in_map (x ∷ xs) a (inl same) = inl (ap f same)
  in_map (x ∷ xs) a (inr is) = inr (in_map xs a is)

  pub of_map : (xs : List X) (b : Y) → In b (list_map f xs) → (a : X) × In a xs × (f a ≡ b)
  of_map [] b is = absurd is
  of_map (x ∷ xs) b (inl same) = (x, inl refl, same)
  of_map (x ∷ xs) b (inr is) = let rest = of_map xs b is in (rest.0, inr rest.1, rest.2)

  -- what rises by one order rises by another
  pub map_rises : (R : X → X → Type 0) (S : Y → Y → Type 0) (xs : List X) → ((a b : X) → In a xs → In b xs → R a b → S (f a) (f b)) → Pairwise R xs → Pairwise S (list_map f xs)
  map_rises R S [] order rises = tt
  map_rises R S (x ∷ xs) order rises = (
    each_of_in (S (f x)) (list_map f xs) (λ b is. let of = of_map xs b is in subst (S (f x)) of.2 (order x of.0 (inl refl) (inr of.1) (each_in (R x) xs rises.0 of.0 of.1))),
    map_rises R S xs (λ a b one other. order a b (inr one) (inr other)) rises.1,
  )

-- ---- lists with the same members

module _ {X : Type 0} (R : X → X → Type 0) (never : (x : X) → R x x → ⊥) (trans : (x y z : X) → R x y → R y z → R x z) where
  same_head : (x y : X) (xs ys : List X) → Each (R x) xs → Each (R y) ys → In x (y ∷ ys) → In y (x ∷ xs) → x ≡ y
  same_head x y xs ys one other (inl same) from = sym same
  same_head x y xs ys one other (inr to) (inl same) = same
  same_head x y xs ys one other (inr to) (inr from) = absurd (never x (trans x y x (each_in (R x) xs one y from) (each_in (R y) ys other x to)))

  -- a member behind the first is behind the other first
  behind : (x y : X) (xs ys : List X) → x ≡ y → Each (R x) xs → ((a : X) → In a (x ∷ xs) → In a (y ∷ ys)) → (a : X) → In a xs → In a ys
  behind x y xs ys same one to a is =
      ⊎_elim (λ here. absurd (never a (subst (λ (b : X). R b a) (same ∙ here) (each_in (R x) xs one a is)))) (λ there. there) (to a (inr is))

  pub same_rising : (xs ys : List X) → Pairwise R xs → Pairwise R ys → ((a : X) → In a xs → In a ys) → ((a : X) → In a ys → In a xs) → xs ≡ ys
  same_rising [] [] one other to from = refl
  same_rising [] (y ∷ ys) one other to from = absurd (from y (inl refl))
  same_rising (x ∷ xs) [] one other to from = absurd (to x (inl refl))
  same_rising (x ∷ xs) (y ∷ ys) one other to from =
      let head = same_head x y xs ys one.0 other.0 (to x (inl refl)) (from y (inl refl)) in
      let rest = same_rising xs ys one.1 other.1 (behind x y xs ys head one.0 to) (behind y x ys xs (sym head) other.0 from) in
      λ i. head i ∷ rest i

-- ---- a pair that comes or goes

abbrev pub Rise : List (List ℕ) → Type 0
Rise pairs = Pairwise IsLess pairs

pub same_pairs : (xs ys : List (List ℕ)) → Rise xs → Rise ys → ((a : List ℕ) → In a xs → In a ys) → ((a : List ℕ) → In a ys → In a xs) → xs ≡ ys
same_pairs = same_rising IsLess (λ x is. less_never is) (λ x y z one other. less_trans one other)

-- which of two pairs is the lesser one
by_rank : {G : Type 0} (p x : List ℕ) → (is_lt (slice_cmp nat_cmp p x) ≡ true → is_eq (slice_cmp nat_cmp p x) ≡ false → IsLess p x → G)
    → (is_lt (slice_cmp nat_cmp p x) ≡ false → is_eq (slice_cmp nat_cmp p x) ≡ true → p ≡ x → G) → (is_lt (slice_cmp nat_cmp p x) ≡ false → is_eq (slice_cmp nat_cmp p x) ≡ false → IsLess x p → G) → G
by_rank {G} p x below tied above = by (slice_cmp nat_cmp p x) refl
  where
    by : (o : Ordering) → slice_cmp nat_cmp p x ≡ o → G
    by Less is = below (ap is_lt is) (ap is_eq is) (record { is = is })
    by Equal is = tied (ap is_lt is) (ap is_eq is) (slice_cmp-IsAntisymmetric nat_cmp-IsAntisymmetric p x is)
    by Greater is = above (ap is_lt is) (ap is_eq is) (greater_less p x is)

other_of : (a b : List ℕ) → IsLess a b → a ≢ b
other_of a b less same = less_never (subst (λ (c : List ℕ). IsLess a c) (sym same) less)

module _ (p : List ℕ) where
  -- the list with a pair
  pub with_in : (xs : List (List ℕ)) (a : List ℕ) → In a (with_pair p xs) → (p ≡ a) ⊎ In a xs
  with_in [] a (inl same) = inl same
  with_in [] a (inr is) = absurd is
  with_in (x ∷ xs) a is =
      let later = λ (off : is_lt (slice_cmp nat_cmp p x) ≡ false). ⊎_elim (λ same. inr (inl same)) (λ i. ⊎_elim (λ same. inl same) (λ j. inr (inr j)) (with_in xs a i)) (rw off at is) in
      by_rank p x (λ lt eq less. rw lt at is) (λ lt eq same. later lt) (λ lt eq less. later lt)

  pub in_with : (xs : List (List ℕ)) (a : List ℕ) → (p ≡ a) ⊎ In a xs → In a (with_pair p xs)
  in_with [] a is = is
  in_with (x ∷ xs) a is =
      let later : is_lt (slice_cmp nat_cmp p x) ≡ false → In a (with_pair p (x ∷ xs)) = λ off. rw off (⊎_elim (λ same. inr (in_with xs a (inl same))) (λ i. ⊎_elim (λ same. inl same) (λ j. inr (in_with xs a (inr j))) i) is) in
      by_rank p x (λ lt eq less. rw lt is) (λ lt eq same. later lt) (λ lt eq less. later lt)

  -- what is above a pair that is below the new one
  above_with : (x : List ℕ) (xs : List (List ℕ)) → IsLess x p → Each (IsLess x) xs → (a : List ℕ) → (p ≡ a) ⊎ In a xs → IsLess x a
  above_with x xs less above a (inl same) = subst (IsLess x) same less
  above_with x xs less above a (inr is) = each_in (IsLess x) xs above a is

  pub with_rises : (xs : List (List ℕ)) → (In p xs → ⊥) → Rise xs → Rise (with_pair p xs)
  with_rises [] none rises = (tt, tt)
  with_rises (x ∷ xs) none rises = by_rank p x
      (λ lt eq less. rw lt ((less, each_weaker (IsLess x) (IsLess p) xs (λ a is. less_trans less is) rises.0), rises))
      (λ lt eq same. absurd (none (inl (sym same))))
      (λ lt eq less. rw lt (each_of_in (IsLess x) (with_pair p xs) (λ a is. above_with x xs less rises.0 a (with_in xs a is)), with_rises xs (λ is. none (inr is)) rises.1))

  -- and without it
  pub without_in : (xs : List (List ℕ)) (a : List ℕ) → Rise xs → In a (without_pair p xs) → In a xs × (p ≢ a)
  without_in [] a rises is = absurd is
  without_in (x ∷ xs) a rises is =
      let later = λ (off : is_eq (slice_cmp nat_cmp p x) ≡ false) (other : p ≢ x). ⊎_elim {C = In a (x ∷ xs) × (p ≢ a)} (λ same. (inl same, λ there. other (there ∙ sym same))) (λ i. let rest = without_in xs a rises.1 i in (inr rest.0, rest.1)) (rw off at is) in
      by_rank p x
      (λ lt eq less. later eq (other_of p x less))
      (λ lt eq same. let there : In a xs = rw eq at is in (inr there, other_of p a (subst (λ (q : List ℕ). IsLess q a) (sym same) (each_in (IsLess x) xs rises.0 a there))))
      (λ lt eq less. later eq (λ same. other_of x p less (sym same)))

  pub in_without : (xs : List (List ℕ)) (a : List ℕ) → In a xs → p ≢ a → In a (without_pair p xs)
  in_without [] a is other = absurd is
  in_without (x ∷ xs) a is other =
      let later : is_eq (slice_cmp nat_cmp p x) ≡ false → In a (without_pair p (x ∷ xs)) = λ off. rw off (⊎_elim (λ same. inl same) (λ i. inr (in_without xs a i other)) is) in
      by_rank p x (λ lt eq less. later eq) (λ lt eq same. rw eq (⊎_elim (λ here. absurd (other (same ∙ here))) (λ i. i) is)) (λ lt eq less. later eq)

  pub without_rises : (xs : List (List ℕ)) → Rise xs → Rise (without_pair p xs)
  without_rises [] rises = tt
  without_rises (x ∷ xs) rises =
      let later : is_eq (slice_cmp nat_cmp p x) ≡ false → Rise (without_pair p (x ∷ xs)) = λ off. rw off (each_of_in (IsLess x) (without_pair p xs) (λ a is. each_in (IsLess x) xs rises.0 a (without_in xs a rises.1 is).0), without_rises xs rises.1) in
      by_rank p x (λ lt eq less. later eq) (λ lt eq same. rw eq rises.1) (λ lt eq less. later eq)
