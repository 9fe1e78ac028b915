-- A list that is sorted, and has no more members than one that rises, and all of its members, is that list. One that was sorted without ties rises.
use Rattle.std.proofs.Common.{◌≡◌, ◌≢◌, ◌⊎◌, inl, inr, ⊎_elim, Bool, true, false, ℕ, zero, suc, ◌+◌, ◌<◌, ◌≤◌, List, [], ◌∷◌, ◌++◌, length, get_or, refl, sym, ◌∙◌, ap, subst, arith, length-append}
use Rattle.std.specs.Cmp.{IsTotalOrder}
use Rattle.std.specs.List.{AllByRecursion, IsDistinct}
use Rattle.std.specs.List.Sorted.{IsPermutation, IsSortedBy}
use Rattle.std.specs.Ordering.{is_eq, is_lt, ordering_reverse}
use Rattle.std.specs.declared.cmp.Ordering.{Ordering}
use Rattle.std.specs.declared.cmp.Ordering.TheVariants.{Less, Equal, Greater}
use Rattle.std.proofs.lemmas.List.Sorted.{ranks_by, sorted_far}
use Rattle.std.proofs.lemmas.Map.Keys.{IsDistinct-IsPermutation, apart_from_distinct}
use Rattle.rss_levels.specs.Entries.{Each, Pairwise}
use Rattle.rss_levels.proofs.Lists.{each_weaker}
use Rattle.rss_model.proofs.Mixing.{In, in_left, in_right, in_parts}
use Rattle.rss_entries.proofs.Orders.{each_in, each_of_in, in_contains}

-- ---- members that are apart

record IsSplitAt {X : Type 0} (xs : List X) (a : X) : Type 0 where
  front : List X
  back : List X
  is : xs ≡ front ++ a ∷ back

module _ {X : Type 0} where
  split_in : (xs : List X) (a : X) → In a xs → IsSplitAt xs a
  split_in [] a is = absurd is
  split_in (x ∷ xs) a (inl here) = record { front = []; back = xs; is = ap (λ (y : X). y ∷ xs) here }
  split_in (x ∷ xs) a (inr more) = let rest = split_in xs a more in record { front = x ∷ rest.front; back = rest.back; is = ap (λ (l : List X). x ∷ l) rest.is }

  -- what is another member stands beside the first
  still : (x : X) (xs ys : List X) → Each (λ b. x ≢ b) xs → (cut : IsSplitAt ys x) (a : X) → In a xs → In a ys → In a (cut.front ++ cut.back)
  still x xs ys apart cut a is there = at (in_parts cut.front (x ∷ cut.back) a (subst (In a) cut.is there))
    where
      at : In a cut.front ⊎ In a (x ∷ cut.back) → In a (cut.front ++ cut.back)
      at (inl front) = in_left cut.front cut.back a front
      at (inr (inl here)) = absurd (each_in (λ b. x ≢ b) xs apart a is here)
      at (inr (inr back)) = in_right cut.front cut.back a back

  one_less : (x : X) (ys : List X) (cut : IsSplitAt ys x) → length ys ≡ length (cut.front ++ cut.back) + 1
  one_less x ys cut = omega (arith, ap (λ (l : List X). length l) cut.is, length-append cut.front (x ∷ cut.back), length-append cut.front cut.back)

  -- of lists whose members are apart none is longer than a list that has them all
  pub few_apart : (xs ys : List X) → Pairwise (λ a b. a ≢ b) xs → ((a : X) → In a xs → In a ys) → length xs ≤ length ys
  few_apart [] ys apart into = omega arith
  few_apart (x ∷ xs) ys apart into =
      let cut = split_in ys x (into x (inl refl)) in
      let rest = few_apart xs (cut.front ++ cut.back) apart.1 (λ a is. still x xs ys apart.0 cut a is (into a (inr is))) in
      omega (arith, rest, one_less x ys cut)

  -- and a list that is no longer has no other members
  pub all_apart : (xs ys : List X) → Pairwise (λ a b. a ≢ b) xs → ((a : X) → In a xs → In a ys) → length ys ≤ length xs → (a : X) → In a ys → In a xs
  all_apart [] [] apart into few a is = absurd is
  all_apart [] (y ∷ ys) apart into few a is = absurd (omega (arith, few))
  all_apart (x ∷ xs) ys apart into few a is =
      let cut = split_in ys x (into x (inl refl)) in
      let rest : In a (cut.front ++ cut.back) → In a xs = λ there. all_apart xs (cut.front ++ cut.back) apart.1 (λ b among. still x xs ys apart.0 cut b among (into b (inr among))) (omega (arith, few, one_less x ys cut)) a there in
      ahead x xs ys cut a rest (in_parts cut.front (x ∷ cut.back) a (subst (In a) cut.is is))
    where
      ahead : (x : X) (xs ys : List X) (cut : IsSplitAt ys x) (a : X) → (In a (cut.front ++ cut.back) → In a xs) → In a cut.front ⊎ In a (x ∷ cut.back) → In a (x ∷ xs)
      ahead x xs ys cut a rest (inl front) = inr (rest (in_left cut.front cut.back a front))
      ahead x xs ys cut a rest (inr (inl here)) = inl here
      ahead x xs ys cut a rest (inr (inr back)) = inr (rest (in_right cut.front cut.back a back))

  -- ---- a list that rises, and one that is sorted

  module _ (R : X → X → Type 0) (never : (a : X) → R a a → ⊥) where
    apart_of : (a b : X) → R a b → a ≢ b
    apart_of a b before same = never b (subst (λ (c : X). R c b) same before)

    few_rising : (xs ys : List X) → Pairwise R xs → ((a : X) → In a xs → In a ys) → length xs ≤ length ys
    few_rising xs ys rises into = few_apart xs ys (all_apart xs rises) into
      where
        all_apart : (xs : List X) → Pairwise R xs → Pairwise (λ a b. a ≢ b) xs
        all_apart [] rises = tt
        all_apart (x ∷ xs) rises = (each_weaker (R x) (λ b. x ≢ b) xs (apart_of x) rises.0, all_apart xs rises.1)

    pub same_sorted : (xs ys : List X) → Pairwise R xs → Pairwise (λ a b. R b a → ⊥) ys → ((a : X) → In a xs → In a ys) → length ys ≤ length xs → xs ≡ ys
    same_sorted [] [] rises sorted into few = refl
    same_sorted [] (y ∷ ys) rises sorted into few = absurd (omega (arith, few))
    same_sorted (x ∷ xs) [] rises sorted into few = absurd (into x (inl refl))
    same_sorted (x ∷ xs) (y ∷ ys) rises sorted into few = ⊎_elim
        (λ (here : y ≡ x). let rest = same_sorted xs ys rises.1 sorted.1 (λ a is. behind here a is (into a (inr is))) (omega (arith, few)) in λ i. sym here i ∷ rest i)
        (λ (more : In x ys). absurd (too_few (few_rising (x ∷ xs) ys rises (λ a is. ahead more a is (into a is)))))
        (into x (inl refl))
      where
        behind : y ≡ x → (a : X) → In a xs → In a (y ∷ ys) → In a ys
        behind here a is (inl same) = absurd (apart_of x a (each_in (R x) xs rises.0 a is) (sym here ∙ same))
        behind here a is (inr more) = more

        ahead : In x ys → (a : X) → In a (x ∷ xs) → In a (y ∷ ys) → In a ys
        ahead more a is (inr there) = there
        ahead more a (inl same) (inl here) = subst (λ (b : X). In b ys) same more
        ahead more a (inr is) (inl here) = absurd (each_in (λ b. R b y → ⊥) ys sorted.0 x more (subst (R x) (sym here) (each_in (R x) xs rises.0 a is)))

        too_few : suc (length xs) ≤ length ys → ⊥
        too_few many = omega (arith, many, few)

  -- ---- by places

  -- a relation between each two places of a list, by its elements
  pub pairwise_at : (R : X → X → Type 0) (xs : List X) → ((i j : ℕ) (d : X) → i < j → j < length xs → R (get_or xs i d) (get_or xs j d)) → Pairwise R xs
  pairwise_at R [] at = tt
  pairwise_at R (x ∷ xs) at = (
    each_of_in (R x) xs (λ a is. let place = in_contains xs a is in subst (R x) place.2 (at zero (suc place.0) a (omega arith) (omega (arith, place.1)))),
    pairwise_at R xs (λ i j d less low. at (suc i) (suc j) d (omega (arith, less)) (omega (arith, low))),
  )

  pub pairwise_weaker : (R S : X → X → Type 0) (xs : List X) → ((a b : X) → R a b → S a b) → Pairwise R xs → Pairwise S xs
  pairwise_weaker R S [] gives all = tt
  pairwise_weaker R S (x ∷ xs) gives all = (each_weaker (R x) (S x) xs (gives x) all.0, pairwise_weaker R S xs gives all.1)

-- ---- a list without ties, sorted

module _ {X : Type 0} {R : X → X → Ordering} (total : IsTotalOrder R) where
  abbrev ties : X → X → Bool
  ties a b = is_eq (R a b)

  no_ties : (xs : List X) → Pairwise (λ a b. R a b ≢ Equal) xs → IsDistinct ties xs
  unfolding IsDistinct
  no_ties [] apart = tt
  no_ties (x ∷ xs) apart = (none_with x xs apart.0, no_ties xs apart.1)
    where
      untied : (o : Ordering) → o ≢ Equal → is_eq o ≡ false
      untied Less not = refl
      untied Equal not = absurd (not refl)
      untied Greater not = refl

      none_with : (x : X) (xs : List X) → Each (λ b. R x b ≢ Equal) xs → AllByRecursion (λ b. ties x b ≡ false) xs
      none_with x [] apart = tt
      none_with x (y ∷ xs) apart = (untied (R x y) apart.0, none_with x xs apart.1)

  ties_flip : (a b : X) → ties a b ≡ ties b a
  ties_flip a b = ap is_eq (total.antisymm a b) ∙ by (R b a)
    where
      by : (o : Ordering) → is_eq (ordering_reverse o) ≡ is_eq o
      by Less = refl
      by Equal = refl
      by Greater = refl

  less_of : (a b : X) → ties a b ≡ false → is_lt (R b a) ≡ false → R a b ≡ Less
  less_of a b untied above = by (R a b) (R b a) (total.antisymm a b) untied above
    where
      by : (o p : Ordering) → o ≡ ordering_reverse p → is_eq o ≡ false → is_lt p ≡ false → o ≡ Less
      by o Less is untied above = absurd (cc)
      by o Equal is untied above = let tied : is_eq o ≡ true = ap is_eq is in absurd (cc)
      by o Greater is untied above = is

  -- each is less than those behind it
  pub sorted_strictly : (xs sorted : List X) → Pairwise (λ a b. R a b ≢ Equal) xs → IsPermutation xs sorted → IsSortedBy (λ a b. is_lt (R a b)) sorted → Pairwise (λ a b. R a b ≡ Less) sorted
  sorted_strictly xs sorted apart moved is =
      let distinct = IsDistinct-IsPermutation ties ties_flip xs sorted moved (no_ties xs apart) in
      pairwise_at (λ a b. R a b ≡ Less) sorted (λ i j d less low. less_of (get_or sorted i d) (get_or sorted j d)
      (apart_from_distinct ties sorted i j d distinct less low)
      (sorted_far (λ a b. is_lt (R a b)) (ranks_by total (λ (a : X). a)) sorted is i j d (omega (arith, less)) low))
