-- A sorted list without one of its pairs, and with it again, is the list.
use Rattle.std.specs.FinMap.{slice_cmp-IsAntisymmetric, nat_cmp-IsAntisymmetric}
use Rattle.std.proofs.Common.{◌≡◌, ◌<◌, ◌≤◌, ◌⊎◌, inl, inr, ⊎_elim, ℕ, suc, zero, Bool, true, false, List, [], ◌∷◌, length, refl, sym, ◌∙◌, ap, subst, arith}
use Rattle.std.specs.List.{Contains, slice_index_or}
use Rattle.std.specs.Ordering.{nat_cmp, is_lt, is_eq}
use Rattle.std.specs.Cmp.Lexicographic.{slice_cmp}
use Rattle.std.specs.declared.cmp.Ordering.{Ordering}
use Rattle.std.specs.declared.cmp.Ordering.TheVariants.{Less, Equal, Greater}
use Rattle.std.proofs.lemmas.Cmp.{nat_list_cmp_total, tied_itself}
use Rattle.rss_base.specs.Entries.{IsLess}
use Rattle.rss_levels.specs.Entries.{Each, Pairwise}
use Rattle.rss_levels.specs.Spots.{with_pair}
use Rattle.rss_levels.specs.Removes.{without_pair}
use Rattle.rss_base.proofs.Entries.{less_never, less_asym}

-- the pair is one of the list
abbrev pub StandsIn : List (List ℕ) → List ℕ → Type 0
StandsIn [] p = ⊥
StandsIn (x ∷ xs) p = (x ≡ p) ⊎ StandsIn xs p

pub stands_in : (pairs : List (List ℕ)) (p : List ℕ) → Contains pairs p → StandsIn pairs p
stands_in pairs p has = at pairs has.0 has.1 has.2
  where
    at : (ps : List (List ℕ)) (k : ℕ) → k < length ps → slice_index_or ps k p ≡ p → StandsIn ps p
    at [] k low is = absurd (omega arith)
    at (x ∷ xs) zero low is = inl is
    at (x ∷ xs) (suc k) low is = inr (at xs k (omega arith) is)

each_standing : (P : List ℕ → Type 0) (pairs : List (List ℕ)) (p : List ℕ) → Each P pairs → StandsIn pairs p → P p
each_standing P [] p all has = absurd has
each_standing P (x ∷ xs) p all has = ⊎_elim (λ (same : x ≡ p). subst P same all.0) (λ (rest : StandsIn xs p). each_standing P xs p all.1 rest) has

-- what is less than each pair of a list is put before them
pub put_first : (p : List ℕ) (xs : List (List ℕ)) → Each (IsLess p) xs → with_pair p xs ≡ p ∷ xs
put_first p [] all = refl
put_first p (x ∷ xs) all = let test : is_lt (slice_cmp nat_cmp p x) ≡ true = ap is_lt all.0.is in rw test refl

pub swap : (p : List ℕ) (pairs : List (List ℕ)) → Pairwise IsLess pairs → StandsIn pairs p → with_pair p (without_pair p pairs) ≡ pairs
swap p [] rises has = absurd has
swap p (x ∷ xs) rises has = by (swap p xs rises.1) (slice_cmp nat_cmp p x) refl
  where
    by : (StandsIn xs p → with_pair p (without_pair p xs) ≡ xs) → (o : Ordering) → slice_cmp nat_cmp p x ≡ o → with_pair p (without_pair p (x ∷ xs)) ≡ x ∷ xs
    by behind Less is = absurd (⊎_elim
        (λ (same : x ≡ p). less_never {a = p} (record { is = ap (slice_cmp nat_cmp p) (sym same) ∙ is }))
        (λ (rest : StandsIn xs p). less_asym {a = p} {b = x} (record { is = is }) (each_standing (IsLess x) xs p rises.0 rest)) has)
    by behind Equal is =
        let same : p ≡ x = slice_cmp-IsAntisymmetric nat_cmp-IsAntisymmetric p x is in
        let test : is_eq (slice_cmp nat_cmp p x) ≡ true = ap is_eq is in
        let cut : without_pair p (x ∷ xs) ≡ xs = rw test refl in
        ap (with_pair p) cut ∙ put_first p xs (subst (λ (q : List ℕ). Each (IsLess q) xs) (sym same) rises.0) ∙ ap (λ (q : List ℕ). q ∷ xs) same
    by behind Greater is =
        let rest : StandsIn xs p = ⊎_elim
        (λ (same : x ≡ p). let never : Greater ≡ Equal = sym is ∙ ap (slice_cmp nat_cmp p) same ∙ tied_itself nat_list_cmp_total p in absurd (cc))
        (λ (rest : StandsIn xs p). rest) has in
        let other : is_eq (slice_cmp nat_cmp p x) ≡ false = ap is_eq is in
        let above : is_lt (slice_cmp nat_cmp p x) ≡ false = ap is_lt is in
        let cut : without_pair p (x ∷ xs) ≡ x ∷ without_pair p xs = rw other refl in
        let put : with_pair p (x ∷ without_pair p xs) ≡ x ∷ with_pair p (without_pair p xs) = rw above refl in
        ap (with_pair p) cut ∙ put ∙ ap (λ (l : List (List ℕ)). x ∷ l) (behind rest)

-- ---- the list without a pair

pub less_each : (P : List ℕ → Type 0) (p : List ℕ) (pairs : List (List ℕ)) → Each P pairs → Each P (without_pair p pairs)
less_each P p [] all = tt
less_each P p (x ∷ xs) all = by (less_each P p xs all.1) (is_eq (slice_cmp nat_cmp p x)) refl
  where
    by : Each P (without_pair p xs) → (b : Bool) → is_eq (slice_cmp nat_cmp p x) ≡ b → Each P (without_pair p (x ∷ xs))
    by behind true test = let cut : without_pair p (x ∷ xs) ≡ xs = rw test refl in subst (Each P) (sym cut) all.1
    by behind false test = let kept : without_pair p (x ∷ xs) ≡ x ∷ without_pair p xs = rw test refl in subst (Each P) (sym kept) (all.0, behind)

pub less_long : (p : List ℕ) (pairs : List (List ℕ)) → length (without_pair p pairs) ≤ length pairs
less_long p [] = omega arith
less_long p (x ∷ xs) = by (less_long p xs) (is_eq (slice_cmp nat_cmp p x)) refl
  where
    by : length (without_pair p xs) ≤ length xs → (b : Bool) → is_eq (slice_cmp nat_cmp p x) ≡ b → length (without_pair p (x ∷ xs)) ≤ length (x ∷ xs)
    by behind true test = let cut : length (without_pair p (x ∷ xs)) ≡ length xs = rw test refl in omega (arith, cut)
    by behind false test = let kept : length (without_pair p (x ∷ xs)) ≡ suc (length (without_pair p xs)) = rw test refl in omega (arith, kept, behind)
