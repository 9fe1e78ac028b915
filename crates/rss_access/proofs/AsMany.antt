-- Members of lists; and the same numbers, none of them twice, are as many.
use Rattle.std.proofs.Common.{◌≡◌, ◌≢◌, inl, inr, ℕ, zero, suc, ◌<◌, ◌≤◌, List, [], ◌∷◌, length, arith}
use Rattle.std.specs.Prelude.{Contains, slice_index_or}
use Rattle.rss_levels.specs.Entries.{IsIn, Pairwise}
use Rattle.rss_levels.specs.Nested.{AreSameNumbers}
use Rattle.rss_model.proofs.Mixing.{In}
use Rattle.rss_access.proofs.SortedAlike.{few_apart}

pub contains_in : {X : Type 0} (xs : List X) (a : X) → Contains xs a → In a xs
contains_in {X} xs a has = at xs has.0 has.1 has.2
  where
    at : (ys : List X) (k : ℕ) → k < length ys → slice_index_or ys k a ≡ a → In a ys
    at [] k low is = absurd (omega (arith, low))
    at (x ∷ xs) zero low is = inl is
    at (x ∷ xs) (suc k) low is = inr (at xs k (omega (arith, low)) is)

-- ---- numbers

few_numbers : (ns ms : List ℕ) → Pairwise (λ a b. a ≢ b) ns → ((n : ℕ) → IsIn ns n → IsIn ms n) → length ns ≤ length ms
few_numbers ns ms apart into = few_apart ns ms apart (λ n is. is_in ms n (into n (of_in ns n is)))
  where
    is_in : (ks : List ℕ) (n : ℕ) → IsIn ks n → In n ks
    is_in [] n is = absurd is
    is_in (k ∷ ks) n (inl same) = inl same
    is_in (k ∷ ks) n (inr is) = inr (is_in ks n is)

    of_in : (ks : List ℕ) (n : ℕ) → In n ks → IsIn ks n
    of_in [] n is = absurd is
    of_in (k ∷ ks) n (inl same) = inl same
    of_in (k ∷ ks) n (inr is) = inr (of_in ks n is)

pub same_count : (ns ms : List ℕ) → AreSameNumbers ns ms → Pairwise (λ a b. a ≢ b) ms → length ns ≡ length ms
same_count ns ms same apart = omega (arith, few_numbers ns ms (same.distinct apart) same.into, few_numbers ms ns apart same.back)
