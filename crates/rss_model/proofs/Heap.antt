-- Counts of pages, and maps in which nothing is.
use Rattle.std.proofs.Common.{◌≡◌, ℕ, Bool, false, List, [], ◌∷◌, length, refl, sym, ◌∙◌, ap, arith}
use Rattle.std.specs.Prelude.{count_by}
use Rattle.std.specs.FinMap as map
use Rattle.std.specs.FinMap.{len-entries, len-empty}
use Rattle.std.proofs.lemmas.List.Sums.{sum_by-cons}
use Rattle.rss_model.specs.Items.{name_cmp}
use Rattle.rss_model.proofs.Counts.{one_if}

-- ---- counts

pub count_same : (f g : ℕ → Bool) (list : List ℕ) → ((k : ℕ) → f k ≡ g k) → count_by f list ≡ count_by g list
count_same f g list same = ap (λ (test : ℕ → Bool). count_by test list) (λ i k. same k i)

pub count_none : (f : ℕ → Bool) (list : List ℕ) → ((k : ℕ) → f k ≡ false) → count_by f list ≡ 0
count_none f [] none = refl
count_none f (k ∷ list) none = omega (arith, count_none f list none, sum_by-cons (λ (j : ℕ). one_if (f j)) k list, ap one_if (none k))

-- ---- no segments

pub nothing : {A : Type 0} (list : List A) → length list ≡ 0 → list ≡ []
nothing [] is = refl
nothing (a ∷ list) is = absurd (omega arith)

pub no_entries : (X : Type 0) → map.entries (map.empty {X = X} {R = name_cmp}) ≡ []
no_entries X = nothing _ (sym (len-entries map.empty) ∙ len-empty name_cmp X)
