-- Maps by their entries.
use Rattle.std.specs.Prelude.{ℕ, suc, if◌then◌else◌, List, [], ◌∷◌}
use Rattle.std.specs.Ordering.{is_gt}
use Rattle.std.specs.FinMap.{FinMap, from_sorted}
use Rattle.std.specs.declared.cmp.Ordering.{Ordering}

-- the map of these entries, whose keys rise
abbrev pub mapped : {K X : Type 0} → (R : K → K → Ordering) → List (K × X) → FinMap R X
mapped R entries = from_sorted {R = R} entries

-- the first place whose key isn't below this one
abbrev pub place_of : {K X : Type 0} → (K → K → Ordering) → K → List (K × X) → ℕ
place_of R key [] = 0
place_of R key (e ∷ entries) = if is_gt (R key e.0) then suc (place_of R key entries) else 0
