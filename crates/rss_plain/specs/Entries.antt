-- Entries come into a list one after another.
use Rattle.std.specs.Prelude.{List, [], ◌∷◌}
use Rattle.std.specs.FinMap.{FinMap, insert}
use Rattle.std.specs.declared.cmp.Ordering.{Ordering}

-- a map with more entries, of which the first comes last
abbrev pub with_entries : {K X : Type 0} {R : K → K → Ordering} → List (K × X) → FinMap R X → FinMap R X
with_entries [] entries = entries
with_entries (e ∷ es) entries = insert (with_entries es entries) e.0 e.1
