use Rattle.std.proofs.Common.{◌≡◌, ℕ, ◌<◌, get_or, Some, None}
use Rattle.rss_base.specs.declared.name.Name.{Name}
use Rattle.rss_catalog.proofs.checking.are_once.Given as goal

abbrev pub invariant-loop-place : goal.invariant-loop-place
invariant-loop-place l = (j k : ℕ) (name : Name) → j < k → k < l.place → get_or l.items j None ≡ Some name → get_or l.items k None ≡ Some name → ⊥
