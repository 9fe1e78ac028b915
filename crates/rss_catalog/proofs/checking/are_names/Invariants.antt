use Rattle.std.proofs.Common.{◌≡◌, ℕ, ◌<◌, get_or, Some, None}
use Rattle.rss_base.specs.Names.{IsName}
use Rattle.rss_base.specs.declared.name.Name.{Name}
use Rattle.rss_catalog.proofs.checking.are_names.Given as goal

abbrev pub invariant-loop-item : goal.invariant-loop-item
invariant-loop-item l = (k : ℕ) (name : Name) → k < l.item-index → get_or l.items k None ≡ Some name → IsName name
