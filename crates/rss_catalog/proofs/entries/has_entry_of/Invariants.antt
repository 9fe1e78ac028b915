-- No entry before this one belongs to the number.
use Rattle.std.proofs.Common.{◌≡◌, ℕ, ◌<◌, Some, get_or, None, true}
use Rattle.rss_catalog.proofs.entries.has_entry_of.Given as goal

abbrev pub invariant-loop-entry : goal.invariant-loop-entry
invariant-loop-entry g l = (k : ℕ) (entry : _) → k < l.entry-index → get_or l.entries k None ≡ Some entry → g.E.Entry.belongs entry l.number ≡ true → ⊥
