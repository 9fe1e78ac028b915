-- Those before this one are right.
use Rattle.std.proofs.Common.{◌≡◌, ℕ, ◌<◌, get_or, true, Some, None}
use Rattle.rss_catalog.proofs.entries.first_wrong.Given as goal

abbrev pub invariant-loop-place : goal.invariant-loop-place
invariant-loop-place g l = (k : ℕ) (item : g.row.E.Denot) → k < l.place → get_or l.entries k None ≡ Some item → g.E.Placed.right item ≡ true
