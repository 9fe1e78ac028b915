-- No number before this place stands twice.
use Rattle.std.proofs.Common.{◌≡◌, ℕ, ◌<◌, get_or}
use Rattle.rss_catalog.proofs.checking.are_different.Given as goal

abbrev pub invariant-loop-place : goal.invariant-loop-place
invariant-loop-place l = (j k : ℕ) → j < k → k < l.place → get_or l.numbers j 0 ≡ get_or l.numbers k 0 → ⊥
