use Rattle.std.proofs.Common.{◌≤◌, ◌<◌, ◌-◌, ℕ}
use Rattle.rss_check.specs.Marks.{IsUnmarkedIn}
use Rattle.rss_check.proofs.marking.unmarked_in.Given as goal

abbrev pub invariant-loop-number : goal.invariant-loop-number
invariant-loop-number g l = record {
  low : l.from ≤ (g.P.Pages.view l.pages).slots;
  none : (k : ℕ) → k < l.from → IsUnmarkedIn (g.P.Pages.view l.pages).mapped l.segment l.row k → ⊥;
}

abbrev pub decreases-loop-number : goal.decreases-loop-number
decreases-loop-number g l = (g.P.Pages.view l.pages).slots - l.from
