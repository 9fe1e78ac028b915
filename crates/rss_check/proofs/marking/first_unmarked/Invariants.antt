use Rattle.std.proofs.Common.{◌≤◌, ◌<◌, ℕ}
use Rattle.rss_base.specs.Paged.{NoneFrom}
use Rattle.rss_check.specs.Marks.{row_of, IsUnmarkedIn}
use Rattle.rss_check.proofs.marking.first_unmarked.Given as goal

abbrev pub invariant-loop-segment : goal.invariant-loop-segment
invariant-loop-segment g l = (segment : ℕ) → 1 ≤ segment → segment < l.segment
    → NoneFrom (IsUnmarkedIn (g.P.Pages.view l.pages).mapped segment (row_of l.rows segment)) 0
