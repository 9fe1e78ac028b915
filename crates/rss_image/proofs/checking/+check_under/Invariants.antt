use Rattle.std.proofs.Common.{ℕ, ◌+◌, ◌-◌, ◌*◌, ◌≤◌, drop}
use Rattle.rss_base.specs.DiskRule.{IsTold}
use Rattle.rss_base.specs.Steps.{PagesStep, no_page as no_pages}
use Rattle.rss_levels.specs.Entries.{Pairwise}
use Rattle.rss_levels.specs.Rows.{Row, IsBefore, marks}
use Rattle.rss_image.specs.Checking.{IsSeen, HoldsFit}
use Rattle.rss_image.specs.Marks.{MarksOnly, IsMappedIn}
use Rattle.rss_image.proofs.Marked.{MarksChildren, children}
use Rattle.rss_image.proofs.Walked.{Walked}
use Rattle.rss_image.proofs.checking.+check_under.Given as goal

abbrev pub decreases-check_under : goal.decreases-check_under
decreases-check_under g l = l.level

abbrev pub invariant-loop-at : goal.invariant-loop-at
invariant-loop-at g l = record {
  within : l.at ≤ l.count;
  few : l.seen.pairs ≤ 512 * l.seen.pages;
  step : (most : ℕ) × PagesStep no_pages most most (g.P.Pages.view l.fn.pages) (g.P.Pages.view l.pages);
  walked : IsTold (g.P.Pages.view l.fn.pages).disk → (found : HoldsFit l.of (g.P.Pages.view l.fn.pages) l.level l.number l.fewest l.count) → (row : Row) → IsSeen l.of.width row l.fn.seen.pages l.fn.seen → Pairwise IsBefore (marks row)
      → Walked l.of (g.P.Pages.view l.fn.pages).slots (g.P.Pages.view l.fn.pages).held (l.level - 1) l.low found.entries l.at row (l.fn.seen.pages + 1) l.seen;
  marked : IsTold (g.P.Pages.view l.fn.pages).disk → (found : HoldsFit l.of (g.P.Pages.view l.fn.pages) l.level l.number l.fewest l.count)
      → MarksChildren l.of (g.P.Pages.view l.fn.pages).slots (g.P.Pages.view l.fn.pages).held (l.level - 1) l.number (children (drop l.at found.entries)) l.fn.marks l.marks;
  reached : MarksOnly (IsMappedIn l.of (g.P.Pages.view l.fn.pages)) l.fn.marks l.marks;
}

abbrev pub decreases-loop-at : goal.decreases-loop-at
decreases-loop-at g l = l.at
