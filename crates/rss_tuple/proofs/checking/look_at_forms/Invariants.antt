use Rattle.std.proofs.Common.{◌-◌, ◌≤◌, ◌<◌, ℕ}
use Rattle.rss_base.specs.DiskRule.{IsTold}
use Rattle.rss_base.specs.Paged.{page_key}
use Rattle.rss_base.specs.Steps.{pages_in}
use Rattle.rss_base.specs.Looking.{LooksStep}
use Rattle.rss_tuple.specs.Looks.{IsRightAt}
use Rattle.rss_tuple.proofs.checking.look_at_forms.Given as goal

abbrev pub invariant-loop-number : goal.invariant-loop-number
invariant-loop-number g l = record {
  low : l.from ≤ (g.P.Pages.view l.fn.pages).slots;
  later : l.first ≤ l.from;
  looks : LooksStep (pages_in l.segment l.space) (l.from - l.first) (g.P.Pages.view l.fn.pages) (g.P.Pages.view l.pages);
  formed : IsTold (g.P.Pages.view l.fn.pages).disk → (k : ℕ) → l.first ≤ k → k < l.from → IsRightAt (g.P.Pages.view l.fn.pages).held (page_key l.segment l.space k);
}

abbrev pub decreases-loop-number : goal.decreases-loop-number
decreases-loop-number g l = (g.P.Pages.view l.pages).slots - l.from
