use Rattle.std.proofs.Common.{◌-◌, ◌≤◌, ◌<◌, ◌*◌, ℕ, get_or}
use Rattle.rss_base.specs.DiskRule.{IsTold}
use Rattle.rss_base.specs.Paged.{page_key}
use Rattle.rss_base.specs.Steps.{pages_in}
use Rattle.rss_base.specs.declared.key.Space.TheVariants.{Overflow}
use Rattle.rss_tuple.specs.Directory.{contents}
use Rattle.rss_base.specs.Looking.{LooksStep}
use Rattle.rss_tuple.specs.Looks.{IsNotedAt, AreMarked}
use Rattle.rss_tuple.proofs.checking.look_at_overflows.Given as goal

abbrev pub invariant-loop-number : goal.invariant-loop-number
invariant-loop-number g l = record {
  low : l.from ≤ (g.P.Pages.view l.fn.pages).slots;
  looks : LooksStep (pages_in l.segment Overflow) (1 * l.from) (g.P.Pages.view l.fn.pages) (g.P.Pages.view l.pages);
  noted : IsTold (g.P.Pages.view l.fn.pages).disk → (k : ℕ) → k < l.from → IsNotedAt (g.P.Pages.view l.fn.pages).held (g.P.Pages.view l.pages) (page_key l.segment Overflow k);
  led : IsTold (g.P.Pages.view l.fn.pages).disk → (k : ℕ) → k < l.from → AreMarked (contents (g.P.Pages.view l.fn.pages).held (page_key l.segment Overflow k)) (get_or l.led k 0);
}

abbrev pub decreases-loop-number : goal.decreases-loop-number
decreases-loop-number g l = (g.P.Pages.view l.pages).slots - l.from
