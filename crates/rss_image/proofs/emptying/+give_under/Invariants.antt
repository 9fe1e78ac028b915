use Rattle.std.proofs.Common.{ℕ, List, ◌+◌, ◌-◌, ◌*◌, ◌≤◌}
use Rattle.rss_base.specs.DiskRule.{IsTold}
use Rattle.rss_base.specs.Steps.{PagesStep, pages_in}
use Rattle.rss_base.specs.declared.key.Space.TheVariants.{Image}
use Rattle.rss_image.specs.Trees.{cells_of}
use Rattle.rss_image.specs.Emptied.{inner_most}
use Rattle.rss_image.proofs.Giving.{Opened, Emptying}
use Rattle.rss_image.proofs.emptying.+give_under.Given as goal

abbrev pub decreases-give_under : goal.decreases-give_under
decreases-give_under g l = l.level

abbrev pub invariant-loop-at : goal.invariant-loop-at
invariant-loop-at g l = record {
  low : l.at ≤ l.at-end;
  step : PagesStep (pages_in l.of.segment Image) (1 + l.at * inner_most l.of.width (l.level - 1)) (1 + l.at * inner_most l.of.width (l.level - 1)) (g.P.Pages.view l.fn.pages) (g.P.Pages.view l.pages);
  emptying : IsTold (g.P.Pages.view l.fn.pages).disk → (ns : List ℕ) → Opened l.of (cells_of l.of (g.P.Pages.view l.fn.pages).held) (l.level - 1) l.number l.node.entries ns → Emptying l.of (l.level - 1) l.node.entries l.at ns (g.P.Pages.view l.fn.pages) (g.P.Pages.view l.pages);
}
