-- The image has the pairs that were passed.
use Rattle.std.proofs.Common.{◌≡◌, ◌+◌, ◌*◌, ◌≤◌, take}
use Rattle.rss_base.specs.DiskRule.{IsTold}
use Rattle.rss_base.specs.Steps.{PagesStep, pages_in}
use Rattle.rss_base.specs.declared.key.Space.TheVariants.{Image as ImageSpace}
use Rattle.rss_image.specs.Images.{nodes_of}
use Rattle.rss_entries.specs.Building.{pair_list}
use Rattle.rss_entries.proofs.Built.{Built}
use Rattle.rss_entries.proofs.building.build.Given as goal

abbrev pub invariant-loop-key : goal.invariant-loop-key
invariant-loop-key g l = record {
  of : nodes_of l.image ≡ record { segment = l.fn.segment; image = l.fn.number; width = l.fn.width };
  low : 1 ≤ l.image.levels;
  step : PagesStep (pages_in l.fn.segment ImageSpace) (255 * l.key-index) (1022 * l.key-index + 2) (g.P.Pages.view l.fn.pages) (g.P.Pages.view l.pages);
  built : IsTold (g.P.Pages.view l.fn.pages).disk → Built l.image (g.P.Pages.view l.fn.pages) (g.P.Pages.view l.pages) (pair_list (take l.key-index l.fn.pairs));
}
