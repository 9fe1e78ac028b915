use Rattle.std.proofs.Common.{◌-◌}
use Rattle.rss_tuple.proofs.Spots.{Searched}
use Rattle.rss_tuple.proofs.finding.find_page.Given as goal

abbrev pub invariant-loop-number : goal.invariant-loop-number
invariant-loop-number g l = Searched (g.P.Pages.view l.fn.pages) (g.P.Pages.view l.pages) (record { segment = l.segment; space = l.space; length = l.length; barred = l.barred }) l.from

abbrev pub decreases-loop-number : goal.decreases-loop-number
decreases-loop-number g l = (g.P.Pages.view l.pages).slots - l.from
