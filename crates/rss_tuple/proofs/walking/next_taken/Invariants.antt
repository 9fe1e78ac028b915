use Rattle.std.proofs.Common.{◌-◌}
use Rattle.rss_tuple.proofs.Walks.{Walked}
use Rattle.rss_tuple.proofs.walking.next_taken.Given as goal

abbrev pub invariant-loop-number : goal.invariant-loop-number
invariant-loop-number g l = Walked (g.P.Pages.view l.fn.pages) (g.P.Pages.view l.pages) l.segment l.fn.after l.from

abbrev pub decreases-loop-number : goal.decreases-loop-number
decreases-loop-number g l = (g.P.Pages.view l.pages).slots - l.from.page
