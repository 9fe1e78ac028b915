use Rattle.rss_access.proofs.NextTuples.{Walked, count_behind}
use Rattle.rss_access.proofs.tuples.find_next.Given as goal

abbrev pub invariant-loop-tid : goal.invariant-loop-tid
invariant-loop-tid g l = Walked l.segment l.number l.fn.after (g.P.Pages.view l.fn.tuples.pages) (g.P.Pages.view l.tuples.pages) l.last

abbrev pub decreases-loop-tid : goal.decreases-loop-tid
decreases-loop-tid g l = count_behind l.last
