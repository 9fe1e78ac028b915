use Rattle.rss_link.proofs.Checks.{Counting}
use Rattle.rss_link.proofs.Ordered.{room_behind}
use Rattle.rss_link.proofs.link.Chains.count_standing.Given as goal

abbrev pub invariant-loop-tid : goal.invariant-loop-tid
invariant-loop-tid g l = Counting l.self l.relations (g.T.Tuples.view l.fn.tuples) (g.T.Tuples.view l.tuples) l.last l.count

abbrev pub decreases-loop-tid : goal.decreases-loop-tid
decreases-loop-tid g l = room_behind l.last
