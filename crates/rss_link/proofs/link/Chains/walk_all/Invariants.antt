use Rattle.rss_link.specs.Blocks.{kept_ends}
use Rattle.rss_link.proofs.Checks.{WalkingAll}
use Rattle.rss_link.proofs.Ordered.{room_behind}
use Rattle.rss_link.proofs.link.Chains.walk_all.Given as goal

abbrev pub invariant-loop-tid : goal.invariant-loop-tid
invariant-loop-tid g l = WalkingAll l.self l.relations (kept_ends l.ends) l.fn.standing (g.T.Tuples.view l.fn.tuples) (g.T.Tuples.view l.tuples) l.last l.left

abbrev pub decreases-loop-tid : goal.decreases-loop-tid
decreases-loop-tid g l = room_behind l.last
