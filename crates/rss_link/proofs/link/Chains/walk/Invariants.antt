use Rattle.std.specs.Prelude.{◌-◌}
use Rattle.rss_link.specs.Blocks.{kept_ends}
use Rattle.rss_link.proofs.Checks.{Walking}
use Rattle.rss_link.proofs.link.Chains.walk.Given as goal

abbrev pub invariant-loop-next : goal.invariant-loop-next
invariant-loop-next g l = Walking l.self l.relations l.parent (kept_ends l.fn.ends) l.most (g.T.Tuples.view l.fn.tuples) (g.T.Tuples.view l.tuples) l.previous l.next l.count

abbrev pub decreases-loop-next : goal.decreases-loop-next
decreases-loop-next g l = l.most - l.count
