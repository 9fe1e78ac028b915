-- The first by name of the links that were looked at was found.
use Rattle.rss_members.specs.Calls.{both}
use Rattle.rss_members.proofs.LinkFound.{Looking}
use Rattle.rss_members.proofs.finding.connected.Given as goal

abbrev pub invariant-loop-place : goal.invariant-loop-place
invariant-loop-place g l = Looking (both (g.T.Tuples.view l.fn.tuples) l.catalog) (g.T.Tuples.view l.tuples) l.relation l.tid l.place l.least
