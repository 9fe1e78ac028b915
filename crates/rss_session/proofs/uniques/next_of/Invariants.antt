-- The least of the numbers that were looked at was found.
use Rattle.std.proofs.Common.{◌+◌}
use Rattle.rss_session.specs.Uniques.{FindsLeast}
use Rattle.rss_session.proofs.uniques.next_of.Given as goal

abbrev pub invariant-loop-place : goal.invariant-loop-place
invariant-loop-place l = FindsLeast l.catalog.listing l.relation l.after (l.place + 1) l.least
