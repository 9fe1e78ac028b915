use Rattle.rss_wait.specs.Queues.{free_owner, IsLeast}
use Rattle.rss_wait.proofs.held_lines.least_free.Given as goal

abbrev pub invariant-loop-place : goal.invariant-loop-place
invariant-loop-place l = IsLeast (free_owner l.waits.waits) l.queues l.place l.best
