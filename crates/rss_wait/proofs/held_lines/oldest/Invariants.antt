use Rattle.rss_wait.specs.Queues.{number_of, IsLeast}
use Rattle.rss_wait.proofs.held_lines.oldest.Given as goal

abbrev pub invariant-loop-place : goal.invariant-loop-place
invariant-loop-place l = IsLeast number_of l.queues l.place l.best
