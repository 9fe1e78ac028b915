use Rattle.std.proofs.Common.{◌-◌, length}
use Rattle.rss_wait.proofs.Loops.{IsWalk}
use Rattle.rss_wait.proofs.walking.cycle_from.Given as goal

abbrev pub invariant-loop-member : goal.invariant-loop-member
invariant-loop-member l = IsWalk l.waits l.t l.cycle l.member

abbrev pub decreases-loop-member : goal.decreases-loop-member
decreases-loop-member l = length l.waits - length l.cycle
