use Rattle.rss_wait.proofs.Keeping.{AreSet}
use Rattle.rss_wait.proofs.waits.set_again.Given as goal

abbrev pub invariant-loop-wait : goal.invariant-loop-wait
invariant-loop-wait l = AreSet l.initial.waits l.waits l.wait-index
