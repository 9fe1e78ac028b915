use Rattle.rss_lock.proofs.Holding.{nothing_in}
use Rattle.rss_lock.proofs.places.Holders.none.Goals as goal

pub invariant_of-result-clause-free : goal.invariant_of-result-clause-free
invariant_of-result-clause-free c = λ place past. nothing_in 32 place
