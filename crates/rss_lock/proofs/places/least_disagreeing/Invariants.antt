use Rattle.rss_lock.specs.Table.{IsLeastOf, DisagreesIn}
use Rattle.rss_lock.proofs.places.least_disagreeing.Given as goal

abbrev pub invariant-loop-place : goal.invariant-loop-place
invariant-loop-place l = IsLeastOf (DisagreesIn l.holders.places l.modes l.mode l.besides l.place) l.least
