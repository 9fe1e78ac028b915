use Rattle.rss_lock.proofs.Listing.{Gathers}
use Rattle.rss_lock.proofs.locks.Locks.barred.Given as goal

abbrev pub invariant-loop-item : goal.invariant-loop-item
invariant-loop-item l = Gathers l.self-inside.holders.places l.transaction l.relations l.self-inside.items.entries l.item-iterator l.into.items
