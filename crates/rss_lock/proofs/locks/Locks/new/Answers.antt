use Rattle.rss_lock.proofs.Telling.{empty_table}
use Rattle.rss_lock.proofs.Machine.{empty_of}
use Rattle.rss_lock.proofs.locks.Locks.new.Goals as goal

pub invariant_of-result : goal.invariant_of-result
invariant_of-result c = empty_table c.none.result.places c.new.result.entries _ c.none.ensures c.new.ensures.empty

pub returns : goal.returns
returns c = empty_of _ 0 c.new.result.entries _ c.new.ensures.empty
