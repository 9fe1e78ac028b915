use Rattle.std.proofs.Common.{arith}
use Rattle.rss_base.proofs.Steps.{widens}
use Rattle.rss_tuple.proofs.Checked.{heap_key}
use Rattle.rss_access.proofs.TupleChanges.{changes_removed}
use Rattle.rss_access.proofs.tuples.delete.Goals as goal

pub returns-clause-changes : goal.returns-clause-changes
returns-clause-changes g c = changes_removed c.remove.result c.remove.ensures.gone c.remove.ensures.takes c.remove.ensures.did

pub returns-clause-did : goal.returns-clause-did
returns-clause-did g c = widens (heap_key c.args.segment c.args.tid) (omega arith) (omega arith) c.remove.ensures.did.below
