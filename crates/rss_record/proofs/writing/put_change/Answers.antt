use Rattle.std.proofs.Common.{arith}
use Rattle.rss_record.proofs.Putting.{puts_then}
use Rattle.rss_record.proofs.writing.put_change.Goals as goal

pub returns-in-Update-clause-written : goal.returns-in-Update-clause-written
returns-in-Update-clause-written c =
    let bounded = rw c.in-Update.is at c.requires in
    rw c.in-Update.is (puts_then c.put_tuple-at.ensures.written c.put_values.ensures.written (omega arith) (omega (arith, bounded.2)))
