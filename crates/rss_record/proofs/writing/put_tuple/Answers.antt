use Rattle.std.proofs.Common.{arith}
use Rattle.rss_record.proofs.Putting.{puts_then}
use Rattle.rss_record.proofs.writing.put_tuple.Goals as goal

pub returns-clause-written : goal.returns-clause-written
returns-clause-written c =
    let head = puts_then c.put_head-at.ensures.written c.put-at.ensures.written (omega arith) (omega arith) in
    let tid = puts_then head c.put_tid-at.ensures.written (omega arith) (omega arith) in
    puts_then tid c.put_values.ensures.written (omega arith) (omega arith)
