use Rattle.std.proofs.Common.{arith}
use Rattle.rss_record.proofs.Putting.{puts_then}
use Rattle.rss_record.proofs.writing.put_tid.Goals as goal

pub returns-clause-written : goal.returns-clause-written
returns-clause-written c = puts_then c.put_u32-at.ensures.written c.put_u16.ensures.written (omega arith) (omega arith)
