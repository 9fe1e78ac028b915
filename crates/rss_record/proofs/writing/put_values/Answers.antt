use Rattle.std.proofs.Common.{arith}
use Rattle.rss_record.proofs.Putting.{puts_then}
use Rattle.rss_record.proofs.writing.put_values.Goals as goal

pub returns-clause-written : goal.returns-clause-written
returns-clause-written c = puts_then (rw c.as_slice-bytes.ensures.bytes at c.put_u16-at.ensures.written) (rw c.as_slice-bytes.ensures.bytes at c.put.ensures.written) (omega arith) (omega arith)
