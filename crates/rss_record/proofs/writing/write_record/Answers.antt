use Rattle.std.proofs.Common.{arith}
use Rattle.rss_record.proofs.Marks.{length-marks_bytes}
use Rattle.rss_record.proofs.writing.write_record.Goals as goal
use Rattle.rss_record.proofs.writing.write_record.Goals.{in-Change, in-Restore, in-End, in-Abort, in-Checkpoint}

pub returns-clause-within : goal.returns-clause-within
returns-clause-within c = elim c.match-record_value.branch [
  | in-Change w ↦ omega (arith, w.end-is, w.put_change-end.ensures)
  | in-Restore w ↦ omega (arith, w.end-is, w.put_restore-end.ensures)
  | in-End w ↦ omega (arith, w.end-is, w.put_head-end.ensures)
  | in-Abort w ↦ omega (arith, w.end-is, w.put_head-end-in-Abort.ensures)
  | in-Checkpoint w ↦ omega (arith, w.end-is, w.put_checkpoint-end.ensures, length-marks_bytes w.in-Checkpoint.marks)
]
