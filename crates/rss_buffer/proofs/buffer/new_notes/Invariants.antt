use Rattle.rss_notes.specs.Marks.{told}
use Rattle.rss_buffer.proofs.Noted.{ArePut}
use Rattle.rss_buffer.proofs.buffer.new_notes.Given as goal

abbrev pub invariant-loop-owner : goal.invariant-loop-owner
invariant-loop-owner l = ArePut l.owner-items l.owner-index (told l.notes)
