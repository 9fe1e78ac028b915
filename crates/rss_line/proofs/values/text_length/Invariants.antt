use Rattle.std.proofs.Common.{length}
use Rattle.rss_line.proofs.Lengths.{Counts}
use Rattle.rss_line.proofs.values.text_length.Given as goal

abbrev pub invariant-loop-length : goal.invariant-loop-length
invariant-loop-length l = Counts l.bytes l.length l.reader

abbrev pub decreases-loop-length : goal.decreases-loop-length
decreases-loop-length l = length l.reader
