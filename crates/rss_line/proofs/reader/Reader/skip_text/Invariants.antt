use Rattle.std.proofs.Common.{length}
use Rattle.rss_line.proofs.Skipped.{Skipping}
use Rattle.rss_line.proofs.reader.Reader.skip_text.Given as goal

abbrev pub invariant-loop : goal.invariant-loop
invariant-loop l = Skipping l.initial.self l.self

abbrev pub decreases-loop : goal.decreases-loop
decreases-loop l = length l.self
