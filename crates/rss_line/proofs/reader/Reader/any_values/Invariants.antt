use Rattle.std.proofs.Common.{List, length}
use Rattle.rss_line.specs.Owners.{IsAnyValue}
use Rattle.rss_line.proofs.Sequences.{GoesOn}
use Rattle.rss_line.proofs.reader.Reader.any_values.Given as goal

abbrev pub invariant-loop-self : goal.invariant-loop-self
invariant-loop-self l = (done : List (Unit {0})) × GoesOn IsAnyValue l.initial.self done l.self

abbrev pub decreases-loop-self : goal.decreases-loop-self
decreases-loop-self l = length l.self
