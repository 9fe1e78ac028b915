use Rattle.std.proofs.Common.{length}
use Rattle.rss_model.specs.Script.{IsValue}
use Rattle.rss_line.proofs.Sequences.{GoesOn}
use Rattle.rss_line.proofs.reader.Reader.values.Given as goal

abbrev pub invariant-loop-alloc : goal.invariant-loop-alloc
invariant-loop-alloc l = GoesOn IsValue l.initial.self l.tuple l.self

abbrev pub decreases-loop-alloc : goal.decreases-loop-alloc
decreases-loop-alloc l = length l.self
