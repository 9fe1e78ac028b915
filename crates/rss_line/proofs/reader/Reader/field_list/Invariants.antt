use Rattle.std.proofs.Common.{length}
use Rattle.rss_model.specs.Script.{IsField}
use Rattle.rss_line.proofs.Sequences.{GoesOn}
use Rattle.rss_line.proofs.reader.Reader.field_list.Given as goal

abbrev pub invariant-loop-self : goal.invariant-loop-self
invariant-loop-self l = GoesOn IsField l.initial.self l.fields l.self

abbrev pub decreases-loop-self : goal.decreases-loop-self
decreases-loop-self l = length l.self
