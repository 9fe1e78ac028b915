use Rattle.std.proofs.Common.{length}
use Rattle.rss_model.specs.Script.{IsNameWord}
use Rattle.rss_line.proofs.Sequences.{GoesOn}
use Rattle.rss_line.proofs.reader.Reader.name_list.Given as goal

abbrev pub invariant-loop-self : goal.invariant-loop-self
invariant-loop-self l = GoesOn IsNameWord l.initial.self l.names l.self

abbrev pub decreases-loop-self : goal.decreases-loop-self
decreases-loop-self l = length l.self
