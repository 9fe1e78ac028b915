use Rattle.std.proofs.Common.{◌≡◌, ◌++◌, length}
use Rattle.rss_model.specs.Spellings.{doubled}
use Rattle.rss_line.proofs.reader.Reader.text_of_bytes.Given as goal

abbrev pub invariant-loop-text : goal.invariant-loop-text
invariant-loop-text l = l.initial.self ≡ doubled l.text ++ l.self

abbrev pub decreases-loop-text : goal.decreases-loop-text
decreases-loop-text l = length l.self
