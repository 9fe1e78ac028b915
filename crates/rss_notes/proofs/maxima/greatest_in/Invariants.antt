use Rattle.std.proofs.Common.{◌≡◌, ◌-◌, take, drop}
use Rattle.rss_notes.specs.Maxima.{greatest}
use Rattle.rss_notes.proofs.maxima.greatest_in.Given as goal

abbrev pub invariant-loop-number : goal.invariant-loop-number
invariant-loop-number l = l.most ≡ greatest (take l.number-index (take (l.end - l.first) (drop l.first l.tree)))
