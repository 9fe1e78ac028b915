use Rattle.std.proofs.Common.{◌+◌, ◌-◌, ◌*◌, ◌≤◌, length}
use Rattle.rss_notes.specs.Maxima.{AllBelow, IsLevel}
use Rattle.rss_notes.proofs.maxima.Maxima.first.Given as goal

abbrev pub invariant-loop-at : goal.invariant-loop-at
invariant-loop-at l = record {
  later : l.from ≤ l.at;
  level : IsLevel l.bits;
  lesser : AllBelow l.least l.self l.from l.at;
}

abbrev pub decreases-loop-at : goal.decreases-loop-at
decreases-loop-at l = 16 * (length l.self - l.at) + l.bits
