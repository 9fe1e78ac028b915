use Rattle.std.proofs.Common.{◌+◌, length}
use Rattle.rss_frames.proofs.Chain.{Search, until}
use Rattle.rss_frames.proofs.key_table.before.Given as goal

abbrev pub invariant-loop-at : goal.invariant-loop-at
invariant-loop-at l = Search l.links l.room (l.room + l.bucket) l.frame l.at

abbrev pub decreases-loop-at : goal.decreases-loop-at
decreases-loop-at l = until l.links l.frame (length l.links) l.at
