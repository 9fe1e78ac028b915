use Rattle.std.proofs.Common.{ℕ, ◌<◌}
use Rattle.rss_node.specs.Nodes.{entry_at}
use Rattle.rss_image.specs.Fitting.{IsFineEntry}
use Rattle.rss_image.proofs.fitting.are_fine.Given as goal

abbrev pub invariant-loop-at : goal.invariant-loop-at
invariant-loop-at l = (k : ℕ) → k < l.at → IsFineEntry l.node.width l.slots l.level (entry_at l.node.entries k)
