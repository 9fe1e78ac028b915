use Rattle.std.proofs.Common.{ℕ, suc, ◌<◌}
use Rattle.rss_base.specs.Entries.{IsLess}
use Rattle.rss_node.specs.Nodes.{entry_at}
use Rattle.rss_image.proofs.fitting.are_between.Given as goal

abbrev pub invariant-loop-at : goal.invariant-loop-at
invariant-loop-at l = (k : ℕ) → suc k < l.at → IsLess (entry_at l.node.entries k).pair (entry_at l.node.entries (suc k)).pair
