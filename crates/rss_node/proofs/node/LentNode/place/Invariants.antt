use Rattle.std.proofs.Common.{◌<◌, ◌≤◌, ◌-◌, length}
use Rattle.rss_node.specs.Nodes.{entry_at, IsPassed}
use Rattle.rss_node.proofs.node.LentNode.place.Given as goal

abbrev pub invariant-loop-low : goal.invariant-loop-low
invariant-loop-low l = record {
  order : l.low ≤ l.high;
  within : l.high ≤ length l.self.entries;
  before : 0 < l.low → IsPassed l.beyond (entry_at l.self.entries (l.low - 1)).pair l.target;
  here : l.high < length l.self.entries → IsPassed l.beyond (entry_at l.self.entries l.high).pair l.target → ⊥;
}

abbrev pub decreases-loop-low : goal.decreases-loop-low
decreases-loop-low l = l.high - l.low
