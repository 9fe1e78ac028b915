use Rattle.std.proofs.Common.{◌≡◌, ◌+◌, ◌≤◌, List, ◌++◌, length, drop}
use Rattle.rss_base.specs.Entries.{Entry}
use Rattle.rss_image.specs.Checking.{AreSeen}
use Rattle.rss_image.proofs.checking.Seen.see_leaf.Given as goal

abbrev pub invariant-loop-at : goal.invariant-loop-at
invariant-loop-at l = record {
  within : l.at ≤ length l.node.entries;
  next : l.self.next ≡ l.fn.self.next;
  low : l.self.low ≡ l.fn.self.low;
  pages : l.self.pages ≡ l.fn.self.pages;
  pairs : l.self.pairs + l.at ≡ l.fn.self.pairs + length l.node.entries;
  seen : (entries : List Entry) → AreSeen l.node.width entries l.fn.self → AreSeen l.node.width (drop l.at l.node.entries ++ entries) l.self;
}

abbrev pub decreases-loop-at : goal.decreases-loop-at
decreases-loop-at l = l.at
