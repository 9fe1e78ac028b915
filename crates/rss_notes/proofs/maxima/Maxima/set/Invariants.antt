use Rattle.std.proofs.Common.{◌≡◌, ◌<◌, length, drop, set}
use Rattle.rss_notes.proofs.Trees.{IsTreeBut}
use Rattle.rss_notes.proofs.maxima.Maxima.set.Given as goal

abbrev pub invariant-loop-node : goal.invariant-loop-node
invariant-loop-node l = record {
  within : l.node < length l.self-inside.tree.items;
  tree : IsTreeBut l.self-inside.tree.items l.node;
  numbers : drop 4368 l.self-inside.tree.items ≡ set l.fn.self l.place l.number;
}

abbrev pub decreases-loop-node : goal.decreases-loop-node
decreases-loop-node l = l.node
