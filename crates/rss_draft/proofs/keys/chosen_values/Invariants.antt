use Rattle.std.proofs.Common.{◌≡◌, take}
use Rattle.rss_base.specs.TupleTypes.{chosen}
use Rattle.rss_draft.proofs.keys.chosen_values.Given as goal

abbrev pub invariant-loop-number : goal.invariant-loop-number
invariant-loop-number l = l.key ≡ chosen (take l.number-index l.which) l.tuple
