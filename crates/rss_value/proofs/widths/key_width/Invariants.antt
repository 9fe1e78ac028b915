use Rattle.std.proofs.Common.{◌≡◌, ◌*◌, ◌≤◌, take}
use Rattle.rss_base.specs.TupleTypes.{kinds, key_width, chosen}
use Rattle.rss_value.proofs.widths.key_width.Given as goal

abbrev pub invariant-loop-number : goal.invariant-loop-number
invariant-loop-number l = (l.total ≡ key_width (chosen (take l.number-index l.which) (kinds l.fields))) × (l.total ≤ 256 * l.number-index)
