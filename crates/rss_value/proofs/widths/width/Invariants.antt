use Rattle.std.proofs.Common.{◌≡◌, ◌*◌, ◌≤◌, take}
use Rattle.rss_base.specs.TupleTypes.{kinds, width}
use Rattle.rss_value.proofs.widths.width.Given as goal

abbrev pub invariant-loop-field : goal.invariant-loop-field
invariant-loop-field l = (l.total ≡ width (take l.field-index (kinds l.fields))) × (l.total ≤ 257 * l.field-index)
