use Rattle.std.proofs.Common.{List, drop}
use Rattle.rss_base.specs.declared.value.Value.{Value}
use Rattle.rss_base.specs.TupleTypes.{kinds, Spells}
use Rattle.rss_value.proofs.Walking.{Walk}
use Rattle.rss_value.proofs.keys.put_part.Given as goal

abbrev pub invariant-loop-field : goal.invariant-loop-field
invariant-loop-field l =
    (tuple : List Value) → Spells (kinds l.fields) l.fn.values tuple → Walk (drop l.field-index (kinds l.fields)) l.cursor (drop l.field-index tuple)
