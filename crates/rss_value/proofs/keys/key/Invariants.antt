use Rattle.std.proofs.Common.{◌≡◌, List, take}
use Rattle.rss_base.specs.declared.value.Value.{Value}
use Rattle.rss_base.specs.TupleTypes.{kinds, key_bytes, chosen, Spells}
use Rattle.rss_value.proofs.keys.key.Given as goal

abbrev pub invariant-loop-number : goal.invariant-loop-number
invariant-loop-number l =
    (tuple : List Value) → Spells (kinds l.fn.fields) l.fn.values tuple → l.into ≡ key_bytes (chosen (take l.number-index l.which) (kinds l.fn.fields)) (chosen (take l.number-index l.which) tuple)
