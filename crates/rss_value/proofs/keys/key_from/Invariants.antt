use Rattle.std.proofs.Common.{◌≡◌, length, take, All}
use Rattle.rss_base.specs.TupleTypes.{kinds, chosen, key_bytes, IsStorable}
use Rattle.rss_value.proofs.keys.key_from.Given as goal

abbrev pub invariant-loop-place : goal.invariant-loop-place
invariant-loop-place l =
    (goal.iterator-loop-place).can_next l.place-iterator
    × (goal.iterator-loop-place).is_finite l.place-iterator
    × (l.into ≡ key_bytes (take (length l.yielded) (kinds (chosen l.fn.which l.fn.fields))) (take (length l.yielded) l.fn.key))
    × All IsStorable (take (length l.yielded) l.fn.key)
