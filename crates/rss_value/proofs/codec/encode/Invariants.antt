use Rattle.std.proofs.Common.{◌≡◌, ◌++◌, length, take, All}
use Rattle.rss_base.specs.TupleTypes.{kinds, tuple_bytes, IsStorable}
use Rattle.rss_value.proofs.Writing.{bytes_from}
use Rattle.rss_value.proofs.codec.encode.Given as goal

-- what was written and what is to come are the bytes of the tuple
abbrev pub invariant-loop-field : goal.invariant-loop-field
invariant-loop-field l =
    (goal.iterator-loop-field).can_next l.field-iterator
    × (goal.iterator-loop-field).is_finite l.field-iterator
    × (l.into ++ bytes_from (kinds l.fn.fields) l.fn.tuple (length l.yielded) ≡ l.fn.into ++ tuple_bytes (kinds l.fn.fields) l.fn.tuple)
    × All IsStorable (take (length l.yielded) l.fn.tuple)
