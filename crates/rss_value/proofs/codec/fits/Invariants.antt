use Rattle.std.proofs.Common.{◌≡◌, ◌+◌, length, drop}
use Rattle.rss_base.specs.TupleTypes.{kinds, misfit_from, misfit}
use Rattle.rss_value.proofs.codec.fits.Given as goal

abbrev pub invariant-loop-field : goal.invariant-loop-field
invariant-loop-field l =
    (goal.iterator-loop-field).can_next l.field-iterator
    × (goal.iterator-loop-field).is_finite l.field-iterator
    × (l.number ≡ length l.yielded + 1)
    × (misfit (kinds l.fn.fields) l.fn.tuple ≡ misfit_from l.number (drop (length l.yielded) (kinds l.fn.fields)) (drop (length l.yielded) l.fn.tuple))
