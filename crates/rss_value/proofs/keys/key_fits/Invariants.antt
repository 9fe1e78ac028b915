use Rattle.std.proofs.Common.{◌≡◌, ◌+◌, length, drop}
use Rattle.rss_base.specs.TupleTypes.{kinds, chosen, misfit_from, misfit}
use Rattle.rss_value.proofs.keys.key_fits.Given as goal

abbrev pub invariant-loop-place : goal.invariant-loop-place
invariant-loop-place l =
    (goal.iterator-loop-place).can_next l.place-iterator
    × (goal.iterator-loop-place).is_finite l.place-iterator
    × (l.number ≡ length l.yielded + 1)
    × (misfit (kinds (chosen l.fn.which l.fn.fields)) l.fn.key ≡ misfit_from l.number (drop (length l.yielded) (kinds (chosen l.fn.which l.fn.fields))) (drop (length l.yielded) l.fn.key))
