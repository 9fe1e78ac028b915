use Rattle.std.proofs.Common.{◌≡◌, ℕ, ◌<◌, Some}
use Rattle.std.specs.Prelude.{slice_get}
use Rattle.rss_base.specs.declared.need.Need.{Need}
use Rattle.rss_lock.specs.Table.{IsUnbarred, mode_of}
use Rattle.rss_lock.proofs.locks.Locks.check.Given as goal

abbrev pub invariant-loop-place : goal.invariant-loop-place
invariant-loop-place l = (k : ℕ) (need : Need) → k < l.place → slice_get l.needs k ≡ Some need → IsUnbarred (mode_of l.self) l.transaction need
