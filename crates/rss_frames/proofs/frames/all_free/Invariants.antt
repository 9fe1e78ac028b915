use Rattle.std.proofs.Common.{◌≡◌, ℕ, ◌<◌, length}
use Rattle.rss_frames.specs.Lists.{Has}
use Rattle.rss_frames.specs.Seated.{order_units}
use Rattle.rss_frames.proofs.frames.all_free.Given as goal

abbrev pub invariant-loop-frame : goal.invariant-loop-frame
invariant-loop-frame l = (l.free.room ≡ l.count) × (length l.free.frames ≡ l.frame)
    × ((i : ℕ) → Has i l.free.frames → i < l.frame)
    × (l.free.start ≡ l.fn.part.ptr) × (l.free.units ≡ order_units l.count)
