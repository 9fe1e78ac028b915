-- The pages in memory that wait to be written.
use Rattle.std.specs.Prelude.{ℕ, ◌+◌, ◌≤◌, Bool, false, List, length, Option, Some, None}
use Rattle.rss_base.specs.Paged.{Mapped, AreAmong, HasEach}
use Rattle.rss_base.specs.declared.key.PageKey.{PageKey}
use Rattle.rss_frames.specs.Frames.{FrameOf, Frame}

-- the fewest frames that a buffer has
abbrev pub least_frames : ℕ
least_frames = 8

-- the page that a frame holds was changed, and isn't in its slot as yet
abbrev pub is_changed : Option Frame → Bool
is_changed None = false
is_changed (Some frame) = frame.changed

-- the pages that wait to be written
abbrev pub waiting_in : FrameOf → Mapped
waiting_in frames key = is_changed (frames key)

-- Pages that wait are written, and of each of them no more than once: what is left of a list that has each of them is so much shorter, and has each that still waits.
pub record Settles (waiting waiting_now : Mapped) (writes writes_now : ℕ) : Type 0 where
  pub fewer : AreAmong waiting_now waiting
  pub each : (keys : List PageKey) → HasEach keys waiting → (rest : List PageKey) × HasEach rest waiting_now × (writes_now + length rest ≤ writes + length keys)
