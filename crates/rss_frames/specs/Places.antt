-- What frames are once a page was marked, or written in its frame.
use Rattle.std.specs.Prelude.{ℕ, true, if◌then◌else◌, List, [], ◌∷◌, ◌++◌, length, take, drop, slice_set, Option}
use Rattle.rss_base.specs.declared.key.PageKey.{PageKey}
use Rattle.rss_frames.specs.Lists.{without}
use Rattle.rss_frames.specs.Table.{key_at, is_of}
use Rattle.rss_frames.specs.Recency.{Recency}
use Rattle.rss_frames.specs.State.{State}
use Rattle.rss_frames.specs.Invariant.{IsFrames}
use Rattle.rss_frames.specs.Pairs.{with_two}

-- the first of these frames that has the page
unfoldable pub first_with : List (Option PageKey) → PageKey → List ℕ → ℕ
first_with keys key [] = 0
first_with keys key (i ∷ is) = if is_of key (key_at keys i) then i else first_with keys key is

-- the frame of a page that is in memory
abbrev pub frame_for : PageKey → State → ℕ
frame_for key s = first_with s.keys key s.used

-- the page was changed, and used last
abbrev pub marked : PageKey → State → State
marked key s = record { keys = s.keys; used = frame_for key s ∷ without (frame_for key s) s.used; pages = s.pages; marks = slice_set s.marks (frame_for key s) true }

-- the same, and has these bytes
abbrev pub with_page : PageKey → List ℕ → State → State
with_page key bytes s = record (marked key s) { pages = slice_set s.pages (frame_for key s) bytes }

-- this of the second, and then of the first
abbrev pub with_both : PageKey → List ℕ → PageKey → List ℕ → State → State
with_both first v second w s = with_page first v (with_page second w s)

-- other bytes in as many frames
abbrev pub with_all : State → List (List ℕ) → State
with_all s pages = record s { pages = take (length s.pages) (pages ++ drop (length pages) s.pages) }

-- other bytes in two frames
abbrev pub with_frames : State → ℕ → ℕ → List ℕ → List ℕ → State
with_frames s i j v w = with_all s (with_two s.pages i j v w)

-- each page has a frame of its own, and each frame in use has a page
abbrev pub IsSound : State → Type 0
IsSound s = (room : ℕ) × (free : Recency) × IsFrames s room free
