-- The frames of pages, whatever their order.
use Rattle.std.specs.Prelude.{◌≡◌, ℕ, ◌+◌, ◌<◌, Bool, false, List, [], ◌∷◌, ◌++◌, length, slice_range, slice_set, Option, Some, option_map}
use Rattle.rss_base.specs.DiskRule.{Disk, Told, page}
use Rattle.rss_base.specs.Steps.{with_bytes}
use Rattle.rss_base.specs.declared.key.PageKey.{PageKey}
use Rattle.rss_frames.specs.Lists.{Has}
use Rattle.rss_frames.specs.State.{State}
use Rattle.rss_frames.specs.Entries.{Held, Shows, IsEntry, entries, entry, bytes_of, both_changed, newest, room}

-- a page in memory, and whether it was changed
pub record Frame : Type 0 where
  pub page : List ℕ
  pub changed : Bool

-- the frame of each page that is in memory
abbrev pub FrameOf : Type 0
FrameOf = PageKey → Option Frame

abbrev pub frame_of : Held → Frame
frame_of held = record { page = held.bytes; changed = held.changed }

abbrev pub frame_among : List Held → FrameOf
frame_among es key = option_map frame_of (entry key es)

abbrev pub frame_in : State → FrameOf
frame_in s = frame_among (entries s)

-- the page that was used last
abbrev pub IsNewest : PageKey → State → Type 0
IsNewest key s = option_map (λ e. e.key) (newest (entries s)) ≡ Some key

-- a frame has no page
abbrev pub HasRoom : State → Type 0
HasRoom s = length (entries s) < room s

-- the page has a frame that had none, and is the one that was used last
pub record Admits (key : PageKey) (frame : ℕ) (changed : Bool) (old new : State) : Type 0 where
  pub within : frame < length old.keys
  pub unused : Has frame old.used → ⊥
  pub now : new ≡ record {
    keys = slice_set old.keys frame (Some key);
    used = frame ∷ old.used;
    pages = old.pages;
    marks = slice_set old.marks frame changed;
  }

-- the page is out that wasn't used for the longest time, and these were its bytes and its mark
abbrev pub Evicts : PageKey → List ℕ → Bool → State → State → Type 0
Evicts key bytes changed old new = entries old ≡ entries new ++ record { key = key; bytes = bytes; changed = changed } ∷ []

-- no page was there, and none is
pub record IsEmptied (old new : State) : Type 0 where
  pub before : entries old ≡ []
  pub after : entries new ≡ []

-- the page is the one that was used last, unchanged, with what the device holds there where it tells it
pub record ReadsIn (key : PageKey) (at : ℕ) (disk : Disk) (old new : State) : Type 0 where
  pub bytes : List ℕ
  pub now : entries new ≡ record { key = key; bytes = bytes; changed = false } ∷ entries old
  pub read : Told disk (λ pages. bytes ≡ page pages at)

-- Both pages are used, and one has so many bytes of the other now, from a place on, and is marked as changed. The other keeps its bytes and its mark.
pub record CopiesFrame (from : PageKey) (from_at : ℕ) (to : PageKey) (to_at count : ℕ) (old new : State) : Type 0 where
  pub source : Frame
  pub bytes : List ℕ
  pub from_there : IsEntry from source.page source.changed (entries old)
  pub to_there : bytes_of (entry to (entries old)) ≡ Some bytes
  pub now : Shows new (both_changed to from source.changed (with_bytes bytes to_at (slice_range source.page from_at (from_at + count))) source.page (entries old)) (room old)
