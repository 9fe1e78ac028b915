-- Changed pages that stand in slots one behind the other, before and after they are written there.
use Rattle.std.specs.Prelude.{◌≡◌, ◌⊎◌, ℕ, ◌+◌, ◌<◌, Bool, true, false, List, Option, Some, option_map}
use Rattle.rss_base.specs.DiskRule.{page, IsWithin}
use Rattle.rss_base.specs.PageMap.{owner_of}
use Rattle.rss_base.specs.declared.key.PageKey.{PageKey}
use Rattle.rss_frames.specs.Frames.{Frame, FrameOf}
use Rattle.rss_buffer.specs.Buffered.{unchanged}

-- where the page of a slot is in memory, it stands in the slot as well
abbrev pub IsWritten : List (Option PageKey) → FrameOf → ℕ → Type 0
IsWritten owners frames slot = (key : PageKey) (frame : Frame) → owner_of owners slot ≡ Some key → frames key ≡ Some frame → frame.changed ≡ false

-- a page is in memory, and it was changed or wasn't
pub record IsInFrame (frames : FrameOf) (key : PageKey) (changed : Bool) : Type 0 where
  pub frame : Frame
  pub there : frames key ≡ Some frame
  pub mark : frame.changed ≡ changed

-- where a page is in memory, it wasn't changed
abbrev pub IsUnchanged : FrameOf → PageKey → Type 0
IsUnchanged frames key = (frame : Frame) → frames key ≡ Some frame → frame.changed ≡ false

-- the page of a slot is in memory, was changed, and has these bytes
pub record IsChangedAt (owners : List (Option PageKey)) (frames : FrameOf) (slot : ℕ) (bytes : List ℕ) : Type 0 where
  pub key : PageKey
  pub frame : Frame
  pub owned : owner_of owners slot ≡ Some key
  pub there : frames key ≡ Some frame
  pub changed : frame.changed ≡ true
  pub has : frame.page ≡ bytes

-- the pages of so many slots from one on are in memory, were changed, and are these
abbrev pub IsGathered : List (Option PageKey) → FrameOf → ℕ → ℕ → List (List ℕ) → Type 0
IsGathered owners frames slot count run = (k : ℕ) → k < count → IsChangedAt owners frames (slot + k) (page run k)

-- the page has one of so many slots, from one on
pub record HasSlotAmong (owners : List (Option PageKey)) (slot count : ℕ) (key : PageKey) : Type 0 where
  pub at : ℕ
  pub within : IsWithin slot count at
  pub owned : owner_of owners at ≡ Some key

-- Once the pages of so many slots are written there, these are no longer ones that wait, and nothing else changes.
pub record AreSettled (owners : List (Option PageKey)) (slot count : ℕ) (frames frames_now : FrameOf) : Type 0 where
  pub each : (key : PageKey) → (frames_now key ≡ frames key)
      ⊎ (HasSlotAmong owners slot count key × (frames_now key ≡ option_map unchanged (frames key)))
  pub written : (at : ℕ) → IsWithin slot count at → IsWritten owners frames_now at
