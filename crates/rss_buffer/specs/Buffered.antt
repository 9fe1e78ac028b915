-- What holds of a buffer between any two calls, and what each call within it passes on.
use Rattle.std.specs.Prelude.{◌≡◌, ◌≢◌, ℕ, ◌+◌, ◌*◌, ◌<◌, ◌≤◌, Bool, true, false, List, length, Option, Some, None, Result, IfErr, OnOk}
use Rattle.rss_base.specs.Devices.{DeviceView, OnlyReads}
use Rattle.rss_base.specs.DiskRule.{Disk, Pages, page, Told, IsTold, Leaves, LeavesOnly, WritesIn}
use Rattle.rss_base.specs.Faults.{count_limit, counted}
use Rattle.rss_base.specs.Runs.{run_pages}
use Rattle.rss_base.specs.Layout.{map_at, slots_at}
use Rattle.rss_base.specs.PageMap.{owner_of, page_count, IsTable, IsMap}
use Rattle.rss_base.specs.Paged.{Held, AreAmong, WritesWaiting, HasFixed, LeavesFixed, HasPageCause}
use Rattle.rss_base.specs.Notes.{is_noted_space}
use Rattle.rss_base.specs.StoredPages.{mapped_by}
use Rattle.rss_base.specs.declared.fault.PageFault.{PageFault}
use Rattle.rss_base.specs.declared.fault.PageFault.TheVariants.{Device as DeviceFailed}
use Rattle.rss_base.specs.declared.key.PageKey.{PageKey}
use Rattle.rss_notes.specs.Notes.{NotesView}
use Rattle.rss_shadow.specs.Maps.{Maps}
use Rattle.rss_frames.specs.Frames.{Frame, FrameOf}
use Rattle.rss_buffer.specs.Waiting.{least_frames, waiting_in, Settles}
use Rattle.rss_buffer.specs.declared.stage.Stage.{Stage}
use Rattle.rss_buffer.specs.declared.stage.Stage.TheVariants.{Changing, Saved, Switched}
use Rattle.rss_buffer.specs.Slots.{held_by, is_loose, fixed_by}

-- What there is to see of a buffer within the crate.
-- device: what there is to see of the device.
-- first: where the data slots begin on it.
-- maps: the current map, and the shadow map.
-- notes: what was noted on the pages, and on which of them it can be.
-- frames: the pages in memory.
-- settled: no page but a data slot is on its way to the disk.
-- log_pages, area: how many log pages there are, and the map area that the selected root names.
-- stage: how far the saving has come.
-- asks: how many reads of a page there were.
-- outs: how many pages were driven out of memory.
-- room: how many pages there may be in memory at once.
pub record BufferView : Type 1 where
  pub device : DeviceView
  pub first : ℕ
  pub maps : Maps
  pub notes : NotesView
  pub frames : FrameOf
  pub settled : Bool
  pub log_pages : ℕ
  pub area : ℕ
  pub stage : Stage
  pub asks : ℕ
  pub outs : ℕ
  pub room : ℕ

-- what each page holds
abbrev pub held_of : BufferView → Held
held_of view = held_by view.first view.maps.current view.frames view.device.disk.contents

-- ---- what holds between any two calls

-- no frame holds a page that isn't in its slot as yet
abbrev pub NoneChanged : FrameOf → Type 0
NoneChanged frames = (key : PageKey) (frame : Frame) → frames key ≡ Some frame → frame.changed ≡ false

-- The frames are those of mapped pages, and a page that was changed has a slot that the shadow map doesn't use.
pub record AreFrames (maps : Maps) (frames : FrameOf) : Type 0 where
  pub mapped : (key : PageKey) (frame : Frame) → frames key ≡ Some frame
      → mapped_by maps.current key ≡ true
  pub own_slot : (key : PageKey) (frame : Frame) (slot : ℕ) → frames key ≡ Some frame
      → frame.changed ≡ true → owner_of maps.current slot ≡ Some key
      → owner_of maps.shadow slot ≡ None

-- a page that wasn't changed stands in its slot
abbrev pub AreClean : ℕ → Maps → FrameOf → Pages → Type 0
AreClean first maps frames pages =
    (key : PageKey) (frame : Frame) (slot : ℕ) → frames key ≡ Some frame → frame.changed ≡ false
    → owner_of maps.current slot ≡ Some key → frame.page ≡ page pages (first + slot)

-- a stop leaves what is fixed
abbrev pub StaysFixed : Disk → ℕ → List (Option PageKey) → Pages → Type 0
StaysFixed disk first shadow pages =
    (image : Pages) → Leaves disk image → HasFixed (fixed_by first shadow (Some pages)) image

-- the area holds this map
abbrev pub HoldsMapAt : List (Option PageKey) → ℕ → Pages → Type 0
HoldsMapAt owners area pages = IsMap (length owners) pages (map_at (length owners) area) owners

-- Once the current map is saved no page is changed, and its area holds it; once its root is selected a stop leaves what a read gives.
pub record IsAtStage (view : BufferView) : Type 0 where
  pub none_changed : view.stage ≢ Changing → NoneChanged view.frames
  pub saved : (area : ℕ) → view.stage ≡ Saved area → Told view.device.disk (HoldsMapAt view.maps.current area)
  pub synced : view.stage ≡ Switched → Told view.device.disk (LeavesOnly view.device.disk)

-- each page of either map has a slot of its own
abbrev pub HaveSlots : Maps → Type 0
HaveSlots maps = page_count maps.shadow + page_count maps.current ≤ length maps.current

-- The maps are tables of the slots, which stand behind the log pages, up to the end of a device of
-- this size.
pub record AreLaidOut (maps : Maps) (first log_pages size : ℕ) : Type 0 where
  pub table : IsTable maps.current
  pub count : length maps.shadow ≡ length maps.current
  pub room : HaveSlots maps
  pub place : first ≡ slots_at (length maps.current) log_pages
  pub ends : size ≡ first + length maps.current

-- The notes are for so many slots as the map has, and of home and overflow pages those are mapped
-- there that the map has.
pub record AreNotesOf (owners : List (Option PageKey)) (notes : NotesView) : Type 0 where
  pub slots : notes.slots ≡ length owners
  pub mapped : (key : PageKey) → is_noted_space key.space ≡ true
      → notes.mapped key ≡ mapped_by owners key

pub record IsBuffer (view : BufferView) : Type 0 where
  pub least : least_frames ≤ view.room
  pub laid_out : AreLaidOut view.maps view.first view.log_pages view.device.size
  pub noted : AreNotesOf view.maps.current view.notes
  pub frames_hold : AreFrames view.maps view.frames
  pub clean : Told view.device.disk (AreClean view.first view.maps view.frames)
  pub fixed : view.settled ≡ true → Told view.device.disk (StaysFixed view.device.disk view.first view.maps.shadow)
  pub at_stage : IsAtStage view

-- as many pages are mapped as there may be in memory
abbrev pub IsFilled : BufferView → Type 0
IsFilled view = view.room ≤ page_count view.maps.current

-- ---- what is done to the frames

-- the frame of a page that stands in its slot
abbrev pub unchanged : Frame → Frame
unchanged frame = record { page = frame.page; changed = false }

-- ---- what each call within the crate passes on

-- a data slot that the shadow map doesn't use
abbrev pub IsLoose : ℕ → List (Option PageKey) → ℕ → Type 0
IsLoose first shadow q = is_loose first shadow q ≡ true

-- a call that writes no other pages of the device than such slots
abbrev pub WritesLoose : ℕ → List (Option PageKey) → Disk → Disk → Type 0
WritesLoose first shadow old new = WritesIn (IsLoose first shadow) old new

-- Pages move between memory and their slots: the maps stay, what each page holds, what is noted, and
-- what is fixed. No pages of the device are written that are fixed. No more pages wait to be written,
-- and where none waits nothing is written.
pub record KeepsPages (old new : BufferView) : Type 0 where
  pub first : new.first ≡ old.first
  pub maps : new.maps ≡ old.maps
  pub notes : new.notes ≡ old.notes
  pub settled : new.settled ≡ old.settled
  pub log_pages : new.log_pages ≡ old.log_pages
  pub area : new.area ≡ old.area
  pub stage : new.stage ≡ old.stage
  pub asks : new.asks ≡ old.asks
  pub room : new.room ≡ old.room
  pub held : IsTold old.device.disk → held_of new ≡ held_of old
  pub leaves : LeavesFixed (old.settled ≡ true) (new.settled ≡ true) old.device.disk new.device.disk
      (fixed_by old.first old.maps.shadow old.device.disk.contents)
      (fixed_by new.first new.maps.shadow new.device.disk.contents)
  pub loose : WritesLoose old.first old.maps.shadow old.device.disk new.device.disk
  pub waiting : AreAmong (waiting_in new.frames) (waiting_in old.frames)
  pub unwritten : NoneChanged old.frames → OnlyReads old.device new.device
  pub writes : old.device.writes ≤ new.device.writes
  pub later : old.device.faults ≤ new.device.faults

-- one more page was asked for
abbrev pub asked_for : BufferView → BufferView
asked_for view = record view { asks = counted view.asks }

-- So many pages were driven out of memory at most, and for each no more than a run of pages was written.
pub record PutsOut (most outs writes outs_now writes_now : ℕ) : Type 0 where
  pub later : outs ≤ outs_now
  pub few : outs_now ≤ outs + most
  pub each : outs_now < count_limit → writes_now + run_pages * outs ≤ writes + run_pages * outs_now
  pub all : writes_now ≤ writes + run_pages * most

-- A call by which one page is driven out of memory at most, with a run of pages.
pub record MovesPages {T : Type 0} (old new : BufferView) (result : Result T PageFault) : Type 0 where
  pub keeps : KeepsPages old new
  pub puts : PutsOut 1 old.outs old.device.writes new.outs new.device.writes
  pub cause : HasPageCause old.device.disk old.device.faults new.device.faults result

-- A call that writes pages that wait to their slots, each of them once.
pub record WritesPages {T : Type 0} (old new : BufferView) (result : Result T PageFault) : Type 0 where
  pub keeps : KeepsPages old new
  pub outs : new.outs ≡ old.outs
  pub settles : OnOk result (Settles (waiting_in old.frames) (waiting_in new.frames) old.device.writes new.device.writes)
  pub few : WritesWaiting (waiting_in old.frames) 0 old.device.writes new.device.writes
  pub fault : IfErr result (λ fault. fault ≡ DeviceFailed)
  pub cause : HasPageCause old.device.disk old.device.faults new.device.faults result
