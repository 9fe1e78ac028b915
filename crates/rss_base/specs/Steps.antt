-- What there is to see of pages, and what a call on them passes on, whatever it does.
use Rattle.std.specs.Prelude.{◌≡◌, ◌⊎◌, ℕ, ◌+◌, ◌*◌, ◌<◌, ◌≤◌, Bool, true, false, List, ◌++◌, length, take, drop, slice_range, Some, None, Result, Ok, Err, IsErrOf}
use Rattle.rss_base.specs.DiskRule.{Disk, IsTold}
use Rattle.rss_base.specs.Devices.{DeviceView, OnlyReads, SameDevice, DrivenView, DrivesOut}
use Rattle.rss_base.specs.Sizes.{zero_page}
use Rattle.rss_base.specs.Faults.{Rises}
use Rattle.rss_base.specs.Runs.{run_pages}
use Rattle.rss_base.specs.PageMap.{page_count}
use Rattle.rss_base.specs.Notes.{Noted, with_note}
use Rattle.rss_base.specs.Paged.{Mapped, Held, Fixed, IsUnfixed, Backing, AreAmong, LeavesFixed, page_key, with_mapped, with_page, mapped_pages}
use Rattle.rss_base.specs.declared.place.Place.{Place}
use Rattle.rss_base.specs.declared.fault.PageFault.{PageFault}
use Rattle.rss_base.specs.declared.fault.PageFault.TheVariants.{Device as DeviceFailed, Damaged, NoMemory}
use Rattle.rss_base.specs.declared.key.PageKey.{PageKey}
use Rattle.rss_base.specs.declared.key.Space.{Space}

-- disk: what the device under the pages tells.
-- slots: how many slots it has for them.
-- mapped, held: which pages there are, and what each of them holds where the device tells its contents.
-- notes: what was noted on them.
-- changed: which of them were changed since all of them were saved.
-- in_memory: which of them can be lent.
-- spare: how many more can be taken.
-- asks, writes, faults: how many reads of a page there were, and on the device how many pages were written, and how many faults.
-- outs: how many pages were driven out of memory.
-- fixed, settled: what is fixed of the device's pages, and that none of this is on its way to the disk.
-- backing: what the pages stand on.
pub record PagesView : Type 1 where
  pub disk : Disk
  pub slots : ℕ
  pub mapped : Mapped
  pub held : Held
  pub notes : Noted
  pub changed : Mapped
  pub in_memory : Mapped
  pub spare : ℕ
  pub asks : ℕ
  pub writes : ℕ
  pub faults : ℕ
  pub outs : ℕ
  pub fixed : Fixed
  pub settled : Bool
  pub backing : Backing

-- Each slot is spare, or one page's: of those that are mapped and of those that were saved, each has a slot of its own.
abbrev pub AreCounted : PagesView → Type 0
AreCounted view = view.spare + mapped_pages view.slots view.mapped + page_count view.backing.shadow ≡ view.slots

-- no page was changed since all of them were saved
abbrev pub NoneChanged : PagesView → Type 0
NoneChanged view = (key : PageKey) → view.changed key ≡ false

-- the device under the pages
abbrev pub device_below : PagesView → DeviceView
device_below view = record { disk = view.disk; size = view.fixed.size; writes = view.writes; faults = view.faults }

-- The same, of which a page is free if nothing is fixed of it.
abbrev pub driven : PagesView → DrivenView
driven view = record { disk = view.disk; free = IsUnfixed view.fixed; writes = view.writes; outs = view.outs }

-- each page that is mapped is in memory, and there is room for one more
pub record AreInMemory (view : PagesView) : Type 0 where
  pub each : AreAmong view.mapped view.in_memory
  pub room : mapped_pages view.slots view.mapped < view.backing.frames

-- the device is as it was, and the same pages are in memory
pub record StaysIdle (old new : PagesView) : Type 0 where
  pub device : SameDevice (device_below old) (device_below new)
  pub in_memory : new.in_memory ≡ old.in_memory

-- ---- sets of pages

abbrev pub Keys : Type 1
Keys = PageKey → Type 0

abbrev pub no_page : Keys
no_page key = ⊥

abbrev pub only : PageKey → Keys
only one key = key ≡ one

-- this page, where the call succeeded
abbrev pub only_on_ok : {T E : Type 0} → PageKey → Result T E → Keys
only_on_ok key (Ok value) = only key
only_on_ok key (Err e) = no_page

-- the page of the number that was answered
abbrev pub taken : {E : Type 0} → ℕ → Space → Result ℕ E → Keys
taken segment space (Ok number) = only (page_key segment space number)
taken segment space (Err e) = no_page

-- the pages of a segment and a space
abbrev pub pages_in : ℕ → Space → Keys
pages_in segment space key = key ≡ page_key segment space key.number

-- ---- what is done to one page

-- the page holds these bytes now, and has no note
pub record WritesPage (key : PageKey) (bytes : List ℕ) (old new : PagesView) : Type 0 where
  pub mapped : new.mapped ≡ old.mapped
  pub held : IsTold old.disk → new.held ≡ with_page old.held key (Some bytes)
  pub notes : new.notes ≡ with_note old.notes key None

-- a page with some bytes of another one from a place on
abbrev pub with_bytes : List ℕ → ℕ → List ℕ → List ℕ
with_bytes page at bytes = take at page ++ (bytes ++ drop (at + length bytes) page)

-- The page has so many bytes of another one now, from a place on, and no note.
pub record CopiesBytes (from : PageKey) (from_at : ℕ) (to : PageKey) (to_at count : ℕ) (old new : PagesView) : Type 0 where
  pub mapped : new.mapped ≡ old.mapped
  pub held : IsTold old.disk → (source page : List ℕ) → old.held from ≡ Some source → old.held to ≡ Some page
      → new.held ≡ with_page old.held to (Some (with_bytes page to_at (slice_range source from_at (from_at + count))))
  pub notes : new.notes ≡ with_note old.notes to None

-- the page is mapped now, holds zeros, and has no note
pub record TakesPage (key : PageKey) (old new : PagesView) : Type 0 where
  pub mapped : new.mapped ≡ with_mapped old.mapped key true
  pub held : IsTold old.disk → new.held ≡ with_page old.held key (Some zero_page)
  pub notes : new.notes ≡ with_note old.notes key None

-- the page is mapped no longer, and has no note
pub record GivesPage (key : PageKey) (old new : PagesView) : Type 0 where
  pub mapped : new.mapped ≡ with_mapped old.mapped key false
  pub held : IsTold old.disk → new.held ≡ with_page old.held key None
  pub notes : new.notes ≡ with_note old.notes key None

-- this number is noted on the page
pub record NotesPage (key : PageKey) (number : ℕ) (old new : PagesView) : Type 0 where
  pub mapped : new.mapped ≡ old.mapped
  pub held : new.held ≡ old.held
  pub changed : new.changed ≡ old.changed
  pub notes : new.notes ≡ with_note old.notes key (Some number)

-- ---- what each call passes on

-- Whatever was done: so many pages were asked for at most, and so many were driven out of memory at
-- most, each of which may take a run of pages along to the device.
pub record PassesOn (asks outs : ℕ) (old new : PagesView) : Type 0 where
  pub slots : new.slots ≡ old.slots
  pub backing : new.backing ≡ old.backing
  pub leaves : LeavesFixed (old.settled ≡ true) (new.settled ≡ true) old.disk new.disk old.fixed new.fixed
  pub later : old.faults ≤ new.faults
  pub asks_low : old.asks ≤ new.asks
  pub asks_high : new.asks ≤ old.asks + asks
  pub writes_low : old.writes ≤ new.writes
  pub writes_high : new.writes ≤ old.writes + run_pages * outs
  pub outs_high : new.outs ≤ old.outs + outs
  pub drives : DrivesOut (driven old) (driven new)

-- And no pages were touched but these. Where none was, nor changed before, the device was only read;
-- and where none was and all were in memory, the device was asked for nothing, and none left memory.
pub record PagesStep (touched : Keys) (asks outs : ℕ) (old new : PagesView) : Type 0 where
  pub passes : PassesOn asks outs old new
  pub unwritten : ((key : PageKey) → touched key → ⊥) → NoneChanged old
      → OnlyReads (device_below old) (device_below new)
  pub idle : ((key : PageKey) → touched key → ⊥) → AreInMemory old → StaysIdle old new
  pub changed_off : (key : PageKey) → new.changed key ≡ true → (old.changed key ≡ true) ⊎ touched key
  pub mapped_off : (key : PageKey) → (touched key → ⊥) → new.mapped key ≡ old.mapped key
  pub held_off : IsTold old.disk → (key : PageKey) → (touched key → ⊥) → new.held key ≡ old.held key
  pub notes_off : (key : PageKey) → (touched key → ⊥) → new.notes key ≡ old.notes key

-- The same of a call, by its result: a device's fault has come, nothing is found damaged on a device that tells its contents, and memory never runs out.
pub record PagesCall {T : Type 0} (touched : Keys) (asks outs : ℕ) (old new : PagesView) (result : Result T PageFault) : Type 0 where
  pub step : PagesStep touched asks outs old new
  pub failed : IsErrOf result DeviceFailed → Rises old.faults new.faults
  pub sound : (place : Place) → result ≡ Err (Damaged place) → IsTold old.disk → ⊥
  pub memory : IsErrOf result NoMemory → ⊥
