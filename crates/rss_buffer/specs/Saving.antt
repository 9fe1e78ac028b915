-- What there is to see of pages that can be saved, and what a call passes on by which they are.
use Rattle.std.specs.Prelude.{◌≡◌, ◌↔◌, ℕ, ◌≤◌, true, false, List, length, Option, None, Result, IsErr, IfErr, option_map, is_none, unwrap_or}
use Rattle.rss_base.specs.DiskRule.{Disk, Pages, IsTold, Leaves, Passes}
use Rattle.rss_base.specs.Faults.{Rises}
use Rattle.rss_base.specs.Layout.{slots_at, IsWellFormed}
use Rattle.rss_base.specs.PageMap.{owner_of, IsTable}
use Rattle.rss_base.specs.Paged.{Mapped, AreAmong}
use Rattle.rss_base.specs.Steps.{PagesView}
use Rattle.rss_base.specs.StoredPages.{slot_of, mapped_by, HoldsPages}
use Rattle.rss_base.specs.declared.root.Root.{Root}
use Rattle.rss_base.specs.declared.fault.PageFault.{PageFault}
use Rattle.rss_base.specs.declared.fault.PageFault.TheVariants.{Device as DeviceFailed}
use Rattle.rss_base.specs.declared.key.PageKey.{PageKey}
use Rattle.rss_shadow.specs.Maps.{Maps}
use Rattle.rss_buffer.specs.Slots.{fixed_by}
use Rattle.rss_buffer.specs.declared.stage.Stage.{Stage}
use Rattle.rss_buffer.specs.declared.stage.Stage.TheVariants.{Changing, Saved}

-- current: the map as it is now.
-- stage: how far the saving of this map has come.
-- waiting: which pages wait to be written to their slots.
pub record SavingView : Type 0 where
  pub current : List (Option PageKey)
  pub stage : Stage
  pub waiting : Mapped

-- the map as it is now, and as it was last saved
abbrev pub maps_of : PagesView → SavingView → Maps
maps_of pages saving = record { current = saving.current; shadow = pages.backing.shadow }

-- where the data slots begin on the device
abbrev pub first_slot : PagesView → ℕ
first_slot pages = slots_at pages.slots pages.backing.log_pages

-- the page has a slot that the shadow map doesn't use
abbrev pub changed_by : Maps → Mapped
changed_by maps key = unwrap_or (option_map (λ slot. is_none (owner_of maps.shadow slot)) (slot_of maps.current key)) false

-- What holds of such pages between any two calls.
pub record AreSaveable (pages : PagesView) (saving : SavingView) : Type 0 where
  pub table : IsTable saving.current
  pub slots : pages.slots ≡ length saving.current
  pub mapped : pages.mapped ≡ mapped_by saving.current
  pub changed : pages.changed ≡ changed_by (maps_of pages saving)
  pub waiting : AreAmong saving.waiting pages.changed
  pub fixed : pages.fixed ≡ fixed_by (first_slot pages) pages.backing.shadow pages.disk.contents

-- What each call passes on: no page, no note, no slot and no log page changes, there may be as many
-- pages in memory as before, no page is asked for, and none waits more.
pub record SavingStep (old new : PagesView) (before after : SavingView) : Type 0 where
  pub current : after.current ≡ before.current
  pub waiting : AreAmong after.waiting before.waiting
  pub held : IsTold old.disk → new.held ≡ old.held
  pub notes : new.notes ≡ old.notes
  pub log_pages : new.backing.log_pages ≡ old.backing.log_pages
  pub frames : new.backing.frames ≡ old.backing.frames
  pub asks : new.asks ≡ old.asks
  pub told : IsTold old.disk ↔ IsTold new.disk
  pub later : old.faults ≤ new.faults

-- The same of a call, by its result: it fails by the device alone.
pub record SavingCall {T : Type 0} (old new : PagesView) (before after : SavingView) (result : Result T PageFault) : Type 0 where
  pub step : SavingStep old new before after
  pub fault : IfErr result (λ fault. fault ≡ DeviceFailed)
  pub cause : IsErr result → Rises old.faults new.faults

-- the current map is saved to the area that this root names, which is one of such pages
pub record IsRootOf (pages : PagesView) (saving : SavingView) (root : Root) : Type 0 where
  pub saved : saving.stage ≡ Saved root.area
  pub formed : IsWellFormed root
  pub slots : root.slots ≡ pages.slots
  pub log_pages : root.log_pages ≡ pages.backing.log_pages

-- each image holds the current map with its pages, under this root
abbrev pub LeavesSaved : Disk → ℕ → Root → PagesView → SavingView → Type 0
LeavesSaved disk number root pages saving = (image : Pages) → Leaves disk image → HoldsPages image number root saving.current pages.held

-- This map is the shadow map now, and what it holds is fixed. The device was not called.
pub record IsAdopted (map : List (Option PageKey)) (old new : PagesView) : Type 0 where
  pub shadow : new.backing.shadow ≡ map
  pub area : new.backing.area ≡ old.backing.area
  pub settled : new.settled ≡ true
  pub contents : new.disk.contents ≡ old.disk.contents
  pub moments : IsTold old.disk → Passes old.disk new.disk (Leaves old.disk)
  pub writes : new.writes ≡ old.writes
  pub faults : new.faults ≡ old.faults

-- The pages of this root and this map, so many of them in memory at most, as after they were read
-- from the device: nothing was changed, noted or asked for as yet.
pub record IsFresh (root : Root) (table : List (Option PageKey)) (frames writes : ℕ) (pages : PagesView) (saving : SavingView) : Type 0 where
  pub current : saving.current ≡ table
  pub backing : pages.backing ≡ record { log_pages = root.log_pages; area = root.area; shadow = table; frames = frames }
  pub stage : saving.stage ≡ Changing
  pub none_wait : (key : PageKey) → saving.waiting key ≡ false
  pub none_noted : (key : PageKey) → pages.notes key ≡ None
  pub settled : pages.settled ≡ true
  pub asks : pages.asks ≡ 0
  pub writes_are : pages.writes ≡ writes
