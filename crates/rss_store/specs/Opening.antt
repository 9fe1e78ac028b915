-- What an opening finds on a device, and the store to which it leads.
use Rattle.std.specs.Prelude.{◌≡◌, ◌⊎◌, ℕ, ◌+◌, ◌*◌, ◌-◌, ◌<◌, ◌≤◌, min, List, [], Option, Some, None, Result, Err, IsErrOf, OnOk}
use Rattle.rss_base.specs.declared.fault.OpenFault.{OpenFault}
use Rattle.rss_base.specs.declared.fault.OpenFault.TheVariants.{Device as DeviceFailed, NotAStore, Damaged}
use Rattle.rss_base.specs.declared.fault.PageFault.{PageFault}
use Rattle.rss_base.specs.declared.fault.PageFault.TheVariants.{Device as PageDevice, Damaged as PageDamaged}
use Rattle.rss_base.specs.declared.log_record.LogRecord.TheVariants as records
use Rattle.rss_base.specs.declared.root.Root.{Root}
use Rattle.rss_base.specs.declared.key.PageKey.{PageKey}
use Rattle.rss_base.specs.declared.key.Space.TheVariants.{Image}
use Rattle.rss_base.specs.declared.place.Place.{Place}
use Rattle.rss_base.specs.declared.place.Place.TheVariants.{Log as LogPlace}
use Rattle.rss_base.specs.DiskRule.{Disk, Pages, Told, IsTold, Leaves, SameOff, Passes, Continues}
use Rattle.rss_base.specs.Devices.{DeviceView, OnlyReads}
use Rattle.rss_base.specs.Faults.{Rises}
use Rattle.rss_base.specs.Layout.{slots_at, HasRoot}
use Rattle.rss_base.specs.LogRecords.{record_size, BeginsWith}
use Rattle.rss_base.specs.PageMap.{owner_of, page_count}
use Rattle.rss_base.specs.Listings.{Listing}
use Rattle.rss_base.specs.StoredPages.{held_at}
use Rattle.rss_base.specs.Paged.{HasFixed, mapped_of}
use Rattle.rss_base.specs.Sizes.{system_pages}
use Rattle.rss_base.specs.Steps.{PagesView, device_below}
use Rattle.rss_log.specs.Logs.{LogView, bytes_from}
use Rattle.rss_model.specs.Tables.{Tables}
use Rattle.rss_model.specs.Machine.{StoreSize, State, IsAtRest}
use Rattle.rss_model.specs.Kept.{IsMetered, HasLogRoom}
use Rattle.rss_stored.specs.LogLaws.{IsRested}
use Rattle.rss_model.specs.Spares.{listed_bound, live_of}
use Rattle.rss_stored.specs.Store.{Stored, IsStore, OpensIn, IsOverfull, size_of}
use Rattle.rss_access.specs.Changes.{both}
use Rattle.rss_access.specs.Written.{heap_now, AreWritten}
use Rattle.rss_restart.specs.Opened.{IsOpened}
use Rattle.rss_restart.specs.Surveys.{IsLogPlace}
use Rattle.rss_check.specs.Faults.{ArePassed}
use Rattle.rss_check.specs.Layouts.{HasLayout, position_most}
use Rattle.rss_check.specs.Lines.{Links}
use Rattle.rss_check.specs.Looks.{HoldsTables as PagesHoldTables}
use Rattle.rss_check.specs.Refused.{IsFoundAt, IsUnopened}
use Rattle.rss_store.specs.Stores.{StoreView, IsReady, IsSaved}
use Rattle.rss_store.specs.Shown.{HoldsTables, Shows}

-- ---- the pages

-- The pages that the selected root's map names spell tables, which fit.
pub record HasTables (pages : Pages) : Type 0 where
  pub number : ℕ
  pub root : Root
  pub owners : List (Option PageKey)
  pub listing : Listing
  pub there : HasLayout pages root number owners
  pub spelled : PagesHoldTables (held_at (slots_at root.slots root.log_pages) pages owners)
      root.slots listing

-- ---- a log at rest

-- The log ends with the Checkpoint record at this position, and that names no transaction.
pub record RestsAt (log : LogView) (position : ℕ) : Type 0 where
  pub begins : BeginsWith (bytes_from log position) (records.Checkpoint []) (bytes_from log log.end)
  pub last : log.end ≡ position + record_size (records.Checkpoint [])

-- no Checkpoint record begins at this position
abbrev pub NamesNone : LogView → ℕ → Type 0
NamesNone log position =
    (marks : List (ℕ × ℕ)) (rest : List ℕ)
    → BeginsWith (bytes_from log position) (records.Checkpoint marks) rest → ⊥

-- ---- a store in memory, as it was read

-- The pages on the device are this store, and the one in memory is as it was read from them. Whatever is done with its pages, a stop leaves this store.
pub record IsReadFrom (stored : Stored) (view : StoreView) : Type 0 where
  pub pages : Pages
  pub store : IsStore pages stored
  pub told : view.pages.disk.contents ≡ Some pages
  pub number_is : stored.number ≡ view.number
  pub root_is : stored.root ≡ view.root
  pub opened : IsOpened pages stored (both view.pages view.catalog) view.log
  pub written : AreWritten view.pages.held view.catalog
  pub fixes : (image : Pages) → HasFixed view.pages.fixed image → IsStore image stored

-- ---- where it begins

-- the pages are a store with these tables, and are opened in this state
pub record OpensAt (image : Pages) (size : StoreSize) (tables : Tables) (state : State) : Type 0 where
  pub holds : HoldsTables size tables image
  pub begins : OpensIn image size tables state

-- The store is in a state of the machine at rest, with the tables to which this one on the disk opens. The meter says of it what each step keeps, and the log has room for what is owed. What a stop leaves is opened in this state.
pub record BeginsIn (stored : Stored) (new : StoreView) : Type 0 where
  pub state : State
  pub shows : Shows new state
  pub rest : IsAtRest (size_of stored.root) stored.tables state
  pub metered : IsMetered state
  pub room : HasLogRoom state
  pub opens : (image : Pages) → Leaves new.pages.disk image
      → OpensAt image (size_of stored.root) stored.tables state

-- ---- a store that was read is brought to rest

-- There are as many slots as a store may need in which nothing is open, and its images have no more pages than they may.
pub record HasRoomAtRest (view : StoreView) : Type 0 where
  pub slots : 2 * (heap_now view.pages + listed_bound view.catalog.listing (live_of view.catalog.listing) + system_pages)
      ≤ view.pages.slots
  pub images : mapped_of view.pages.mapped Image view.pages.slots
      ≤ listed_bound view.catalog.listing (live_of view.catalog.listing)

-- At this position of the log something is found damaged: it was read from no store. Only what isn't fixed may have been written.
pub record FindsDamage (old new : StoreView) (place : Place) : Type 0 where
  pub at : IsLogPlace old.log place
  pub why : (stored : Stored) → IsReadFrom stored old → ⊥
  pub keeps : Passes old.pages.disk new.pages.disk (HasFixed old.pages.fixed)

-- By the result: it is ready, all of it is on the disk, there is room, and it is where the store begins from which it was read. Its log has one Checkpoint record more at most. At each moment a stop leaves a store of the same tables. Each fault has its cause.
pub record Begins {T : Type 0} (old new : StoreView) (result : Result T PageFault) : Type 0 where
  pub ready : OnOk result (IsReady new)
  pub saved : OnOk result (IsSaved new)
  pub room : OnOk result (HasRoomAtRest new)
  pub appends : OnOk result (new.log.end ≤ old.log.end + record_size (records.Checkpoint []))
  pub begins : OnOk result ((stored : Stored) → IsReadFrom stored old → BeginsIn stored new)
  pub moments : (stored : Stored) → IsReadFrom stored old
      → Passes old.pages.disk new.pages.disk (HoldsTables (size_of stored.root) stored.tables)
  pub told : IsTold old.pages.disk → IsTold new.pages.disk
  pub history : IsTold old.pages.disk → Continues old.pages.disk new.pages.disk
  pub later : old.pages.faults ≤ new.pages.faults
  pub failed : IsErrOf result PageDevice → Rises old.pages.faults new.pages.faults
  pub damaged : (place : Place) → result ≡ Err (PageDamaged place) → IsTold old.pages.disk
      → FindsDamage old new place
  pub slots : new.pages.slots ≡ old.pages.slots
  pub frames : new.pages.backing.frames ≡ old.pages.backing.frames

-- ---- pages that don't open

-- The positions of the log are used up.
pub record IsSpent (pages : Pages) : Type 0 where
  pub number : ℕ
  pub root : Root
  pub root_there : HasRoot pages number root
  pub end : position_most ≤ root.end

-- ---- what an opening passes on

-- What a stop within an opening of a store may leave: what it could leave before, or a store with the same tables.
abbrev pub MayLeave : Disk → Stored → Pages → Type 0
MayLeave before stored image =
    Leaves before image ⊎ HoldsTables (size_of stored.root) stored.tables image

-- However it ends, the device tells its contents as before, and no fault is forgotten. A store at rest is only read.
pub record PassesOpening (old new : DeviceView) : Type 0 where
  pub told : IsTold old.disk → IsTold new.disk
  pub history : IsTold old.disk → Continues old.disk new.disk
  pub moments : Told old.disk (λ pages. (stored : Stored) → IsStore pages stored
      → Passes old.disk new.disk (MayLeave old.disk stored))
  pub rested : Told old.disk (λ pages. (stored : Stored) → IsStore pages stored → IsRested stored
      → OnlyReads old new)
  pub later : old.faults ≤ new.faults

-- a data slot that the map of a root leaves free
pub record IsFreeSlot (root : Root) (owners : List (Option PageKey)) (q : ℕ) : Type 0 where
  pub behind : slots_at root.slots root.log_pages ≤ q
  pub free : owner_of owners (q - slots_at root.slots root.log_pages) ≡ None

-- The image has all that the selected root of these pages names: it differs from them in free slots alone.
pub record HasNamed (pages image : Pages) : Type 0 where
  pub number : ℕ
  pub root : Root
  pub owners : List (Option PageKey)
  pub there : HasLayout pages root number owners
  pub same : SameOff (IsFreeSlot root owners) pages image

-- It is handed back. If it is named as no store, it was only read. So was one whose pages are no store by the lines up to the links, whose map has too many pages, whose log's positions are used up, or whose pages spell no tables, whatever came of it. One that is damaged at a place of its log may have been written in free slots.
pub record IsHandedBack (old back : DeviceView) (fault : OpenFault) : Type 0 where
  pub refused : IsUnopened old fault
  pub cause : fault ≡ DeviceFailed → Rises old.faults back.faults
  pub passes : PassesOpening old back
  pub reads : (place : Place) → fault ≡ NotAStore place → OnlyReads old back
  pub broken : (place : Place) → Told old.disk (λ pages. IsFoundAt pages place
      → OnlyReads old back)
  pub overfull : Told old.disk (λ pages. IsOverfull pages → OnlyReads old back)
  pub spent : Told old.disk (λ pages. IsSpent pages → OnlyReads old back)
  pub tables : Told old.disk (λ pages. (HasTables pages → ⊥) → OnlyReads old back)
  pub keeps : (position : ℕ) → fault ≡ Damaged (LogPlace position) → Told old.disk (λ pages.
      Passes old.disk back.disk (λ image. Leaves old.disk image ⊎ HasNamed pages image))

-- ---- a store that was read, and one that was opened

-- The store in memory is as it was read from a device, which was only read. The lines up to the links are broken nowhere.
pub record ReadsFrom (old : DeviceView) (new : StoreView) : Type 0 where
  pub ready : IsReady new
  pub saved : IsSaved new
  pub reads : OnlyReads old (device_below new.pages)
  pub half : 2 * page_count new.pages.backing.shadow ≤ new.root.slots
  pub early : new.root.end < position_most
  pub layout : Told old.disk (λ pages.
      HasLayout pages new.root new.number new.pages.backing.shadow)
  pub named : Told old.disk (λ pages. (image : Pages) → HasFixed new.pages.fixed image
      → HasNamed pages image)
  pub passed : Told old.disk (λ pages. ArePassed pages Links)
  pub tables : Told old.disk HasTables
  pub read : Told old.disk (λ pages. (stored : Stored) → IsStore pages stored
      → IsReadFrom stored new)

-- The store is open. The device's pages are at no place found to be no store, and spell tables; and where they are a store, that is where it begins.
pub record OpensStore (old : DeviceView) (new : StoreView) : Type 0 where
  pub ready : IsReady new
  pub saved : IsSaved new
  pub room : HasRoomAtRest new
  pub early : new.log.end < position_most + record_size (records.Checkpoint [])
  pub begins : Told old.disk (λ pages. (stored : Stored) → IsStore pages stored
      → BeginsIn stored new)
  pub passes : PassesOpening old (device_below new.pages)
  pub unbroken : (place : Place) → Told old.disk (λ pages. IsFoundAt pages place → ⊥)
  pub not_overfull : Told old.disk (λ pages. IsOverfull pages → ⊥)
  pub not_spent : Told old.disk (λ pages. IsSpent pages → ⊥)
  pub tables : Told old.disk HasTables

-- So many of the pages may be in memory at once, or as many as there are slots where these are fewer.
abbrev pub HasFrames : ℕ → PagesView → Type 0
HasFrames frames pages = pages.backing.frames ≡ min pages.slots frames
