-- The states of the machine in which a durable store may be, and what a stop leaves of it.
use Rattle.std.specs.Prelude.{◌≡◌, ℕ, List, ◌++◌, length}
use Rattle.rss_base.specs.DiskRule.{Pages}
use Rattle.rss_base.specs.Paged.{HasFixed, mapped_of}
use Rattle.rss_base.specs.LogRecords.{ArePlaced}
use Rattle.rss_base.specs.declared.key.Space.TheVariants.{Overflow}
use Rattle.rss_log.specs.Logs.{HasRecords}
use Rattle.rss_model.specs.Tables.{Tables}
use Rattle.rss_model.specs.Changes.{Change, maker, kept_to, cut_off}
use Rattle.rss_model.specs.Machine.{StoreSize, State, with_changes, now}
use Rattle.rss_model.specs.Steps.{MayUndo}
use Rattle.rss_model.specs.Spares.{change_counts, page_counts, IsInSession}
use Rattle.rss_model.specs.Meanings.{as_bytes, SameDefinitions}
use Rattle.rss_model.specs.EngineLogs.{EngineLog, all_logged}
use Rattle.rss_stored.specs.LogLaws.{IsStoredOf}
use Rattle.rss_stored.specs.Store.{Stored, SpellsTables, meter_of, IsStore, OpensTo}
use Rattle.rss_access.specs.Written.{AreWritten}
use Rattle.rss_store.specs.Stores.{StoreView}

-- ---- what a stop leaves

-- the pages open to these tables
abbrev pub HoldsTables : StoreSize → Tables → Pages → Type 0
HoldsTables size tables image = OpensTo image size tables

-- whatever is done with the pages, a stop leaves this store, which the selected root names
pub record LeavesStore (view : StoreView) (stored : Stored) : Type 0 where
  pub number_is : stored.number ≡ view.number
  pub root_is : stored.root ≡ view.root
  pub owners_are : stored.owners ≡ view.pages.backing.shadow
  pub fixes : (image : Pages) → HasFixed view.pages.fixed image → IsStore image stored

-- ---- the log in memory

-- it has these records, those on the disk up to the selected root's end
pub record HoldsLogged (view : StoreView) (log : EngineLog) : Type 0 where
  pub head_is : view.log.head ≡ log.head
  pub end_is : view.log.end ≡ log.end
  pub records : HasRecords view.log (as_bytes (all_logged log))
  pub until : ArePlaced log.head (as_bytes (log.older ++ log.written)) view.root.end

-- ---- between two calls

-- The store is in this state of the machine, but that only these of its changes are in the tables of its pages, with so many overflow pages. A stop leaves the committed tables.
pub record ShowsWith (view : StoreView) (state : State) (there : List Change) (over : ℕ) : Type 0 where
  pub log : EngineLog
  pub stored : Stored
  pub disk : LeavesStore view stored
  pub tied : IsStoredOf stored log state
  pub logged : HoldsLogged view log
  pub definitions : SameDefinitions stored.listing view.catalog.listing
  pub spells : SpellsTables view.pages.held view.catalog.listing (with_changes state.base there)
  pub written : AreWritten view.pages.held view.catalog
  pub heap : state.meter.heap ≡ (meter_of stored).heap
  pub session : IsInSession (change_counts state.base.definitions state.meter) (length there) (page_counts view.pages)
  pub over_is : over ≡ mapped_of view.pages.mapped Overflow view.pages.slots

-- it is in this state
abbrev pub Shows : StoreView → State → Type 0
Shows view state = ShowsWith view state state.changes state.meter.over

-- On a way back of a transaction: of its changes only the oldest so many are still in the tables.
pub record ShowsBack (view : StoreView) (state : State) (t n : ℕ) : Type 0 where
  pub over : ℕ
  pub shows : ShowsWith view state (kept_to maker t n state.changes) over
  pub way : MayUndo (now state) (cut_off maker t n state.changes) state.meter.over over
