-- The calls by which the disk is brought up to date: what they ask for, and what they leave.
use Rattle.std.specs.Prelude.{◌≡◌, ◌↔◌, ℕ, ◌+◌, ◌-◌, ◌*◌, ◌/◌, ◌<◌, ◌≤◌, ◌||◌, List, [], ◌∷◌, ◌++◌, fold, min, count_by, Result, Err, IsErrOf}
use Rattle.rss_base.specs.DiskRule.{Pages, IsTold, Leaves, Continues}
use Rattle.rss_base.specs.Faults.{Rises}
use Rattle.rss_base.specs.Sizes.{piece_bytes, largest_checkpoint, position_limit}
use Rattle.rss_base.specs.Layout.{map_pages}
use Rattle.rss_base.specs.PageMap.{page_count}
use Rattle.rss_base.specs.Paged.{Mapped, mapped_of, mapped_pages}
use Rattle.rss_base.specs.LogRecords.{ArePlaced, IsSpellable, record_size}
use Rattle.rss_base.specs.LogPages.{IsNewPiece}
use Rattle.rss_base.specs.Runs.{run_pages}
use Rattle.rss_base.specs.Steps.{PagesView, NoneChanged}
use Rattle.rss_base.specs.declared.fault.PageFault.{PageFault}
use Rattle.rss_base.specs.declared.fault.PageFault.TheVariants.{Device as DeviceFailed, Damaged, NoMemory}
use Rattle.rss_base.specs.declared.key.Space.TheVariants.{Overflow}
use Rattle.rss_base.specs.declared.log_record.LogRecord.TheVariants as records
use Rattle.rss_base.specs.declared.place.Place.{Place}
use Rattle.rss_base.specs.declared.root.Root.{Root}
use Rattle.rss_log.specs.Logs.{LogView, free_of}
use Rattle.rss_model.specs.Fits.{Fits}
use Rattle.rss_model.specs.Machine.{State, now}
use Rattle.rss_model.specs.Meter.{free_between}
use Rattle.rss_model.specs.Kept.{FitMixed, IsMetered}
use Rattle.rss_model.specs.Records.{changes_in}
use Rattle.rss_model.specs.Meanings.{Logged, as_bytes}
use Rattle.rss_model.specs.EngineLogs.{EngineLog, all_logged, saved_log, TiesState}
use Rattle.rss_stored.specs.LogLaws.{committed_now}
use Rattle.rss_stored.specs.Store.{Stored, SpellsTables, listed_at, size_of, IsStore}
use Rattle.rss_access.specs.Written.{AreWritten, heap_now, is_pending}
use Rattle.rss_catalog.specs.Catalogs.{CatalogView}
use Rattle.rss_store.specs.Stores.{StoreView}
use Rattle.rss_store.specs.Shown.{LeavesStore, HoldsLogged, HoldsTables, Shows}

-- ---- room in the log

-- A record of this size fits, and then the largest Checkpoint record from this head on. Positions stay numbers.
pub record HasLogRoom (log : LogView) (size head : ℕ) : Type 0 where
  pub before : size ≤ free_of log
  pub behind : largest_checkpoint ≤ free_between log.pages head (log.end + size)
  pub limit : log.end + size < position_limit

-- ---- an end

-- the pages that an end of a transaction writes: the selector, the root that isn't selected, and those of pieces that become full
pub data IsEndPlace (number : ℕ) (root : Root) (end : ℕ) (q : ℕ) : Type 0 where
  selector : q ≡ 0 → IsEndPlace number root end q
  root : q ≡ 3 - number → IsEndPlace number root end q
  piece : IsNewPiece root end q → IsEndPlace number root end q

-- the same pages are there and were saved
pub record SamePages (old new : PagesView) : Type 0 where
  pub mapped : new.mapped ≡ old.mapped
  pub shadow : new.backing.shadow ≡ old.backing.shadow
  pub slots : new.slots ≡ old.slots

-- How many pieces become full where the log grows up to this end.
abbrev pub new_pieces : Root → ℕ → ℕ
new_pieces before end = end / piece_bytes - before.end / piece_bytes

-- the state to come keeps what a stop needs
pub record MayCommit (t : ℕ) (state : State) : Type 0 where
  pub fit : FitMixed (committed_now t state)
  pub metered : IsMetered (committed_now t state)

-- ---- a checkpoint

-- the least of the marks' positions, or this one where there is none less
abbrev pub least_mark : ℕ → List (ℕ × ℕ) → ℕ
least_mark end marks = fold (λ least mark. min least mark.1) end marks

-- What is to be so behind a checkpoint: the state is tied to the log that has its record, over the tables now, which the pages spell. A stop leaves a store before.
pub record CanCheckpoint (view : StoreView) (marks : List (ℕ × ℕ)) (stored : Stored) (next : State) : Type 0 where
  pub log : EngineLog
  pub disk : LeavesStore view stored
  pub logged : HoldsLogged view log
  pub on_disk : stored.older ++ stored.newer ≡ log.older ++ log.written
  pub dropped : List Logged
  pub kept : List Logged
  pub split : all_logged log ≡ dropped ++ kept
  pub gone : ArePlaced log.head (as_bytes dropped) (least_mark log.end marks)
  pub stay : ArePlaced (least_mark log.end marks) (as_bytes kept) log.end
  pub spellable : IsSpellable (records.Checkpoint marks)
  pub size : next.size ≡ size_of view.root
  pub ties : TiesState view.catalog.listing (now next)
      (saved_log log (least_mark log.end marks) kept marks) next
  pub spells : SpellsTables view.pages.held view.catalog.listing (now next)
  pub written : AreWritten view.pages.held view.catalog
  pub fit : Fits view.root.slots (now next)
  pub metered : IsMetered next
  pub heap : next.meter.heap ≡ heap_now view.pages
  pub over : next.meter.over ≡ mapped_of view.pages.mapped Overflow view.pages.slots

-- which pages were changed, with those of the catalog that are to be written
abbrev pub changed_with : PagesView → CatalogView → Mapped
changed_with pages catalog key = pages.changed key || is_pending catalog key

-- How many pages it writes at most beside the changed ones, where its record has this size. Each page of the catalog that is written may drive out another one, with a run of pages beside it; then come the map, the log's pieces, a root and the selector.
abbrev pub other_writes : StoreView → ℕ → ℕ
other_writes view size =
    run_pages * count_by (λ b. b) view.catalog.pending + map_pages view.pages.slots
    + new_pieces view.root (view.log.end + size) + 2

-- The log is kept from the least of the marks' positions on, and ends with its record, which the selected root names. Each page has one slot then, and is saved.
pub record Saves (marks : List (ℕ × ℕ)) (old new : StoreView) : Type 0 where
  pub pages : new.log.pages ≡ old.log.pages
  pub head : new.log.head ≡ least_mark old.log.end marks
  pub end : new.log.end ≡ old.log.end + record_size (records.Checkpoint marks)
  pub mapped : new.pages.mapped ≡ old.pages.mapped
  pub shadow : page_count new.pages.backing.shadow ≡ mapped_pages new.pages.slots new.pages.mapped
  pub checkpoint : new.root.checkpoint ≡ old.log.end
  pub unchanged : NoneChanged new.pages

-- The store is in this state, and stands at a checkpoint: what a stop leaves then has the tables now in the pages of its map, it lists the changes of open transactions, and nothing stands behind its record.
pub record StandsAtCheckpoint (view : StoreView) (state : State) : Type 0 where
  pub shows : Shows view state
  pub leaves : (image : Pages) → Leaves view.pages.disk image → IsStore image shows.stored
  pub tables : shows.stored.saved ≡ now state
  pub lists : changes_in (listed_at shows.stored) ≡ state.changes
  pub last : Logged
  pub newer : shows.stored.newer ≡ last ∷ []

-- a store as it is left behind it, whose tables are the committed ones of this state
abbrev pub IsSavedStore : StoreView → State → Pages → Type 0
IsSavedStore view next image = HoldsTables (size_of view.root) next.base image

-- ---- what a call passes on

-- Whatever came out: no page is asked for, the device tells its contents and its history as before, each fault has its cause, and memory never runs out.
pub record CommitsPages {T : Type 0} (old new : PagesView) (result : Result T PageFault) : Type 0 where
  pub asks : new.asks ≡ old.asks
  pub slots : new.slots ≡ old.slots
  pub frames : new.backing.frames ≡ old.backing.frames
  pub told : IsTold old.disk ↔ IsTold new.disk
  pub history : IsTold old.disk → Continues old.disk new.disk
  pub later : old.faults ≤ new.faults
  pub failed : IsErrOf result DeviceFailed → Rises old.faults new.faults
  pub sound : (place : Place) → result ≡ Err (Damaged place) → IsTold old.disk → ⊥
  pub memory : IsErrOf result NoMemory → ⊥
