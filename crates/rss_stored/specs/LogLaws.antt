-- What the laws of an engine's log say: each kind of step keeps the tie, and from the tie follows what is on the disk.
use Rattle.std.specs.Prelude.{◌≡◌, ℕ, ◌+◌, ◌≤◌, List, [], ◌∷◌, ◌++◌, Contains}
use Rattle.rss_base.specs.DiskRule.{Pages}
use Rattle.rss_base.specs.declared.change.Change as told
use Rattle.rss_base.specs.declared.log_record.LogRecord.TheVariants as records
use Rattle.rss_base.specs.declared.root.Root.{Root}
use Rattle.rss_base.specs.LogRecords.{ArePlaced, Parses, IsSpellable}
use Rattle.rss_base.specs.LogPages.{log_bytes}
use Rattle.rss_base.specs.Listings.{Listing}
use Rattle.rss_model.specs.Tables.{Tables, content}
use Rattle.rss_model.specs.Fits.{Fits}
use Rattle.rss_model.specs.Changes.{Change, maker, own, others, theirs, kept_to, cut_off, undo, after}
use Rattle.rss_model.specs.Meter.{restore_size, end_size, counted, with_record, least_position, room_number}
use Rattle.rss_model.specs.Machine.{State, IsAtRest, with_changes, now}
use Rattle.rss_model.specs.Rules.{saved_now}
use Rattle.rss_model.specs.Steps.{stamp_by}
use Rattle.rss_model.specs.Kept.{FitMixed, IsMetered}
use Rattle.rss_model.specs.Records.{Changed, Restore, End, Abort, Checkpoint}
use Rattle.rss_model.specs.Restart.{OnlyBy}
use Rattle.rss_model.specs.Recovers.{NamesLists}
use Rattle.rss_model.specs.Meanings.{IsChangeTold, Means, Logged, as_bytes, SameDefinitions}
use Rattle.rss_model.specs.Ties.{StandsAt}
use Rattle.rss_model.specs.EngineLogs.{EngineLog, HaveFields, all_logged, lists_now, appended, written_out, saved_log, TiesState}
use Rattle.rss_stored.specs.Store.{Stored, listed_at, meter_of, size_of, HasLog, IsStore}

-- ---- one change more

-- a record tells this change
pub record IsToldBy (listing : Listing) (told_change : told.Change) (change : Change) : Type 0 where
  pub tells : IsChangeTold listing change.by told_change change
  pub means : Means listing told_change change
  pub spellable : IsSpellable (records.Change change.by told_change)

-- the state with one change more, from its meter on
abbrev pub noted : Change → ℕ → State → State
noted change over state = record state {
  changes = change ∷ state.changes;
  meter = counted state.base.definitions change over state.meter;
}

-- A change of what is there, of an item that no other transaction has changed.
abbrev pub ChangeTies : Type 0
ChangeTies = (listing : Listing) (saved : Tables) (log : EngineLog) (state : State)
    (told_change : told.Change) (change : Change) (over : ℕ)
    → TiesState listing saved log state → IsToldBy listing told_change change
    → change.old ≡ content (now state).contents change.item
    → OnlyBy change.by change.item state.changes → FitMixed (noted change over state)
    → TiesState listing saved (appended log (records.Change change.by told_change) (Changed change))
    (noted change over state)

-- ---- ways back

-- of a transaction's changes the oldest so many stay, and a Restore record says so
abbrev pub gone_back : ℕ → ℕ → ℕ → State → State
gone_back t n over state = record state {
  changes = kept_to maker t n state.changes;
  meter = with_record restore_size (kept_to stamp_by t n state.meter.stamps) over state.meter;
}

-- none of them stays, and an Abort record says so
abbrev pub all_back : ℕ → ℕ → State → State
all_back t over state = record state {
  changes = others t state.changes;
  meter = with_record end_size (theirs stamp_by t state.meter.stamps) over state.meter;
}

abbrev pub RestoreTies : Type 0
RestoreTies = (listing : Listing) (saved : Tables) (log : EngineLog) (state : State) (t n first over : ℕ)
    → TiesState listing saved log state → StandsAt t n first (lists_now log)
    → IsSpellable (records.Restore t first) → FitMixed (gone_back t n over state)
    → TiesState listing saved (appended log (records.Restore t first) (Restore t first))
    (gone_back t n over state)

abbrev pub AbortTies : Type 0
AbortTies = (listing : Listing) (saved : Tables) (log : EngineLog) (state : State) (t over : ℕ)
    → TiesState listing saved log state → IsSpellable (records.Abort t)
    → FitMixed (all_back t over state)
    → TiesState listing saved (appended log (records.Abort t) (Abort t)) (all_back t over state)

-- The log has the record of a transaction's change that has so many older ones. Where that is the newest that is there, its undoing finds the new content and leaves the tables without it; these and those before it fit. It is the last that goes where so many stay.
pub record TakesBack (listing : Listing) (log : EngineLog) (state : State) (t n first : ℕ) : Type 0 where
  pub told_change : told.Change
  pub change : Change
  pub by : change.by ≡ t
  pub told : IsToldBy listing told_change change
  pub there : Contains (all_logged log)
      (record { at = first; told = records.Change t told_change; is = Changed change })
  pub finds : content (after state.base.contents (kept_to maker t (n + 1) state.changes)) change.item
      ≡ change.new
  pub leaves : undo (after state.base.contents (kept_to maker t (n + 1) state.changes)) change
      ≡ after state.base.contents (kept_to maker t n state.changes)
  pub fits : Fits state.size.slots (with_changes state.base (kept_to maker t (n + 1) state.changes))
  pub fits_then : Fits state.size.slots (with_changes state.base (kept_to maker t n state.changes))
  pub last : cut_off maker t n state.changes ≡ cut_off maker t (n + 1) state.changes ++ change ∷ []

abbrev pub ChangesTurnBack : Type 0
ChangesTurnBack = (listing : Listing) (saved : Tables) (log : EngineLog) (state : State) (t n first : ℕ)
    → TiesState listing saved log state → StandsAt t n first (lists_now log)
    → TakesBack listing log state t n first

-- ---- an end

-- what a transaction changed is committed, and an End record says so
abbrev pub committed_now : ℕ → State → State
committed_now t state = record state {
  base = with_changes state.base (own t state.changes);
  changes = others t state.changes;
  meter = with_record end_size (theirs stamp_by t state.meter.stamps) state.meter.over state.meter;
}

-- all records are on the disk then
abbrev pub EndTies : Type 0
EndTies = (listing : Listing) (saved : Tables) (log : EngineLog) (state : State) (t : ℕ)
    → TiesState listing saved log state → IsSpellable (records.End t)
    → FitMixed (committed_now t state)
    → TiesState listing saved (written_out (appended log (records.End t) (End t)))
    (committed_now t state)

-- ---- a checkpoint

-- the position from which on the log is kept
abbrev pub head_behind : EngineLog → State → ℕ
head_behind log state = least_position log.end state.meter.stamps

-- The log behind a checkpoint, tied over the tables of now by their listing.
pub record SavesTie (listing : Listing) (log : EngineLog) (state : State) (named : List (ℕ × ℕ)) : Type 0 where
  pub dropped : List Logged
  pub kept : List Logged
  pub split : all_logged log ≡ dropped ++ kept
  pub gone : ArePlaced log.head (as_bytes dropped) (head_behind log state)
  pub stay : ArePlaced (head_behind log state) (as_bytes kept) log.end
  pub ties : TiesState listing (now state) (saved_log log (head_behind log state) kept named)
      (record state { meter = saved_now state })

-- Its record names the transactions that have changes. The definitions are as they were; what is listed may count other tuples.
abbrev pub CheckpointTies : Type 0
CheckpointTies = (listing other : Listing) (saved : Tables) (log : EngineLog) (state : State)
    (named : List (ℕ × ℕ))
    → TiesState listing saved log state → SameDefinitions listing other
    → NamesLists named (lists_now log) → IsSpellable (records.Checkpoint named)
    → SavesTie other log state named

-- ---- an opening

-- the log of an engine that has just read its store
abbrev pub log_of : Stored → EngineLog
log_of stored = record {
  head = stored.root.head;
  older = stored.older;
  written = stored.newer;
  pending = [];
  end = stored.root.end;
}

-- the log that begins with its one Checkpoint record
abbrev pub rested_log : ℕ → EngineLog
rested_log head = record {
  head = head;
  older = [];
  written = record { at = head; told = records.Checkpoint []; is = Checkpoint [] } ∷ [];
  pending = [];
  end = head + 2;
}

-- no list was open at the checkpoint, and nothing stands behind its record
pub record IsRested (stored : Stored) : Type 0 where
  pub record_only : Logged
  pub alone : stored.newer ≡ record_only ∷ []
  pub none_listed : listed_at stored ≡ []

-- Such a store is opened as it is.
abbrev pub RestTies : Type 0
RestTies = (pages : Pages) (stored : Stored) (state : State) → IsStore pages stored → IsRested stored
    → IsAtRest (size_of stored.root) stored.tables state
    → state.meter.head ≡ stored.root.head → state.meter.end ≡ stored.root.end
    → (stored.saved ≡ stored.tables) × TiesState stored.listing stored.saved (log_of stored) state

-- Another is brought to rest by a checkpoint behind its log.
abbrev pub RestartTies : Type 0
RestartTies = (listing : Listing) (tables : Tables) (state : State) (head : ℕ)
    → HaveFields listing tables.definitions
    → IsAtRest state.size tables state → Fits state.size.slots tables
    → state.meter.head ≡ head → state.meter.end ≡ head + 2
    → TiesState listing tables (rested_log head) state

-- ---- what is on the disk

-- these pages have the log of a root, with these records up to its last checkpoint and from it on
pub record HoldsLog (pages : Pages) (root : Root) (older newer : List Logged) : Type 0 where
  pub parses : Parses (log_bytes pages root) root.head (as_bytes (older ++ newer)) root.end
  pub checkpoint : ArePlaced root.head (as_bytes older) root.checkpoint

-- the store has what an engine's log has on the disk, with the committed tables of a state
pub record IsStoredOf (stored : Stored) (log : EngineLog) (state : State) : Type 0 where
  pub ties : TiesState stored.listing stored.saved log state
  pub older : stored.older ≡ log.older
  pub newer : stored.newer ≡ log.written
  pub size : state.size ≡ size_of stored.root
  pub tables : stored.tables ≡ state.base

-- It recovers the committed tables, and all tables on the way of restart fit.
abbrev pub DiskHasLog : Type 0
DiskHasLog = (pages : Pages) (stored : Stored) (log : EngineLog) (state : State)
    → IsStoredOf stored log state → HoldsLog pages stored.root stored.older stored.newer
    → HasLog pages stored

-- It has room for a restart, where the meter counts the pages of its checkpoint.
abbrev pub DiskHasRoom : Type 0
DiskHasRoom = (stored : Stored) (log : EngineLog) (state : State)
    → IsStoredOf stored log state → IsMetered state → state.meter.heap ≡ (meter_of stored).heap
    → room_number stored.saved.definitions (meter_of stored) ≤ stored.root.slots
