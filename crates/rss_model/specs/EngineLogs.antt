-- The log of an engine, and how the machine's state is tied to it and to the tables of the last checkpoint.
use Rattle.std.specs.Prelude.{◌≡◌, ℕ, ◌+◌, true, List, [], ◌∷◌, ◌++◌, length, map, count_by, All, Some}
use Rattle.rss_base.specs.declared.name.Name.{Name}
use Rattle.rss_base.specs.declared.log_record.LogRecord.{LogRecord}
use Rattle.rss_base.specs.declared.log_record.LogRecord.TheVariants as records
use Rattle.rss_base.specs.LogRecords.{ArePlaced, record_size}
use Rattle.rss_base.specs.Listings.{Listing, relation_at}
use Rattle.rss_base.specs.declared.relation.RelationEntry.{RelationEntry}
use Rattle.rss_model.specs.Tables.{Definitions, Contents, Tables, fields_in}
use Rattle.rss_model.specs.Changes.{Change, after}
use Rattle.rss_model.specs.Meter.{Stamp, Meter}
use Rattle.rss_model.specs.Machine.{State}
use Rattle.rss_model.specs.Kept.{up_to}
use Rattle.rss_model.specs.Records.{LogEntry, Checkpoint, Placed, Listed, changes_in, listed, committed_by}
use Rattle.rss_model.specs.Restart.{FitWith}
use Rattle.rss_model.specs.Recovers.{lists_at, base_at}
use Rattle.rss_model.specs.Meanings.{Logged, as_bytes, as_entries, Says, MeansIt, is_listed, is_change, traffic_of}
use Rattle.rss_model.specs.Ties.{Log, newer, lists, Ties}

-- ---- a log with its bytes

-- head: the first position that is kept.
-- older, written: the records up to the last Checkpoint record, and from it on those that the selected root has.
-- pending: those in memory alone.
-- end: the next position.
pub record EngineLog : Type 0 where
  pub head : ℕ
  pub older : List Logged
  pub written : List Logged
  pub pending : List Logged
  pub end : ℕ

-- behind the last checkpoint
abbrev pub newer_logged : EngineLog → List Logged
newer_logged log = log.written ++ log.pending

abbrev pub all_logged : EngineLog → List Logged
all_logged log = log.older ++ newer_logged log

abbrev pub entries_of : EngineLog → Log
entries_of log = record {
  head = log.head;
  older = as_entries log.older;
  written = as_entries log.written;
  pending = as_entries log.pending;
  end = log.end;
}

-- the changes that are listed at the last checkpoint, and now
abbrev pub lists_saved : EngineLog → List Listed
lists_saved log = lists_at (as_entries log.older)

abbrev pub lists_now : EngineLog → List Listed
lists_now log = lists (entries_of log)

-- ---- what is done to it

-- one record more, in memory alone
abbrev pub appended : EngineLog → LogRecord → LogEntry → EngineLog
appended log told entry = record {
  head = log.head;
  older = log.older;
  written = log.written;
  pending = log.pending ++ record { at = log.end; told = told; is = entry } ∷ [];
  end = log.end + record_size told;
}

-- all records are on the disk
abbrev pub written_out : EngineLog → EngineLog
written_out log = record {
  head = log.head;
  older = log.older;
  written = newer_logged log;
  pending = [];
  end = log.end;
}

-- a Checkpoint record that names these transactions, behind those that are kept from a new head on
abbrev pub saved_log : EngineLog → ℕ → List Logged → List (ℕ × ℕ) → EngineLog
saved_log log head kept named = record {
  head = head;
  older = kept;
  written = record { at = log.end; told = records.Checkpoint named; is = Checkpoint named } ∷ [];
  pending = [];
  end = log.end + record_size (records.Checkpoint named);
}

-- ---- tables on the way

-- contents with any of these changes up to some time of each transaction fit
abbrev pub FitsMixed : ℕ → Tables → Contents → List Change → Type 0
FitsMixed slots tables base changes =
    (counts : ℕ → ℕ) → FitWith slots tables (after base (up_to counts changes))

-- at each record, what is committed there with the changes that are listed there
abbrev pub FitsAlong : ℕ → Tables → Contents → List Listed → List Placed → Type 0
FitsAlong slots tables base ls [] = FitsMixed slots tables base (changes_in ls)
FitsAlong slots tables base ls (p ∷ ps) =
    FitsMixed slots tables base (changes_in ls)
    × FitsAlong slots tables (committed_by base ls p.is) (listed ls p.at p.is) ps

-- ---- what its records mean

-- Each record says its entry. What was done since the checkpoint means something, and so does each change that is listed there.
pub record AreOwn (listing : Listing) (log : EngineLog) : Type 0 where
  pub say : All (λ l. Says listing l.told l.is) (all_logged log)
  pub newer : All (λ l. MeansIt listing l.told l.is) (newer_logged log)
  pub listed : All (λ l. is_listed l.at (lists_saved log) ≡ true → MeansIt listing l.told l.is) log.older

-- ---- the meter

abbrev pub stamp_of : Listed → Stamp
stamp_of l = record { by = l.change.by; at = l.at }

-- The meter counts what the log tells.
pub record IsMeterOf (at_checkpoint : Contents) (log : EngineLog) (meter : Meter) : Type 0 where
  pub surviving : meter.surviving ≡ length (lists_saved log)
  pub since : meter.since ≡ count_by (λ l. is_change l.is) (newer_logged log)
  pub traffic : (relation : Name)
      → meter.traffic relation ≡ traffic_of at_checkpoint (lists_saved log) (newer_logged log) relation
  pub stamps : meter.stamps ≡ map stamp_of (lists_now log)
  pub head : meter.head ≡ log.head
  pub end : meter.end ≡ log.end

-- ---- ties

-- the relations that are listed have their fields by their names
abbrev pub HaveFields : Listing → Definitions → Type 0
HaveFields listing definitions =
    (number : ℕ) (relation : RelationEntry) → relation_at listing number ≡ Some relation
    → fields_in definitions relation.name ≡ relation.fields

-- The machine's state is tied to the log of an engine over the tables of the last checkpoint.
pub record TiesState (listing : Listing) (at_checkpoint : Tables) (log : EngineLog) (state : State) : Type 0 where
  pub ties : Ties state.base.contents state.changes at_checkpoint.contents (entries_of log)
  pub definitions : state.base.definitions ≡ at_checkpoint.definitions
  pub fields : HaveFields listing at_checkpoint.definitions
  pub fits : FitsAlong state.size.slots at_checkpoint
      (base_at at_checkpoint.contents (as_entries log.older)) (lists_saved log)
      (newer (entries_of log))
  pub placed : ArePlaced log.head (as_bytes (all_logged log)) log.end
  pub own : AreOwn listing log
  pub meter : IsMeterOf at_checkpoint.contents log state.meter
