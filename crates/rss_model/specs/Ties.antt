-- How committed contents and changes are tied to a log and to the contents of the last checkpoint.
use Rattle.std.specs.Prelude.{◌≡◌, ℕ, ◌+◌, Bool, true, false, not, List, [], ◌∷◌, ◌++◌, length, filter, ⊤}
use Rattle.std.specs.List.{AllByRecursion}
use Rattle.rss_model.specs.Tables.{Contents, content}
use Rattle.rss_model.specs.Changes.{Change, maker, own, after, undone, Chained, kept_to}
use Rattle.rss_model.specs.Records.{LogEntry, Changed, Restore, End, Abort, Checkpoint, Placed, Listed, changes_in, listed, committed_by, list_after, recovered, Rise}
use Rattle.rss_model.specs.Restart.{UndoFinds, LoneAlong}
use Rattle.rss_model.specs.Recovers.{BeginsAtCheckpoint, lists_at, base_at}

-- ---- records that tell what stood there

abbrev pub TellsOld : Contents → List Listed → LogEntry → Type 0
TellsOld base ls (Changed change) = change.old ≡ content (after base (changes_in ls)) change.item
TellsOld base ls (Restore t first) = ⊤
TellsOld base ls (End t) = ⊤
TellsOld base ls (Abort t) = ⊤
TellsOld base ls (Checkpoint named) = ⊤

abbrev pub ChainedAlong : Contents → List Listed → List Placed → Type 0
ChainedAlong base ls [] = ⊤
ChainedAlong base ls (p ∷ ps) =
    TellsOld base ls p.is × ChainedAlong (committed_by base ls p.is) (listed ls p.at p.is) ps

-- ---- a log

-- The records from the head up to the last Checkpoint record; from it on those that the selected root has; and those in memory alone. The head and the end are positions.
pub record Log : Type 0 where
  pub head : ℕ
  pub older : List Placed
  pub written : List Placed
  pub pending : List Placed
  pub end : ℕ

abbrev pub newer : Log → List Placed
newer log = log.written ++ log.pending

abbrev pub records : Log → List Placed
records log = log.older ++ newer log

-- the lists of the open transactions, in one
abbrev pub lists : Log → List Listed
lists log = list_after [] (records log)

-- one record more in memory
abbrev pub pushed : Log → LogEntry → ℕ → Log
pushed log entry size = record {
  head = log.head;
  older = log.older;
  written = log.written;
  pending = log.pending ++ record { at = log.end; is = entry } ∷ [];
  end = log.end + size;
}

-- all records are on the disk
abbrev pub saved : Log → Log
saved log = record {
  head = log.head;
  older = log.older;
  written = newer log;
  pending = [];
  end = log.end;
}

-- a Checkpoint record, behind those that are kept from a new head on
abbrev pub checkpointed : Log → ℕ → List Placed → List (ℕ × ℕ) → ℕ → Log
checkpointed log head kept named size = record {
  head = head;
  older = kept;
  written = record { at = log.end; is = Checkpoint named } ∷ [];
  pending = [];
  end = log.end + size;
}

-- of a transaction's changes the oldest so many stay
abbrev pub cut_own : ℕ → ℕ → List Change → List Change
cut_own t n changes = kept_to maker t n changes

-- the position of the transaction's change that has so many older ones
pub data StandsAt (t n at : ℕ) : List Listed → Type 0 where
  here : (l : Listed) (ls : List Listed) → l.change.by ≡ t → length (own t (changes_in ls)) ≡ n → l.at ≡ at
      → StandsAt t n at (l ∷ ls)
  older : (l : Listed) (ls : List Listed) → StandsAt t n at ls → StandsAt t n at (l ∷ ls)

-- neither an End record nor a Checkpoint record: those are on the disk as soon as they are made
abbrev pub is_plain : LogEntry → Bool
is_plain (Changed change) = true
is_plain (Restore t first) = true
is_plain (End t) = false
is_plain (Abort t) = true
is_plain (Checkpoint named) = false

-- ---- ties

-- Committed contents and changes are those of a log over the contents of the checkpoint.
pub record Ties (base : Contents) (changes : List Change) (at_checkpoint : Contents) (log : Log) : Type 0 where
  pub rise : Rise log.head (records log) log.end
  pub begins : BeginsAtCheckpoint (lists_at log.older) log.written
  pub plain : AllByRecursion (λ p. is_plain p.is ≡ true) log.pending
  pub lone : LoneAlong [] (records log)
  pub undoes : UndoFinds at_checkpoint (changes_in (lists_at log.older))
  pub tells : ChainedAlong (base_at at_checkpoint log.older) (lists_at log.older) (newer log)
  pub base_is : recovered (base_at at_checkpoint log.older) (lists_at log.older) (newer log) ≡ base
  pub changes_are : changes_in (lists log) ≡ changes
  pub chained : Chained base changes

-- what stays of the changes in the lists, and what goes
abbrev pub kept : (Listed → Bool) → List Listed → List Change
kept stays ls = changes_in (filter stays ls)

abbrev pub gone : (Listed → Bool) → List Listed → List Change
gone stays ls = changes_in (filter (λ l. not (stays l)) ls)

-- Undoing what goes, newest first, gives the contents of what stays, and each undo finds the new content.
pub record Undoes (base : Contents) (stays : Listed → Bool) (ls : List Listed) : Type 0 where
  pub gives : undone (after base (changes_in ls)) (gone stays ls) ≡ after base (kept stays ls)
  pub finds : UndoFinds (after base (changes_in ls)) (gone stays ls)
