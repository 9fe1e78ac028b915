-- What the log of a store tells over the tables of its checkpoint, and the tables that are recovered.
use Rattle.std.specs.Prelude.{◌≡◌, ℕ, ◌+◌, ◌≤◌, Bool, true, false, ◌==◌, if◌then◌else◌, List, [], ◌∷◌, ◌++◌, Option, Some, None, ⊤}
use Rattle.std.specs.List.{AllByRecursion}
use Rattle.rss_model.specs.Tables.{Contents, Tables}
use Rattle.rss_model.specs.Changes.{undone}
use Rattle.rss_model.specs.Records.{LogEntry, Changed, Restore, End, Abort, Checkpoint, Placed, Listed, changes_in, is_by, list_after, recovered}
use Rattle.rss_model.specs.Restart.{losers, restarted, UndoFinds, RedoFinds, UndoFits, RedoFits, LoneAlong}

-- ---- Checkpoint records

-- the position of the first change in a transaction's list
abbrev pub older_of : Option ℕ → Option ℕ → Option ℕ
older_of None at = at
older_of (Some first) at = Some first

abbrev pub first_in : ℕ → List Listed → Option ℕ
first_in t [] = None
first_in t (l ∷ ls) = older_of (first_in t ls) (if is_by t l then Some l.at else None)

abbrev pub named_in : ℕ → List (ℕ × ℕ) → Option ℕ
named_in t [] = None
named_in t (named ∷ rest) = if named.0 == t then Some named.1 else named_in t rest

abbrev pub AreRising : ℕ → List (ℕ × ℕ) → Type 0
AreRising least [] = ⊤
AreRising least (named ∷ rest) = (least ≤ named.0) × AreRising (named.0 + 1) rest

-- exactly the transactions whose lists are not empty, by rising number, each with its first change
pub record NamesLists (named : List (ℕ × ℕ)) (ls : List Listed) : Type 0 where
  pub rising : AreRising 0 named
  pub firsts : (t : ℕ) → named_in t named ≡ first_in t ls

abbrev pub IsCheckpointOf : List Listed → LogEntry → Type 0
IsCheckpointOf ls (Changed c) = ⊥
IsCheckpointOf ls (Restore t first) = ⊥
IsCheckpointOf ls (End t) = ⊥
IsCheckpointOf ls (Abort t) = ⊥
IsCheckpointOf ls (Checkpoint named) = NamesLists named ls

abbrev pub is_checkpoint : LogEntry → Bool
is_checkpoint (Changed c) = false
is_checkpoint (Restore t first) = false
is_checkpoint (End t) = false
is_checkpoint (Abort t) = false
is_checkpoint (Checkpoint named) = true

-- the first record is the Checkpoint record of these lists, and no other one is a Checkpoint record
abbrev pub BeginsAtCheckpoint : List Listed → List Placed → Type 0
BeginsAtCheckpoint ls [] = ⊥
BeginsAtCheckpoint ls (p ∷ ps) = IsCheckpointOf ls p.is × AllByRecursion (λ q. is_checkpoint q.is ≡ false) ps

-- ---- the log over the tables of the checkpoint

-- the changes listed at the checkpoint
abbrev pub lists_at : List Placed → List Listed
lists_at older = list_after [] older

-- what was committed at the checkpoint
abbrev pub base_at : Contents → List Placed → Contents
base_at saved older = undone saved (changes_in (lists_at older))

-- Over the contents of the checkpoint, with the records from the head up to the last Checkpoint record and those from it on, these contents are recovered.
pub record Recovers (saved : Contents) (older newer : List Placed) (base : Contents) : Type 0 where
  pub begins : BeginsAtCheckpoint (lists_at older) newer
  pub lone : LoneAlong [] (older ++ newer)
  pub undoes : UndoFinds saved (changes_in (lists_at older))
  pub redoes : RedoFinds (undone saved (changes_in (losers newer (lists_at older)))) newer
  pub is : base ≡ recovered (base_at saved older) (lists_at older) newer

-- all tables on the way of restart fit
pub record WayFits (slots : ℕ) (saved : Tables) (older newer : List Placed) : Type 0 where
  pub undo : UndoFits slots saved saved.contents (changes_in (losers newer (lists_at older)))
  pub redo : RedoFits slots saved (undone saved.contents (changes_in (losers newer (lists_at older)))) newer

-- What restart does on the tables of the checkpoint: it gives these contents, each undo finds the new content, and each redo the old one.
pub record Restarts (saved : Contents) (older newer : List Placed) (base : Contents) : Type 0 where
  pub gives : restarted saved (lists_at older) newer ≡ base
  pub undo : UndoFinds saved (changes_in (losers newer (lists_at older)))
  pub redo : RedoFinds (undone saved (changes_in (losers newer (lists_at older)))) newer
