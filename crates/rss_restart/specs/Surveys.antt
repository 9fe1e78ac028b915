-- What a restart is to undo and to redo, by the records of a log.
use Rattle.std.specs.Prelude.{◌≡◌, ℕ, ◌≤◌, if◌then◌else◌, List, [], ◌∷◌, ◌++◌, map, All}
use Rattle.rss_base.specs.declared.place.Place.{Place}
use Rattle.rss_base.specs.declared.place.Place.TheVariants.{Log as LogPlace}
use Rattle.rss_base.specs.declared.change.Change.{Change}
use Rattle.rss_base.specs.declared.log_record.LogRecord.TheVariants as records
use Rattle.rss_base.specs.Listings.{Listing}
use Rattle.rss_base.specs.LogRecords.{ArePlaced, BeginsWith}
use Rattle.rss_log.specs.Logs.{LogView, HasRecords, bytes_from}
use Rattle.rss_model.specs.Restart.{losers}
use Rattle.rss_model.specs.Recovers.{lists_at}
use Rattle.rss_model.specs.Meanings.{Logged, Says, as_bytes, as_entries, is_redone}

-- The records of the log are these, the older ones up to the checkpoint, and they say these entries.
pub record IsLogOf (listing : Listing) (log : LogView) (checkpoint : ℕ) (older newer : List Logged) : Type 0 where
  pub records : HasRecords log (as_bytes (older ++ newer))
  pub placed : ArePlaced log.head (as_bytes older) checkpoint
  pub say : All (λ l. Says listing l.told l.is) (older ++ newer)

-- the positions of what is done again, in the order of the log
abbrev pub redone_at : List Logged → List ℕ
redone_at [] = []
redone_at (l ∷ later) = if is_redone l.is l.at later then l.at ∷ redone_at later else redone_at later

-- These are the positions of what is undone, listed at the checkpoint and lost behind it, the newest first, and of what is done again, in the order of the log.
pub record Surveys (older newer : List Logged) (undone redone : List ℕ) : Type 0 where
  pub undone_is : undone ≡ map (λ l. l.at) (losers (as_entries newer) (lists_at (as_entries older)))
  pub redone_is : redone ≡ redone_at newer

-- a record of a change begins at this position of the log
pub record IsChangeAt (log : LogView) (at : ℕ) : Type 0 where
  pub low : log.head ≤ at
  pub high : at ≤ log.end
  pub by : ℕ
  pub change : Change
  pub rest : List ℕ
  pub begins : BeginsWith (bytes_from log at) (records.Change by change) rest

-- a position of the log
pub record IsLogPlace (log : LogView) (place : Place) : Type 0 where
  pub at : ℕ
  pub low : log.head ≤ at
  pub high : at ≤ log.end
  pub is : place ≡ LogPlace at
