-- The records that are read from a log, from one position up to another.
use Rattle.std.specs.Prelude.{◌≡◌, ℕ, ◌+◌, ◌<◌, List, ◌++◌, map}
use Rattle.rss_base.specs.declared.fault.PageFault.{PageFault}
use Rattle.rss_base.specs.declared.fault.PageFault.TheVariants.{Device, Damaged, NoMemory}
use Rattle.rss_base.specs.declared.log_record.LogRecord.{LogRecord}
use Rattle.rss_base.specs.declared.log_record.LogRecord.TheVariants as records
use Rattle.rss_base.specs.declared.place.Place.TheVariants.{Log as LogPlace}
use Rattle.rss_base.specs.LogRecords.{Placed, spelled, record_size, ArePlaced, BeginsWith}
use Rattle.rss_log.specs.Logs.{LogView, bytes_from}
use Rattle.rss_restart.specs.Surveys.{IsLogPlace}
use Rattle.rss_restart.specs.declared.survey.bounds.Event.{Event}
use Rattle.rss_restart.specs.declared.survey.bounds.Event.TheVariants.{Change, Restore, End, Abort, Checkpoint}
use Rattle.rss_restart.specs.declared.survey.walk.Placed.{Placed as PlacedEvent}

-- Records stand in the log from one position up to another.
pub record Stand (log : LogView) (from : ℕ) (ps : List Placed) (until : ℕ) : Type 0 where
  pub placed : ArePlaced from ps until
  pub bytes : bytes_from log from ≡ spelled ps ++ bytes_from log until

-- what a record says, as far as it decides which changes are kept
abbrev pub event_told : LogRecord → Event
event_told (records.Change by change) = Change by
event_told (records.Restore by position) = Restore by position
event_told (records.End by) = End by
event_told (records.Abort by) = Abort by
event_told (records.Checkpoint marks) = Checkpoint

abbrev pub event_at : Placed → PlacedEvent
event_at p = record { at = p.at; event = event_told p.is }

-- these are the records from one position up to another
pub record Reads (log : LogView) (from until : ℕ) (events : List PlacedEvent) : Type 0 where
  pub ps : List Placed
  pub stand : Stand log from ps until
  pub is : events ≡ map event_at ps

-- the record at a position, with the next one behind it
pub record Finds (log : LogView) (at next : ℕ) (event : PlacedEvent) : Type 0 where
  pub r : LogRecord
  pub begins : BeginsWith (bytes_from log at) r (bytes_from log next)
  pub behind : next ≡ at + record_size r
  pub is : event ≡ event_at (record { at = at; is = r })

-- Records can't be read on from a position up to another: damage there, where none begins, and at the other one, where one goes beyond it.
pub data IsBroken (log : LogView) (at until : ℕ) : PageFault → Type 0 where
  none_begins : ((r : LogRecord) (rest : List ℕ) → BeginsWith (bytes_from log at) r rest → ⊥)
      → IsBroken log at until (Damaged (LogPlace at))
  goes_beyond : (r : LogRecord) (rest : List ℕ) → BeginsWith (bytes_from log at) r rest
      → until < at + record_size r → IsBroken log at until (Damaged (LogPlace until))

-- damage at a position of the log, or want of memory
abbrev pub IsReadFault : LogView → PageFault → Type 0
IsReadFault log Device = ⊥
IsReadFault log (Damaged place) = IsLogPlace log place
IsReadFault log NoMemory = Unit {0}
