-- The log as its callers see it.
use Rattle.std.specs.Prelude.{◌≡◌, ℕ, ◌+◌, ◌-◌, ◌*◌, ◌/◌, ◌%◌, ◌^◌, ◌<◌, ◌≤◌, List, ◌++◌, length, take, drop}
use Rattle.rss_base.specs.declared.log_record.LogRecord.{LogRecord}
use Rattle.rss_base.specs.Sizes.{log_pages_most, piece_bytes}
use Rattle.rss_base.specs.LogRecords.{Placed, Parses, BeginsWith}

-- How many log pages the device has, the first position that is kept, the next position, and the bytes from the start of the piece with the head up to the end.
pub record LogView : Type 0 where
  pub pages : ℕ
  pub head : ℕ
  pub end : ℕ
  pub kept : List ℕ

-- where the piece with a position begins
abbrev pub piece_start : ℕ → ℕ
piece_start position = position / piece_bytes * piece_bytes

-- where the last piece that has room ends
abbrev pub room_end : ℕ → ℕ → ℕ
room_end pages head = (head / piece_bytes + pages + 1) * piece_bytes

-- how many bytes the log has room for
abbrev pub free_of : LogView → ℕ
free_of log = room_end log.pages log.head - 1 - log.end

-- There are log pages, the positions stand in order, and the pieces from the one with the head on have all log pages and the root's tail.
pub record IsRing (pages head end : ℕ) : Type 0 where
  pub some : 0 < pages
  pub most : pages ≤ log_pages_most
  pub order : head ≤ end
  pub room : end < room_end pages head
  pub limit : end < 2 ^ 64

-- A log of these positions can be read from a device of this size, a number of 64 bits: the log pages stand there from the first one on, and the tail are the bytes behind the last full piece.
pub record CanLoad (first_page log_pages head end : ℕ) (tail : List ℕ) (size : ℕ) : Type 0 where
  pub ring : IsRing log_pages head end
  pub tail_long : length tail ≡ end % piece_bytes
  pub within : first_page + log_pages ≤ size
  pub limit : first_page + log_pages < 2 ^ 64

-- what holds of every log
pub record IsLog (log : LogView) : Type 0 where
  pub ring : IsRing log.pages log.head log.end
  pub long : length log.kept ≡ log.end - piece_start log.head

-- the bytes from a position up to the end
abbrev pub bytes_from : LogView → ℕ → List ℕ
bytes_from log position = drop (position - piece_start log.head) log.kept

-- a full piece of the log
abbrev pub piece_of : LogView → ℕ → List ℕ
piece_of log number = take piece_bytes (bytes_from log (number * piece_bytes))

-- the bytes behind the last full piece
abbrev pub tail_of : LogView → List ℕ
tail_of log = bytes_from log (piece_start log.end)

-- the log's bytes are those of these records
abbrev pub HasRecords : LogView → List Placed → Type 0
HasRecords log ps = Parses (bytes_from log log.head) log.head ps log.end

-- a record of the log begins at a position
pub record HasRecordAt (log : LogView) (position : ℕ) : Type 0 where
  pub r : LogRecord
  pub rest : List ℕ
  pub begins : BeginsWith (bytes_from log position) r rest

-- the log with these bytes at its end
abbrev pub with_bytes : LogView → List ℕ → LogView
with_bytes log bytes = record { pages = log.pages; head = log.head; end = log.end + length bytes; kept = log.kept ++ bytes }

-- the log from a later head on
abbrev pub with_head : LogView → ℕ → LogView
with_head log head = record { pages = log.pages; head = head; end = log.end; kept = drop (piece_start head - piece_start log.head) log.kept }
