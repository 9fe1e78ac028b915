-- The records of the log as bytes, and the records that bytes spell.
use Rattle.std.specs.Prelude.{◌≡◌, ℕ, ◌+◌, ◌^◌, ◌<◌, ◌≤◌, List, [], ◌∷◌, ◌++◌, length, replicate, Option, Some, None, IfSome}
use Rattle.std.specs.Int.{w16, w32, w64, to_be_bytes}
use Rattle.std.specs.List.{AllByRecursion}
use Rattle.rss_base.specs.Sizes.{page_entries}
use Rattle.rss_base.specs.declared.tid.Tid.{Tid}
use Rattle.rss_base.specs.declared.change.Change.{Change}
use Rattle.rss_base.specs.declared.change.Change.TheVariants.{Insert, Delete, Update, Connect, Disconnect}
use Rattle.rss_base.specs.declared.log_record.LogRecord.{LogRecord}
use Rattle.rss_base.specs.declared.log_record.LogRecord.TheVariants as records

-- ---- fields

-- the page in four bytes, the slot in two
abbrev pub tid_bytes : Tid → List ℕ
tid_bytes tid = to_be_bytes w32 tid.page ++ to_be_bytes w16 tid.slot

-- the same, and six bytes of 255 where there is none
abbrev pub place_bytes : Option Tid → List ℕ
place_bytes None = replicate 6 255
place_bytes (Some tid) = tid_bytes tid

-- the length in two bytes, and so many bytes
abbrev pub sized_bytes : List ℕ → List ℕ
sized_bytes values = to_be_bytes w16 (length values) ++ values

-- each transaction, and the position of its first change
abbrev pub marks_bytes : List (ℕ × ℕ) → List ℕ
marks_bytes [] = []
marks_bytes (mark ∷ marks) = to_be_bytes w32 mark.0 ++ (to_be_bytes w64 mark.1 ++ marks_bytes marks)

-- ---- records

-- what the records of tuples begin with: their kind, the transaction, the relation and the identifier
abbrev pub tuple_bytes : ℕ → ℕ → ℕ → Tid → List ℕ
tuple_bytes kind by relation tid = kind ∷ (to_be_bytes w32 by ++ (relation ∷ tid_bytes tid))

-- the records of chains: their kind, the transaction, the link, the parent, the child and the tuple before it
abbrev pub chain_bytes : ℕ → ℕ → ℕ → Option Tid → Tid → Option Tid → List ℕ
chain_bytes kind by link parent child left = kind ∷ (to_be_bytes w32 by ++ (link ∷ (place_bytes parent ++ (tid_bytes child ++ place_bytes left))))

abbrev pub change_bytes : ℕ → Change → List ℕ
change_bytes by (Insert relation tid values) = tuple_bytes 1 by relation tid ++ sized_bytes values
change_bytes by (Delete relation tid values) = tuple_bytes 2 by relation tid ++ sized_bytes values
change_bytes by (Update relation tid old new) = tuple_bytes 3 by relation tid ++ (sized_bytes old ++ sized_bytes new)
change_bytes by (Connect link parent child left) = chain_bytes 4 by link parent child left
change_bytes by (Disconnect link parent child left) = chain_bytes 5 by link parent child left

-- A record begins with its kind, and has its fields behind it. Numbers are big-endian.
abbrev pub record_bytes : LogRecord → List ℕ
record_bytes (records.Change by change) = change_bytes by change
record_bytes (records.Restore by position) = 6 ∷ (to_be_bytes w32 by ++ to_be_bytes w64 position)
record_bytes (records.End by) = 7 ∷ to_be_bytes w32 by
record_bytes (records.Abort by) = 8 ∷ to_be_bytes w32 by
record_bytes (records.Checkpoint marks) = 9 ∷ length marks ∷ marks_bytes marks

abbrev pub record_size : LogRecord → ℕ
record_size r = length (record_bytes r)

-- ---- which records can be spelled

-- how many bytes of values a record has at most
abbrev pub values_most : ℕ
values_most = 2048

-- how many transactions a checkpoint names at most
abbrev pub marks_most : ℕ
marks_most = 32

abbrev pub HasSlot : Tid → Type 0
HasSlot tid = tid.slot < page_entries

abbrev pub IsShort : List ℕ → Type 0
IsShort values = length values ≤ values_most

abbrev pub IsChangeBounded : Change → Type 0
IsChangeBounded (Insert relation tid values) = HasSlot tid × IsShort values
IsChangeBounded (Delete relation tid values) = HasSlot tid × IsShort values
IsChangeBounded (Update relation tid old new) = HasSlot tid × IsShort old × IsShort new
IsChangeBounded (Connect link parent child left) = IfSome parent HasSlot × HasSlot child × IfSome left HasSlot
IsChangeBounded (Disconnect link parent child left) = IfSome parent HasSlot × HasSlot child × IfSome left HasSlot

-- the lengths, the count and the slots of a record keep their bounds
abbrev pub IsBounded : LogRecord → Type 0
IsBounded (records.Change by change) = IsChangeBounded change
IsBounded (records.Restore by position) = Unit {0}
IsBounded (records.End by) = Unit {0}
IsBounded (records.Abort by) = Unit {0}
IsBounded (records.Checkpoint marks) = length marks ≤ marks_most

abbrev pub HasPage : Tid → Type 0
HasPage tid = tid.page < 2 ^ 32

abbrev pub DoesChangeFit : Change → Type 0
DoesChangeFit (Insert relation tid values) = HasPage tid
DoesChangeFit (Delete relation tid values) = HasPage tid
DoesChangeFit (Update relation tid old new) = HasPage tid
DoesChangeFit (Connect link parent child left) = IfSome parent HasPage × HasPage child × IfSome left HasPage
DoesChangeFit (Disconnect link parent child left) = IfSome parent HasPage × HasPage child × IfSome left HasPage

abbrev pub DoesMarkFit : ℕ × ℕ → Type 0
DoesMarkFit mark = (mark.0 < 2 ^ 32) × (mark.1 < 2 ^ 64)

-- its other numbers fit the fields of four and of eight bytes, as their types say
abbrev pub DoesFit : LogRecord → Type 0
DoesFit (records.Change by change) = (by < 2 ^ 32) × DoesChangeFit change
DoesFit (records.Restore by position) = (by < 2 ^ 32) × (position < 2 ^ 64)
DoesFit (records.End by) = by < 2 ^ 32
DoesFit (records.Abort by) = by < 2 ^ 32
DoesFit (records.Checkpoint marks) = AllByRecursion DoesMarkFit marks

-- the size of the longest record, an Update of the longest values
abbrev pub longest_record : ℕ
longest_record = 4112

pub record IsSpellable (r : LogRecord) : Type 0 where
  pub bounded : IsBounded r
  pub fits : DoesFit r

-- bytes that begin with a record, and the rest of them
pub record BeginsWith (bytes : List ℕ) (r : LogRecord) (rest : List ℕ) : Type 0 where
  pub spellable : IsSpellable r
  pub is : bytes ≡ record_bytes r ++ rest

-- ---- records one after another

-- a record with the position of its first byte
pub record Placed : Type 0 where
  pub at : ℕ
  pub is : LogRecord

abbrev pub spelled : List Placed → List ℕ
spelled [] = []
spelled (p ∷ ps) = record_bytes p.is ++ spelled ps

-- each record begins where the one before it ends, from one position up to another
abbrev pub ArePlaced : ℕ → List Placed → ℕ → Type 0
ArePlaced from [] until = from ≡ until
ArePlaced from (p ∷ ps) until = (p.at ≡ from) × IsSpellable p.is × ArePlaced (from + record_size p.is) ps until

-- the bytes are those of these records, from one position up to another
pub record Parses (bytes : List ℕ) (from : ℕ) (ps : List Placed) (until : ℕ) : Type 0 where
  pub spells : bytes ≡ spelled ps
  pub placed : ArePlaced from ps until
