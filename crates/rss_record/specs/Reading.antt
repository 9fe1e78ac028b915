-- Fields and records from the front of bytes.
use Rattle.std.specs.Prelude.{◌≡◌, ℕ, zero, suc, List, [], ◌∷◌, length, take, drop, Option, Some, None, nat_lt, ◌==◌, ◌&&◌, ◌||◌, if◌then◌else◌}
use Rattle.std.specs.Int.{Width, w16, w32, w64, byte_len, from_be_bytes}
use Rattle.rss_base.specs.Sizes.{page_entries}
use Rattle.rss_base.specs.declared.tid.Tid.{Tid}
use Rattle.rss_base.specs.declared.change.Change.{Change}
use Rattle.rss_base.specs.declared.change.Change.TheVariants.{Insert, Delete, Update, Connect, Disconnect}
use Rattle.rss_base.specs.declared.log_record.LogRecord.{LogRecord}
use Rattle.rss_base.specs.declared.log_record.LogRecord.TheVariants as records
use Rattle.rss_base.specs.LogRecords.{values_most, marks_most}

infixl 10 ◌>>=◌
abbrev pub ◌>>=◌ : {A B : Type 0} → Option A → (A → Option B) → Option B
(Some x) >>= f = f x
None >>= f = None

-- a value and the bytes behind it, where the bytes begin with one
abbrev pub Front : Type 0 → Type 0
Front T = Option (T × List ℕ)

-- what a call returned and left is what the bytes begin with
abbrev pub Gives : {T : Type 0} → Option T → List ℕ → Front T → Type 0
Gives (Some x) rest front = front ≡ Some (x, rest)
Gives None rest front = front ≡ None

-- ---- fields

abbrev pub byte_at : List ℕ → Front ℕ
byte_at [] = None
byte_at (b ∷ rest) = Some (b, rest)

abbrev pub number_at : Width → List ℕ → Front ℕ
number_at w bytes = if nat_lt (length bytes) (byte_len w) then None else Some (from_be_bytes w (take (byte_len w) bytes), drop (byte_len w) bytes)

unfoldable pub tid_at : List ℕ → Front Tid
tid_at bytes = do
  page ← number_at w32 bytes
  slot ← number_at w16 page.1
  if nat_lt slot.0 page_entries then Some (record { page = page.0; slot = slot.0 }, slot.1) else None

unfoldable pub place_at : List ℕ → Front (Option Tid)
place_at bytes = do
  page ← number_at w32 bytes
  slot ← number_at w16 page.1
  if nat_lt slot.0 page_entries
      then Some (Some (record { page = page.0; slot = slot.0 }), slot.1)
      else (if (page.0 == 4294967295) && (slot.0 == 65535) then Some (None, slot.1) else None)

unfoldable pub values_at : List ℕ → Front (List ℕ)
values_at bytes = do
  size ← number_at w16 bytes
  if nat_lt values_most size.0 || nat_lt (length size.1) size.0 then None else Some (take size.0 size.1, drop size.0 size.1)

unfoldable pub mark_at : List ℕ → Front (ℕ × ℕ)
mark_at bytes = do
  by ← number_at w32 bytes
  position ← number_at w64 by.1
  Some ((by.0, position.0), position.1)

-- so many marks
unfoldable pub so_many_at : ℕ → List ℕ → Front (List (ℕ × ℕ))
so_many_at zero bytes = Some ([], bytes)
so_many_at (suc n) bytes = do
  mark ← mark_at bytes
  others ← so_many_at n mark.1
  Some (mark.0 ∷ others.0, others.1)

unfoldable pub marks_at : List ℕ → Front (List (ℕ × ℕ))
marks_at bytes = do
  count ← byte_at bytes
  if nat_lt marks_most count.0 then None else so_many_at count.0 count.1

-- ---- records

-- the change of a tuple, by the kind of its record
abbrev pub tuple_change : ℕ → ℕ → Tid → List ℕ → List ℕ → Front Change
tuple_change kind relation tid values rest =
    if kind == 1 then Some (Insert relation tid values, rest)
    else (if kind == 2 then Some (Delete relation tid values, rest)
    else (values_at rest >>= λ to. Some (Update relation tid values to.0, to.1)))

unfoldable pub tuple_change_at : ℕ → List ℕ → Front Change
tuple_change_at kind bytes = do
  relation ← byte_at bytes
  tid ← tid_at relation.1
  values ← values_at tid.1
  tuple_change kind relation.0 tid.0 values.0 values.1

unfoldable pub chain_change_at : ℕ → List ℕ → Front Change
chain_change_at kind bytes = do
  link ← byte_at bytes
  parent ← place_at link.1
  child ← tid_at parent.1
  left ← place_at child.1
  if kind == 4 then Some (Connect link.0 parent.0 child.0 left.0, left.1) else Some (Disconnect link.0 parent.0 child.0 left.0, left.1)

unfoldable pub change_at : ℕ → List ℕ → Front Change
change_at kind bytes =
    if (kind == 1) || (kind == 2) || (kind == 3) then tuple_change_at kind bytes
    else (if (kind == 4) || (kind == 5) then chain_change_at kind bytes else None)

-- a record of a transaction, behind its kind and the transaction
unfoldable pub by_kind_at : ℕ → ℕ → List ℕ → Front LogRecord
by_kind_at kind by bytes =
    if kind == 6 then (number_at w64 bytes >>= λ position. Some (records.Restore by position.0, position.1))
    else (if kind == 7 then Some (records.End by, bytes)
    else (if kind == 8 then Some (records.Abort by, bytes)
    else (change_at kind bytes >>= λ change. Some (records.Change by change.0, change.1))))

unfoldable pub record_at : List ℕ → Front LogRecord
record_at bytes = do
  kind ← byte_at bytes
  if kind.0 == 9
      then (marks_at kind.1 >>= λ marks. Some (records.Checkpoint marks.0, marks.1))
      else (number_at w32 kind.1 >>= λ by. by_kind_at kind.0 by.0 by.1)
