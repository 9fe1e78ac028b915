-- Columns of marks: one for each space and segment whose pages are noted.
use Rattle.std.specs.Prelude.{◌≡◌, ℕ, ◌+◌, ◌-◌, ◌<◌, ◌≤◌, Bool, ◌==◌, ◌||◌, nat_lt, if◌then◌else◌, List, [], length, slice_index, slice_index_or, slice_set, Option, Some, None}
use Rattle.rss_base.specs.Sizes.{slots_most}
use Rattle.rss_base.specs.declared.key.Space.{Space}
use Rattle.rss_base.specs.declared.key.Space.TheVariants.{Home, Overflow, Image, System}
use Rattle.rss_base.specs.declared.key.PageKey.{PageKey}
use Rattle.rss_notes.specs.Notes.{NotesView}

abbrev pub Columns : Type 0
Columns = List (List ℕ)

-- eight columns from this one on are those of the segments 1 to 8
abbrev pub column_from : ℕ → ℕ → Option ℕ
column_from first segment =
    if nat_lt 0 segment then (if nat_lt segment 9 then Some (first + segment - 1) else None) else None

-- the column of a space in a segment
abbrev pub column_at : Space → ℕ → Option ℕ
column_at Home segment = column_from 0 segment
column_at Overflow segment = column_from 8 segment
column_at Image segment = None
column_at System segment = None

-- the mark at a place of a column, and 0 where there is none
abbrev pub mark_in : Columns → Option ℕ → ℕ → ℕ
mark_in columns None number = 0
mark_in columns (Some column) number = slice_index (slice_index_or columns column []) number

-- the mark of a page
abbrev pub mark_of : Columns → PageKey → ℕ
mark_of columns key = mark_in columns (column_at key.space key.segment) key.number

-- the same columns, but for the mark at this place, if there is one
abbrev pub marked_in : Columns → Option ℕ → ℕ → ℕ → Columns
marked_in columns None number mark = columns
marked_in columns (Some column) number mark =
    slice_set columns column (slice_set (slice_index_or columns column []) number mark)

abbrev pub with_mark : Columns → PageKey → ℕ → Columns
with_mark columns key mark = marked_in columns (column_at key.space key.segment) key.number mark

-- A mark is 0 for a page that isn't mapped, 65,535 for a mapped one without a note, and else the note
-- plus 1.
abbrev pub is_mapped_mark : ℕ → Bool
is_mapped_mark mark = nat_lt 0 mark

abbrev pub note_of_mark : ℕ → Option ℕ
note_of_mark mark = if (mark == 0) || (mark == 65535) then None else Some (mark - 1)

-- sixteen columns, with a mark for each slot's number
pub record AreColumns (slots : ℕ) (columns : Columns) : Type 0 where
  pub few : slots ≤ slots_most
  pub count : length columns ≡ 16
  pub long : (c : ℕ) → c < 16 → length (slice_index_or columns c []) ≡ slots

-- how many slots the store has, and the columns
pub record Marked : Type 0 where
  pub slots : ℕ
  pub columns : Columns

-- what they tell of the pages, which is all that contracts speak of
abbrev pub told : Marked → NotesView
told marked = record {
  slots = marked.slots;
  mapped = λ key. is_mapped_mark (mark_of marked.columns key);
  notes = λ key. note_of_mark (mark_of marked.columns key);
}
