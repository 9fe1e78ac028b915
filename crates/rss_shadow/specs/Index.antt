-- The index of a map by its pages: for each segment and space a column with the slot of each page, by the page's number.
use Rattle.std.specs.Prelude.{◌≡◌, ◌≢◌, ℕ, ◌+◌, ◌<◌, Bool, List, [], ◌∷◌, length, map, slice_index_or, Option, None, IsSome, is_some, is_none, count_by}
use Rattle.std.specs.List.{sum_by}
use Rattle.rss_base.specs.PageMap.{IsKey}
use Rattle.rss_base.specs.Paged.{page_key}
use Rattle.rss_base.specs.declared.key.Space.{Space}
use Rattle.rss_base.specs.declared.key.Space.TheVariants.{Home, Overflow, Image, System}
use Rattle.rss_base.specs.declared.key.PageKey.{PageKey}

abbrev pub Columns : Type 0
Columns = List (List (Option ℕ))

-- the column of a space in a segment
abbrev pub column_at : Space → ℕ → ℕ
column_at System segment = 0
column_at Home segment = segment
column_at Overflow segment = 8 + segment
column_at Image segment = 16 + segment

-- the slot of a page, where it has one
abbrev pub slot_in : Columns → PageKey → Option ℕ
slot_in columns key = slice_index_or (slice_index_or columns (column_at key.space key.segment) []) key.number None

-- how many numbers a page may have, but for one of the system space
abbrev pub numbers_of : Columns → ℕ
numbers_of columns = length (slice_index_or columns 1 [])

-- one column for the system space, and one for each other space of each segment
pub record AreColumns (columns : Columns) : Type 0 where
  pub count : length columns ≡ 25
  pub system : length (slice_index_or columns 0 []) ≡ 10
  pub others : (c : ℕ) → 0 < c → c < 25 → length (slice_index_or columns c []) ≡ numbers_of columns

-- how many pages have a slot
abbrev pub pages_in : Columns → ℕ
pages_in columns = sum_by (λ column. count_by is_some column) columns

-- the page has this slot, or none, and every other page the one that it had
pub record PutsSlot (old new : Columns) (key : PageKey) (slot : Option ℕ) : Type 0 where
  pub numbers : numbers_of new ≡ numbers_of old
  pub here : slot_in new key ≡ slot
  pub others : (other : PageKey) → IsKey (numbers_of old) other → other ≢ key → slot_in new other ≡ slot_in old other
  pub pages : pages_in new + count_by is_some (slot_in old key ∷ []) ≡ pages_in old + count_by is_some (slot ∷ [])

-- ---- which numbers have a slot

-- the sets tell which numbers of a column have a slot, and which have none
pub record AreTold (column : List (Option ℕ)) (slotted free : List Bool) : Type 0 where
  pub slotted_told : slotted ≡ map is_some column
  pub free_told : free ≡ map is_none column

-- a number of a column has a slot
abbrev pub HasSlot : List (Option ℕ) → ℕ → Type 0
HasSlot column number = IsSome (slice_index_or column number None)

-- or it has none
pub record LacksSlot (column : List (Option ℕ)) (number : ℕ) : Type 0 where
  pub within : number < length column
  pub lacks : slice_index_or column number None ≡ None

-- the same of the page of a number, of a segment and a space
pub record IsIndexed (columns : Columns) (segment : ℕ) (space : Space) (number : ℕ) : Type 0 where
  pub within : number < numbers_of columns
  pub has : IsSome (slot_in columns (page_key segment space number))

pub record IsUnindexed (columns : Columns) (segment : ℕ) (space : Space) (number : ℕ) : Type 0 where
  pub within : number < numbers_of columns
  pub lacks : slot_in columns (page_key segment space number) ≡ None
