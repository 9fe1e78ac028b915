-- The lines of a check in their order, and the order of the places in one line.
use Rattle.std.specs.Prelude.{◌≡◌, ℕ, ◌<◌, List, [], ◌∷◌, Option, Some, None}
use Rattle.std.specs.Ordering.{nat_cmp}
use Rattle.std.specs.declared.cmp.Ordering.TheVariants.{Less}
use Rattle.std.specs.Cmp.Lexicographic.{slice_cmp}
use Rattle.rss_base.specs.PageMap.{space_code}
use Rattle.rss_base.specs.declared.place.Place.{Place}
use Rattle.rss_base.specs.declared.place.Place.TheVariants.{Size, Root as RootPlace, Slot, Catalog as CatalogPlace, Page as PagePlace, Tuple as TuplePlace, Count as CountPlace, Image as ImagePlace, Link as LinkPlace, Log as LogPlace, Room as RoomPlace}

-- what a check looks at, one after the other
pub data Line : Type 0 where
  Layout : Line  -- the device's size, the selected root, the map
  SystemPages : Line  -- the pages of the system space are mapped
  Definitions : Line  -- and spell what is defined
  HeapPages : Line  -- home and overflow pages, each by itself
  Entries : Line  -- what each home entry holds or leads to
  Led : Line  -- each overflow entry that holds something is led to
  Counts : Line  -- the relations' counts of tuples
  Images : Line  -- each image
  Reached : Line  -- each page of the space of images is one of theirs
  Links : Line  -- each link
  Records : Line  -- the records of the log
  Marks : Line  -- its last Checkpoint record
  Items : Line  -- whose changes an item has
  Way : Line  -- what a restart finds
  Room : Line  -- the slots that it may need

abbrev pub line_number : Line → ℕ
line_number Layout = 0
line_number SystemPages = 1
line_number Definitions = 2
line_number HeapPages = 3
line_number Entries = 4
line_number Led = 5
line_number Counts = 6
line_number Images = 7
line_number Reached = 8
line_number Links = 9
line_number Records = 10
line_number Marks = 11
line_number Items = 12
line_number Way = 13
line_number Room = 14

-- The order of places in one line: by number; pages by segment, then home before overflow before image, then number; tuples by segment and identifier.
abbrev pub numbers_of : Place → List ℕ
numbers_of Size = []
numbers_of (RootPlace number) = number ∷ []
numbers_of (Slot slot) = slot ∷ []
numbers_of (CatalogPlace page) = page ∷ []
numbers_of (PagePlace key) = key.segment ∷ space_code key.space ∷ key.number ∷ []
numbers_of (TuplePlace segment tid) = segment ∷ tid.page ∷ tid.slot ∷ []
numbers_of (CountPlace relation) = relation ∷ []
numbers_of (ImagePlace image) = image ∷ []
numbers_of (LinkPlace link) = link ∷ []
numbers_of (LogPlace position) = position ∷ []
numbers_of RoomPlace = []

abbrev pub ComesBefore : Place → Place → Type 0
ComesBefore a b = slice_cmp nat_cmp (numbers_of a) (numbers_of b) ≡ Less

-- ---- the first place

-- Of the places at which lines are broken it is the first: no earlier line is broken anywhere, and this one nowhere before it.
pub record IsFirst (broken : Line → Place → Type 0) (place : Place) : Type 0 where
  pub line : Line
  pub breaks : broken line place
  pub earlier : (other : Line) (elsewhere : Place) → line_number other < line_number line
      → broken other elsewhere → ⊥
  pub least : (other : Place) → broken line other → ComesBefore other place → ⊥

-- of the places of one line it is the first
pub record IsLeast (broken : Place → Type 0) (place : Place) : Type 0 where
  pub breaks : broken place
  pub least : (other : Place) → broken other → ComesBefore other place → ⊥

-- no line is broken anywhere
abbrev pub AreUnbroken : (Line → Place → Type 0) → Type 0
AreUnbroken broken = (line : Line) (place : Place) → broken line place → ⊥

-- it is the first such place, and there is none if there is no first one
abbrev pub IsFirstIfAny : (Line → Place → Type 0) → Option Place → Type 0
IsFirstIfAny broken None = AreUnbroken broken
IsFirstIfAny broken (Some place) = IsFirst broken place
