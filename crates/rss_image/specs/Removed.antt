-- A pair that is taken from under a node.
use Rattle.std.specs.Prelude.{◌≡◌, ℕ, suc, zero, ◌+◌, ◌/◌, ◌<◌, ◌≤◌, List, [], ◌∷◌, ◌++◌, length, take, drop, Contains, Option, Some, None}
use Rattle.rss_base.specs.Paged.{Held}
use Rattle.rss_base.specs.Steps.{PagesView}
use Rattle.rss_base.specs.Entries.{Entry}
use Rattle.rss_levels.specs.Entries.{IsIn, zeros}
use Rattle.rss_levels.specs.Rows.{Part, Row, Cells, HoldsAt, Begins, names, pages, stored}
use Rattle.rss_levels.specs.Spots.{Keeps, LosesNone}
use Rattle.rss_levels.specs.Removes.{Removes, Neighbours, Evens, Lowered, Filled}
use Rattle.rss_node.specs.Nodes.{entry_at}
use Rattle.rss_node.specs.declared.pair.Nodes.{Nodes}
use Rattle.rss_image.specs.Trees.{cells_of, spells, HoldsNode, KeepsPages, LosesNoPage}
use Rattle.rss_image.specs.Inserted.{ImageSpot}

-- The pair belongs there and is there, and an inner node has two entries at least.
pub record MayRemove (of : Nodes) (held : Held) (level number : ℕ) (pair : List ℕ) : Type 0 where
  pub pairs : List (List ℕ)
  pub spot : ImageSpot of held level number pair pairs
  pub there : Contains pairs pair
  pub branches : 0 < level → 2 ≤ length spot.here.items

-- the pair is taken from there, and the node has so many entries left
abbrev pub Removed : Nodes → ℕ → ℕ → List ℕ → PagesView → PagesView → ℕ → Type 0
Removed of level number pair old new count = (pairs : List (List ℕ)) (spot : ImageSpot of old.held level number pair pairs) → Removes spot (cells_of of new.held) count

-- ---- two neighbours

-- the entries of an inner node, with this pair for the first one
abbrev pub first_named : ℕ → List ℕ → List Entry → List Entry
first_named zero pair es = es
first_named (suc level) pair [] = []
first_named (suc level) pair (e ∷ es) = record { pair = pair; child = e.child } ∷ es

-- two nodes are neighbours, and the second one begins at a pair
pub record AreNeighbours (of : Nodes) (cells : Cells) (level number other : ℕ) (pair : List ℕ) (left right : Part) (next : ℕ) : Type 0 where
  pub near : Neighbours (spells of) cells of.width level left right next
  pub left_is : left.number ≡ number
  pub right_is : right.number ≡ other
  pub begins : right.low ≡ pair

pub record HasNeighbours (of : Nodes) (cells : Cells) (level number other : ℕ) (pair : List ℕ) : Type 0 where
  pub left : Part
  pub right : Part
  pub next : ℕ
  pub are : AreNeighbours of cells level number other pair left right next

-- how the row above names a second node
abbrev pub second_names : Option (List ℕ) → ℕ → List Entry
second_names None other = []
second_names (Some pair) other = record { pair = pair; child = other } ∷ []

pub record EvensTo (of : Nodes) (old new : Cells) (level : ℕ) (left right : Part) (next : ℕ) (more : List Entry) : Type 0 where
  pub head : Part
  pub extra : Row
  pub names_are : names extra ≡ more
  pub evens : Evens (spells of) old new of.width level left right next head extra

-- they are evened out
abbrev pub Evened : Nodes → ℕ → ℕ → ℕ → List ℕ → Cells → Cells → Option (List ℕ) → Type 0
Evened of level number other pair old new second = (left right : Part) (next : ℕ) → AreNeighbours of old level number other pair left right next → EvensTo of old new level left right next (second_names second other)

-- the first one has the entries of both
pub record Joined (of : Nodes) (level number other next : ℕ) (entries : List Entry) (old new : Cells) : Type 0 where
  pub held : HoldsAt (spells of) new level number next entries
  pub keeps : Keeps (number ∷ other ∷ []) old new
  pub loses_none : LosesNone (number ∷ other ∷ []) (number ∷ []) old new

-- each has a half of the entries of both
pub record Shared (of : Nodes) (level number other left_next right_next : ℕ) (entries : List Entry) (old new : Cells) : Type 0 where
  pub left_held : HoldsAt (spells of) new level number left_next (take (length entries / 2) entries)
  pub right_held : HoldsAt (spells of) new level other right_next (first_named level (zeros of.width) (drop (length entries / 2) entries))
  pub keeps : Keeps (number ∷ other ∷ []) old new
  pub loses_none : LosesNone (number ∷ other ∷ []) (number ∷ other ∷ []) old new

-- ---- a node of which a child lacks an entry

-- a node whose child of this place may lack entries
pub record MayMend (of : Nodes) (cells : Cells) (level number place : ℕ) (own : List Entry) : Type 0 where
  pub start : Cells
  pub pairs : List (List ℕ)
  pub front : List Entry
  pub back : List Entry
  pub lower : List Row
  pub entries : List Entry
  pub rows : Lowered (spells of) start cells of.width pairs front back lower entries place
  pub height : length lower ≡ level
  pub own_is : own ≡ stored of.width level entries
  pub within : place < length entries
  pub several : 2 ≤ length entries
  pub bytes : List ℕ
  pub held : cells number ≡ Some bytes
  pub off : IsIn (pages ((rows.before ++ rows.here ∷ rows.after) ∷ rows.rest)) number → ⊥

-- all its children are filled now, and it names them
pub record MendsTo (of : Nodes) (level number next : ℕ) (start new : Cells) (pairs : List (List ℕ)) (front back : List Entry) (lower : List Row) (entries : List Entry) (count : ℕ) : Type 0 where
  pub now : List Entry
  pub mid : Cells
  pub filled : Filled (spells of) start mid of.width pairs front back lower now
  pub held : HoldsAt (spells of) new level number next (stored of.width level now)
  pub keeps : Keeps (number ∷ []) mid new
  pub loses_none : LosesNone (number ∷ []) (number ∷ []) mid new
  pub count_is : length now ≡ count
  pub lacks : length entries ≤ length now + 1
  pub few : length now ≤ length entries
  pub begins : (low : List ℕ) → Begins low entries → Begins low now

abbrev pub Mended : Nodes → ℕ → ℕ → ℕ → ℕ → List Entry → Cells → Cells → ℕ → Type 0
Mended of level number next place own old new count = (start : Cells) (pairs : List (List ℕ)) (front back : List Entry) (lower : List Row) (entries : List Entry) → Lowered (spells of) start old of.width pairs front back lower entries place
    → length lower ≡ level → own ≡ stored of.width level entries → place < length entries → MendsTo of level number next start new pairs front back lower entries count

-- ---- the root

-- the root names one node
pub record HasRoot (of : Nodes) (held : Held) (level root : ℕ) : Type 0 where
  pub next : ℕ
  pub entries : List Entry
  pub holds : HoldsNode of held level root next entries
  pub some : 0 < length entries

-- its page was given, and this is the node that it named
pub record Dropped (of : Nodes) (level root child : ℕ) (old new : PagesView) : Type 0 where
  pub keeps : KeepsPages of (root ∷ []) old new
  pub loses_none : LosesNoPage of (root ∷ []) [] old new
  pub child_is : (next : ℕ) (entries : List Entry) → HoldsNode of old.held level root next entries → child ≡ (entry_at entries 0).child
