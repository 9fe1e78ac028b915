-- A node into which an entry was put: it stays whole, or becomes two.
use Rattle.std.specs.Prelude.{◌≡◌, ℕ, suc, zero, ◌<◌, ◌≤◌, List, [], ◌∷◌, ◌++◌, length, take, drop, Option, Some, None}
use Rattle.rss_base.specs.Entries.{Entry, no_page}
use Rattle.rss_base.specs.Nodes.{node_most, node_least}
use Rattle.rss_levels.specs.Rows.{Cells, HoldsAt, stored, Begins}
use Rattle.rss_levels.specs.Spots.{Keeps, LosesNone}
use Rattle.rss_node.specs.declared.pair.Nodes.{Nodes}
use Rattle.rss_image.specs.Trees.{spells}
use Rattle.rss_image.specs.declared.halving.Split.{Split}

-- an entry is put at a place
abbrev pub put_at : List Entry → ℕ → Entry → List Entry
put_at entries at e = take at entries ++ e ∷ drop at entries

-- The next leaves of the two: in a leaf the new node stands between.
abbrev pub left_next : ℕ → ℕ → ℕ → ℕ
left_next zero next other = other
left_next (suc level) next other = next

abbrev pub right_next : ℕ → ℕ → ℕ
right_next zero next = next
right_next (suc level) next = no_page

-- the node has these entries now
pub record Whole (of : Nodes) (level number next : ℕ) (entries : List Entry) (old new : Cells) : Type 0 where
  pub held : HoldsAt (spells of) new level number next entries
  pub few : length entries ≤ node_most of.width
  pub keeps : Keeps (number ∷ []) old new
  pub loses_none : LosesNone (number ∷ []) (number ∷ []) old new

-- the node has the first of these entries now, and another one the rest, from this pair on
pub record Halved (of : Nodes) (level number next : ℕ) (entries : List Entry) (pair : List ℕ) (other : ℕ) (old new : Cells) : Type 0 where
  pub left : List Entry
  pub right : List Entry
  pub entries_are : entries ≡ left ++ right
  pub many : node_most of.width < length entries
  pub begins : Begins pair right
  pub left_full : node_least of.width < length left
  pub right_full : node_least of.width ≤ length right
  pub left_few : length left ≤ node_most of.width
  pub right_few : length right ≤ node_most of.width
  pub left_held : HoldsAt (spells of) new level number (left_next level next other) left
  pub right_held : HoldsAt (spells of) new level other (right_next level next) (stored of.width level right)
  pub fresh : old other ≡ None
  pub keeps : Keeps (number ∷ []) old new
  pub loses_none : LosesNone (number ∷ []) (number ∷ other ∷ []) old new

abbrev pub Grown : Nodes → ℕ → ℕ → ℕ → List Entry → Cells → Cells → Option Split → Type 0
Grown of level number next entries old new None = Whole of level number next entries old new
Grown of level number next entries old new (Some split) = Halved of level number next entries split.pair split.number old new
