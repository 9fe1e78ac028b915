-- A tree as its rows: the nodes of one level, from left to right.
use Rattle.std.specs.Prelude.{◌≡◌, ◌≢◌, ℕ, suc, zero, ◌<◌, ◌≤◌, List, [], ◌∷◌, length, map, Option, Some}
use Rattle.std.specs.List.{flat_map}
use Rattle.std.specs.Ordering.{nat_cmp, on, then_cmp}
use Rattle.std.specs.declared.cmp.Ordering.{Ordering}
use Rattle.std.specs.declared.cmp.Ordering.TheVariants.{Less}
use Rattle.std.specs.Cmp.Lexicographic.{slice_cmp}
use Rattle.rss_base.specs.Entries.{Entry, no_page}
use Rattle.rss_base.specs.Nodes.{node_most, node_least}
use Rattle.rss_levels.specs.Entries.{Each, Pairwise, zeros}

-- A node of a row: its page's number, the bound below its entries, and its entries, each with its true pair.
pub record Part : Type 0 where
  pub number : ℕ
  pub low : List ℕ
  pub items : List Entry

abbrev pub Row : Type 0
Row = List Part

-- all entries of a row
abbrev pub items : Row → List Entry
items row = flat_map (λ p. p.items) row

-- what the row above says of a node, and of all nodes of a row
abbrev pub name : Part → Entry
name p = record { pair = p.low; child = p.number }

abbrev pub names : Row → List Entry
names row = map name row

abbrev pub numbers : Row → List ℕ
numbers row = map (λ p. p.number) row

abbrev pub pages : List Row → List ℕ
pages rows = flat_map numbers rows

-- ---- order

-- The bounds and the entries of a row in one list: a bound stands before an entry of the same pair.
pub record Mark : Type 0 where
  pub pair : List ℕ
  pub rank : ℕ

abbrev pub mark_cmp : Mark → Mark → Ordering
mark_cmp = then_cmp (on (λ m. m.pair) (slice_cmp nat_cmp)) (on (λ m. m.rank) nat_cmp)

pub record IsBefore (m n : Mark) : Type 0 where
  pub is : mark_cmp m n ≡ Less

abbrev pub fence : List ℕ → Mark
fence low = record { pair = low; rank = 0 }

abbrev pub item : Entry → Mark
item e = record { pair = e.pair; rank = 1 }

abbrev pub marks_of : Part → List Mark
marks_of p = fence p.low ∷ map item p.items

abbrev pub marks : Row → List Mark
marks row = flat_map marks_of row

-- ---- what pages hold

-- what the page of each number holds, where it is mapped
abbrev pub Cells : Type 0
Cells = ℕ → Option (List ℕ)

-- these bytes spell a node of this level and number, with this next leaf and these entries
abbrev pub Spell : Type 1
Spell = List ℕ → ℕ → ℕ → ℕ → List Entry → Type 0

-- the page of this number holds such a node
pub record HoldsAt (spell : Spell) (cells : Cells) (level number next : ℕ) (entries : List Entry) : Type 0 where
  pub bytes : List ℕ
  pub held : cells number ≡ Some bytes
  pub spells : spell bytes level number next entries

abbrev pub first : Row → ℕ → ℕ
first [] end = end
first (p ∷ row) end = p.number

-- the next leaf of a node with these to its right; an inner node has none
abbrev pub link : ℕ → Row → ℕ → ℕ
link zero row end = first row end
link (suc level) row end = no_page

-- the entries as they stand in a node: in an inner one the first has zeros for its pair
abbrev pub blanked : ℕ → List Entry → List Entry
blanked width [] = []
blanked width (e ∷ es) = record { pair = zeros width; child = e.child } ∷ es

abbrev pub stored : ℕ → ℕ → List Entry → List Entry
stored width zero es = es
stored width (suc level) es = blanked width es

-- the pages hold the nodes of a row, or of a part of one, with this leaf behind it
abbrev pub HoldsRow : Spell → Cells → ℕ → ℕ → Row → ℕ → Type 0
HoldsRow spell cells width level [] end = Unit {0}
HoldsRow spell cells width level (p ∷ row) end = HoldsAt spell cells level p.number (link level row end) (stored width level p.items) × HoldsRow spell cells width level row end

-- ---- rows and trees

-- a node's first entry has the pair of its bound
abbrev pub Begins : List ℕ → List Entry → Type 0
Begins low [] = ⊥
Begins low (e ∷ es) = e.pair ≡ low

abbrev pub HasHead : Part → Type 0
HasHead p = Begins p.low p.items

pub record IsRow (spell : Spell) (cells : Cells) (width level : ℕ) (row : Row) : Type 0 where
  pub held : HoldsRow spell cells width level row no_page
  pub few : Each (λ p. length p.items ≤ node_most width) row

abbrev pub leaf_entry : List ℕ → Entry
leaf_entry pair = record { pair = pair; child = 0 }

-- the leaves have these pairs, which rise, and each is at or above its leaf's bound and below the next one's
pub record IsLeaves (pairs : List (List ℕ)) (row : Row) : Type 0 where
  pub pairs_are : items row ≡ map leaf_entry pairs
  pub rises : Pairwise IsBefore (marks row)

-- the entries of a row are those that name the nodes of the row below it, and each of these is filled
pub record IsAbove (width : ℕ) (row lower : Row) : Type 0 where
  pub heads : Each HasHead row
  pub names_are : items row ≡ names lower
  pub full : Each (λ p. node_least width ≤ length p.items) lower

-- the rows from one down to the leaves, with these pairs
abbrev pub IsStack : Spell → Cells → ℕ → List (List ℕ) → List Row → Type 0
IsStack spell cells width pairs [] = ⊥
IsStack spell cells width pairs (row ∷ []) = IsRow spell cells width 0 row × IsLeaves pairs row
IsStack spell cells width pairs (row ∷ lower ∷ rows) = IsRow spell cells width (suc (length rows)) row × IsAbove width row lower × IsStack spell cells width pairs (lower ∷ rows)

abbrev pub AreDistinct : List Row → Type 0
AreDistinct rows = Pairwise (λ a b. a ≢ b) (pages rows)

-- a tree with this root: one node in the top row, with at least two entries where it isn't a leaf, and each page reached once
pub record IsTree (spell : Spell) (cells : Cells) (width root levels : ℕ) (pairs : List (List ℕ)) (top : Part) (lower : List Row) : Type 0 where
  pub stack : IsStack spell cells width pairs ((top ∷ []) ∷ lower)
  pub at_root : top.number ≡ root
  pub low : top.low ≡ zeros width
  pub high : levels ≡ suc (length lower)
  pub branches : 0 < length lower → 2 ≤ length top.items
  pub distinct : AreDistinct ((top ∷ []) ∷ lower)
