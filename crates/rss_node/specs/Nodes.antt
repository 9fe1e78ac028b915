-- A node as the bytes of its page.
use Rattle.std.specs.Prelude.{◌≡◌, ℕ, suc, zero, ◌+◌, ◌<◌, ◌≤◌, Bool, true, false, List, [], ◌∷◌, ◌++◌, length, take, drop, replicate, get_or, slice_index, slice_index_or}
use Rattle.std.specs.Int.{w16, w32, to_be_bytes, from_be_bytes}
use Rattle.rss_base.specs.Sizes.{page_bytes}
use Rattle.rss_base.specs.Entries.{Entry, IsLess, no_page}
use Rattle.rss_base.specs.Nodes.{node_most}
use Rattle.rss_node.specs.declared.pair.Nodes.{Nodes}

-- what a node says
pub record NodeView : Type 0 where
  pub width : ℕ
  pub segment : ℕ
  pub image : ℕ
  pub level : ℕ
  pub number : ℕ
  pub next : ℕ
  pub entries : List Entry

-- so many bytes, from a place on
abbrev pub part : List ℕ → ℕ → ℕ → List ℕ
part bytes at count = take count (drop at bytes)

-- a page, with these bytes written from a place on
abbrev pub put : List ℕ → ℕ → List ℕ → List ℕ
put page at bytes = take at page ++ bytes ++ drop (at + length bytes) page

-- the entry at the front of bytes
abbrev pub entry_from : ℕ → List ℕ → Entry
entry_from width bytes = record { pair = take (width + 6) bytes; child = from_be_bytes w32 (part bytes (width + 6) 4) }

-- so many entries, one behind the other
abbrev pub entries_from : ℕ → ℕ → List ℕ → List Entry
entries_from width zero bytes = []
entries_from width (suc count) bytes = entry_from width bytes ∷ entries_from width count (drop (width + 10) bytes)

abbrev pub count_of : List ℕ → ℕ
count_of page = from_be_bytes w16 (part page 8 2)

-- what a node page says, where keys have this width
abbrev pub node_from : ℕ → List ℕ → NodeView
node_from width page = record {
  width = width;
  segment = slice_index page 1;
  image = slice_index page 2;
  level = slice_index page 3;
  number = from_be_bytes w32 (part page 4 4);
  next = from_be_bytes w32 (part page 12 4);
  entries = entries_from width (count_of page) (drop 32 page);
}

-- the numbers are bytes
abbrev pub IsBytes : List ℕ → Type 0
IsBytes bytes = (i : ℕ) → get_or bytes i 0 < 256

-- the identifiers and the children of so many entries are spelled by bytes
abbrev pub AreSpelled : ℕ → ℕ → List ℕ → Type 0
AreSpelled width zero bytes = Unit {0}
AreSpelled width (suc count) bytes = IsBytes (part bytes width 10) × AreSpelled width count (drop (width + 10) bytes)

-- the page is one of a node: its mark, its zeros, no more entries than it has room for, and bytes where it spells numbers
pub record IsNodePage (width : ℕ) (page : List ℕ) : Type 0 where
  pub wide : 1 ≤ width
  pub narrow : width ≤ 120
  pub size : length page ≡ page_bytes
  pub mark : slice_index page 0 ≡ 3
  pub gap : part page 10 2 ≡ replicate 2 0
  pub rest : part page 16 16 ≡ replicate 16 0
  pub few : count_of page ≤ node_most width
  pub header : IsBytes (part page 3 13)
  pub entries : AreSpelled width (count_of page) (drop 32 page)

-- a page in memory that is one of a node
pub record IsOwnPage (width : ℕ) (page : List ℕ) : Type 0 where
  pub formed : IsNodePage width page
  pub bytes : IsBytes page

-- the page says this of a node
pub record Spells (page : List ℕ) (node : NodeView) : Type 0 where
  pub formed : IsNodePage node.width page
  pub says : node_from node.width page ≡ node

-- some entries, from a place on, are put in place of so many
abbrev pub spliced : List Entry → ℕ → ℕ → List Entry → List Entry
spliced entries at removed news = take at entries ++ (news ++ drop (at + removed) entries)

abbrev pub with_entries : NodeView → List Entry → NodeView
with_entries node entries = record node { entries = entries }

-- stands for an entry past the end
abbrev pub no_entry : Entry
no_entry = record { pair = []; child = 0 }

abbrev pub entry_at : List Entry → ℕ → Entry
entry_at entries at = slice_index_or entries at no_entry

abbrev pub with_next : NodeView → ℕ → NodeView
with_next node next = record node { next = next }

-- the pair of an entry is passed by a search for the first that is above a pair, or at or above it
abbrev pub IsPassed : Bool → List ℕ → List ℕ → Type 0
IsPassed true pair target = IsLess target pair → ⊥
IsPassed false pair target = IsLess pair target

-- ---- the nodes of an image

-- a width of keys, and a segment
pub record AreNodes (of : Nodes) : Type 0 where
  pub wide : 1 ≤ of.width
  pub narrow : of.width ≤ 120
  pub low : 1 ≤ of.segment
  pub high : of.segment ≤ 8

-- a node of this image, at a level and in the page of a number
pub record IsNodeOf (of : Nodes) (level number : ℕ) (node : NodeView) : Type 0 where
  pub width : node.width ≡ of.width
  pub segment : node.segment ≡ of.segment
  pub image : node.image ≡ of.image
  pub level_is : node.level ≡ level
  pub number_is : node.number ≡ number

abbrev pub blank_node : Nodes → ℕ → ℕ → NodeView
blank_node of level number = record { width = of.width; segment = of.segment; image = of.image; level = level; number = number; next = no_page; entries = [] }

abbrev pub header_bytes : Nodes → ℕ → ℕ → List ℕ
header_bytes of level number = 3 ∷ of.segment ∷ of.image ∷ level ∷ (to_be_bytes w32 number ++ (replicate 4 0 ++ (replicate 4 255 ++ replicate 16 0)))

-- the bytes are those of a node of this level and number
pub record HasForm (of : Nodes) (level number : ℕ) (page : List ℕ) : Type 0 where
  pub few : count_of page ≤ node_most of.width
  pub front : part page 0 8 ≡ 3 ∷ of.segment ∷ of.image ∷ level ∷ to_be_bytes w32 number
  pub gap : part page 10 2 ≡ replicate 2 0
  pub rest : part page 16 16 ≡ replicate 16 0
