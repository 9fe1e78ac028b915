-- The nodes of an image: the bytes of their pages.
use Rattle.std.specs.Prelude.{◌≡◌, ℕ, ◌+◌, ◌-◌, ◌/◌, ◌^◌, ◌<◌, ◌≤◌, List, ◌∷◌, ◌++◌, length, replicate, flat_map, take, All, Option, Some, None, IfSome}
use Rattle.std.specs.Int.{w16, w32, to_be_bytes}
use Rattle.rss_base.specs.Sizes.{page_bytes, page_entries}
use Rattle.rss_base.specs.LogRecords.{tid_bytes}
use Rattle.rss_base.specs.declared.tid.Tid.{Tid}

-- an entry of a node: a key and an identifier, and the page of a child, which in a leaf is 0
pub record NodeEntry : Type 0 where
  pub key : List ℕ
  pub tid : Tid
  pub child : ℕ

-- a node: its level, where a leaf has 0, the page of the next leaf, and its entries in their order
pub record Node : Type 0 where
  pub level : ℕ
  pub next : Option ℕ
  pub entries : List NodeEntry

-- whose page it is: the image by its segment and its number, and how many bytes its keys have
pub record NodesOf : Type 0 where
  pub segment : ℕ
  pub image : ℕ
  pub width : ℕ

-- ---- measures

-- how many bytes the header of a node has
abbrev pub node_header : ℕ
node_header = 32

-- how many bytes an entry has beside its key
abbrev pub node_entry_bytes : ℕ
node_entry_bytes = 10

-- how many entries a node has at most, by the width of its keys
abbrev pub node_most : ℕ → ℕ
node_most width = (page_bytes - node_header) / (width + node_entry_bytes)

-- and how many at least, but the root
abbrev pub node_least : ℕ → ℕ
node_least width = node_most width / 2

-- ---- bytes

abbrev pub node_entry_spelled : NodeEntry → List ℕ
node_entry_spelled entry = entry.key ++ (tid_bytes entry.tid ++ to_be_bytes w32 entry.child)

-- the page of the next leaf, and four bytes of 255 where there is none
abbrev pub next_spelled : Option ℕ → List ℕ
next_spelled None = replicate 4 255
next_spelled (Some next) = to_be_bytes w32 next

-- the header and the entries: the space of images, the segment, the image, the level, the page's number, the number of entries, two zeros, the next leaf, and zeros
abbrev pub node_spelled : NodesOf → ℕ → Node → List ℕ
node_spelled of number node =
    3 ∷ of.segment ∷ of.image ∷ node.level ∷ (to_be_bytes w32 number
    ++ (to_be_bytes w16 (length node.entries) ++ 0 ∷ 0 ∷ (next_spelled node.next
    ++ (replicate 16 0 ++ flat_map node_entry_spelled node.entries))))

-- the key has as many bytes as keys of the image have, and the identifier and the child can be spelled
pub record IsNodeEntry (width : ℕ) (entry : NodeEntry) : Type 0 where
  pub key : length entry.key ≡ width
  pub page : entry.tid.page < 2 ^ 32
  pub slot : entry.tid.slot < page_entries
  pub child : entry.child < 2 ^ 32

-- The page begins with the header and the entries of this node. What stands behind them means nothing.
pub record IsNodePage (of : NodesOf) (number : ℕ) (bytes : List ℕ) (node : Node) : Type 0 where
  pub size : length bytes ≡ page_bytes
  pub spelled : take (length (node_spelled of number node)) bytes ≡ node_spelled of number node
  pub few : length node.entries ≤ node_most of.width
  pub each : All (IsNodeEntry of.width) node.entries
  pub level : node.level < 2 ^ 8
  pub next : IfSome node.next (λ next. next < 2 ^ 32 - 1)
