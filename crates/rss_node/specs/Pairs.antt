-- A pair as bytes.
use Rattle.std.specs.Prelude.{◌≡◌, ℕ, List, ◌++◌, ◌<◌, ◌+◌, ◌==◌, if◌then◌else◌, length, take, drop, map, Option, Some, None}
use Rattle.std.specs.Int.{w16, w32, from_be_bytes}
use Rattle.rss_base.specs.Sizes.{page_entries}
use Rattle.rss_base.specs.Nodes.{NodeEntry, Node, NodesOf}
use Rattle.rss_base.specs.Trees.{Pair}
use Rattle.rss_base.specs.Entries.{Entry, no_page}
use Rattle.rss_node.specs.Nodes.{NodeView, IsBytes, part}
use Rattle.rss_base.specs.LogRecords.{tid_bytes}
use Rattle.rss_base.specs.declared.tid.Tid.{Tid}

-- those of the key, and those of the identifier
abbrev pub pair_bytes : List ℕ → Tid → List ℕ
pair_bytes key tid = key ++ tid_bytes tid

-- as long as a pair of keys of this width is, with bytes behind the key
pub record IsWhole (width : ℕ) (pair : List ℕ) : Type 0 where
  pub long : length pair ≡ width + 6
  pub bytes : IsBytes (part pair width 6)

-- ---- a node by its definition in the base

abbrev pub key_from : ℕ → List ℕ → List ℕ
key_from width pair = take width pair

abbrev pub tid_from : ℕ → List ℕ → Tid
tid_from width pair = record { page = from_be_bytes w32 (take 4 (drop width pair)); slot = from_be_bytes w16 (take 2 (drop (width + 4) pair)) }

-- what these bytes say of a pair
abbrev pub pair_from : ℕ → List ℕ → Pair
pair_from width pair = record { key = key_from width pair; tid = tid_from width pair }

abbrev pub node_entry : ℕ → Entry → NodeEntry
node_entry width e = record { key = key_from width e.pair; tid = tid_from width e.pair; child = e.child }

abbrev pub next_from : ℕ → Option ℕ
next_from next = if next == 4294967295 then None else Some next

-- what a page says of a node, by that definition
abbrev pub base_node : NodeView → Node
base_node node = record { level = node.level; next = next_from node.next; entries = map (node_entry node.width) node.entries }

-- the identifier behind a key of this width names an entry that a page may have
abbrev pub HasSlot : ℕ → Entry → Type 0
HasSlot width e = (tid_from width e.pair).slot < page_entries

abbrev pub nodes_of_node : NodeView → NodesOf
nodes_of_node node = record { segment = node.segment; image = node.image; width = node.width }

-- ---- and back

abbrev pub entry_of : NodeEntry → Entry
entry_of e = record { pair = pair_bytes e.key e.tid; child = e.child }

abbrev pub next_number : Option ℕ → ℕ
next_number None = no_page
next_number (Some next) = next

-- what a node of that definition says
abbrev pub view_of : NodesOf → ℕ → Node → NodeView
view_of of number node = record { width = of.width; segment = of.segment; image = of.image; level = node.level; number = number; next = next_number node.next; entries = map entry_of node.entries }
