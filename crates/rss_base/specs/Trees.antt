-- The tree of an image: its nodes from the root down, and the pairs of its leaves.
use Rattle.std.specs.Prelude.{◌≡◌, ℕ, zero, suc, ◌-◌, ◌≤◌, List, [], ◌∷◌, ◌++◌, length, replicate, map, flat_map, All, Option, Some, None, ⊤}
use Rattle.std.specs.Ordering.{nat_cmp, ordering_then}
use Rattle.std.specs.Cmp.Lexicographic.{slice_cmp}
use Rattle.std.specs.declared.cmp.Ordering.{Ordering}
use Rattle.std.specs.declared.cmp.Ordering.TheVariants.{Less}
use Rattle.rss_base.specs.Paged.{Held, page_key}
use Rattle.rss_base.specs.Nodes.{NodeEntry, Node, NodesOf, IsNodePage, node_least}
use Rattle.rss_base.specs.declared.tid.Tid.{Tid}
use Rattle.rss_base.specs.declared.key.Space.TheVariants.{Image}

-- ---- pairs

-- a key and the identifier of a tuple that has it
pub record Pair : Type 0 where
  pub key : List ℕ
  pub tid : Tid

abbrev pub tid_cmp : Tid → Tid → Ordering
tid_cmp a b = ordering_then (nat_cmp a.page b.page) (nat_cmp a.slot b.slot)

-- by the key, and then by the identifier
abbrev pub pair_cmp : Pair → Pair → Ordering
pair_cmp a b = ordering_then (slice_cmp nat_cmp a.key b.key) (tid_cmp a.tid b.tid)

abbrev pub IsBelow : Pair → Pair → Type 0
IsBelow a b = pair_cmp a b ≡ Less

-- each pair is below those behind it
abbrev pub AreRising : List Pair → Type 0
AreRising [] = ⊤
AreRising (pair ∷ pairs) = All (IsBelow pair) pairs × AreRising pairs

abbrev pub pair_of : NodeEntry → Pair
pair_of entry = record { key = entry.key; tid = entry.tid }

-- a leaf's entry has no child
abbrev pub leaf_entry : Pair → NodeEntry
leaf_entry pair = record { key = pair.key; tid = pair.tid; child = 0 }

-- ---- nodes

-- a leaf, by its page and the next one's
pub record Leaf : Type 0 where
  pub number : ℕ
  pub next : Option ℕ
  pub pairs : List Pair

-- the pages of a tree, and its leaves from left to right
pub record Reached : Type 0 where
  pub pages : List ℕ
  pub leaves : List Leaf

abbrev pub pairs_of : List Leaf → List Pair
pairs_of leaves = flat_map (λ leaf. leaf.pairs) leaves

abbrev pub both_reached : Reached → Reached → Reached
both_reached first second = record {
  pages = first.pages ++ second.pages;
  leaves = first.leaves ++ second.leaves;
}

-- the page of this number holds this node
pub record IsNodeAt (held : Held) (of : NodesOf) (number : ℕ) (node : Node) : Type 0 where
  pub bytes : List ℕ
  pub there : held (page_key of.segment Image number) ≡ Some bytes
  pub is : IsNodePage of number bytes node

-- the pairs under a child lie at or above its entry, or anywhere where it is the first child, and below the next one
abbrev pub IsAtOrAbove : Option Pair → Pair → Type 0
IsAtOrAbove None pair = ⊤
IsAtOrAbove (Some least) pair = IsBelow pair least → ⊥

abbrev pub IsUnder : Option Pair → Pair → Type 0
IsUnder None pair = ⊤
IsUnder (Some limit) pair = IsBelow pair limit

-- the entry of a next child
abbrev pub limit_of : List NodeEntry → Option Pair
limit_of [] = None
limit_of (entry ∷ entries) = Some (pair_of entry)

pub record LiesBetween (least limit : Option Pair) (pairs : List Pair) : Type 0 where
  pub low : All (IsAtOrAbove least) pairs
  pub high : All (IsUnder limit) pairs

-- the first entry of an inner node has zeros for its key and its identifier
pub record IsFirstEntry (width : ℕ) (entry : NodeEntry) : Type 0 where
  pub key : entry.key ≡ replicate width 0
  pub page : entry.tid.page ≡ 0
  pub slot : entry.tid.slot ≡ 0

-- a node that is no root has so many entries at least; a root that is no leaf has two
mutual
  -- Under the page of this number stands a tree of this level, whose nodes, but for the root, are filled.
  pub data IsTree (held : Held) (of : NodesOf) : ℕ → ℕ → ℕ → Reached → Type 0 where
    is_leaf : {least number : ℕ} {next : Option ℕ} {pairs : List Pair}
        → IsNodeAt held of number (record { level = 0; next = next; entries = map leaf_entry pairs })
        → least ≤ length pairs
        → IsTree held of least 0 number (record {
          pages = number ∷ [];
          leaves = record { number = number; next = next; pairs = pairs } ∷ [];
        })
    is_inner : {least level number : ℕ} {first : NodeEntry} {entries : List NodeEntry} {reached : Reached}
        → IsNodeAt held of number (record { level = suc level; next = None; entries = first ∷ entries })
        → least ≤ length (first ∷ entries)
        → IsFirstEntry of.width first
        → AreTrees held of level None (first ∷ entries) reached
        → IsTree held of least (suc level) number (record { pages = number ∷ reached.pages; leaves = reached.leaves })

  -- The same of the children of a node, from one on.
  pub data AreTrees (held : Held) (of : NodesOf) : ℕ → Option Pair → List NodeEntry → Reached → Type 0 where
    no_child : {level : ℕ} {least : Option Pair} → AreTrees held of level least [] (record { pages = []; leaves = [] })
    one_more : {level : ℕ} {least : Option Pair} {entry : NodeEntry} {entries : List NodeEntry} {one rest : Reached}
        → IsTree held of (node_least of.width) level entry.child one
        → LiesBetween least (limit_of entries) (pairs_of one.leaves)
        → AreTrees held of level (limit_of entries) entries rest
        → AreTrees held of level least (entry ∷ entries) (both_reached one rest)

-- ---- images

-- how many entries the root has at least: none where it is a leaf, else two
abbrev pub root_least : ℕ → ℕ
root_least zero = 0
root_least (suc level) = 2

-- each leaf leads to the next one, and the last to none
abbrev pub AreChained : List Leaf → Type 0
AreChained [] = ⊤
AreChained (leaf ∷ []) = leaf.next ≡ None
AreChained (leaf ∷ other ∷ leaves) = (leaf.next ≡ Some other.number) × AreChained (other ∷ leaves)

-- Under the root of an image stands a tree of so many levels with these pairs in its leaves, and these pages.
pub record IsImage (held : Held) (of : NodesOf) (root levels : ℕ) (pages : List ℕ) (pairs : List Pair) : Type 0 where
  pub some : 1 ≤ levels
  pub reached : Reached
  pub tree : IsTree held of (root_least (levels - 1)) (levels - 1) root reached
  pub chained : AreChained reached.leaves
  pub pages_are : pages ≡ reached.pages
  pub pairs_are : pairs ≡ pairs_of reached.leaves
  pub rising : AreRising pairs
