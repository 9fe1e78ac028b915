-- A pair is sought under a node.
use Rattle.std.specs.Prelude.{◌≡◌, ℕ, ◌+◌, ◌-◌, ◌<◌, ◌≤◌, Bool, true, List, Some, length}
use Rattle.rss_base.specs.Paged.{Held}
use Rattle.rss_base.specs.Entries.{Entry}
use Rattle.rss_levels.specs.Entries.{Each}
use Rattle.rss_node.specs.Nodes.{NodeView, IsNodeOf, Spells, IsPassed, entry_at}
use Rattle.rss_node.specs.declared.pair.Nodes.{Nodes}
use Rattle.rss_image.specs.Trees.{cells_of, HoldsNode}
use Rattle.rss_image.specs.Inserted.{ImageSpot}
use Rattle.rss_image.specs.declared.seeking.InLeaf.{InLeaf}
use Rattle.rss_image.specs.declared.seeking.InLeaf.TheVariants.{Here, Next}

-- The pairs under these rows are these, and the nodes to the right have entries.
pub record MaySeek (of : Nodes) (held : Held) (level number : ℕ) (pair : List ℕ) (pairs : List (List ℕ)) : Type 0 where
  pub spot : ImageSpot of held level number pair pairs
  pub filled : Each (λ p. 0 < length p.items) spot.after

pub record HasPlace (of : Nodes) (held : Held) (level number : ℕ) (pair : List ℕ) : Type 0 where
  pub pairs : List (List ℕ)
  pub may : MaySeek of held level number pair pairs

-- ---- what stands in a page

-- a pair belongs under the node of this page
pub record HasSpot (of : Nodes) (held : Held) (level number : ℕ) (pair : List ℕ) : Type 0 where
  pub pairs : List (List ℕ)
  pub spot : ImageSpot of held level number pair pairs

-- the page of this number holds a leaf with entries
pub record HasEntries (of : Nodes) (held : Held) (number : ℕ) : Type 0 where
  pub next : ℕ
  pub entries : List Entry
  pub holds : HoldsNode of held 0 number next entries
  pub some : 0 < length entries

-- the page of this number is mapped, and its bytes are such
pub record HasPage (of : Nodes) (held : Held) (number : ℕ) (IsSuch : List ℕ → Type 0) : Type 0 where
  pub page : List ℕ
  pub held_is : cells_of of held number ≡ Some page
  pub such : IsSuch page

-- The page spells a node of this level, and this is the child of the last entry that a search for a pair passes.
pub record GoesBelow (of : Nodes) (level number : ℕ) (page pair : List ℕ) (child : ℕ) : Type 0 where
  pub node : NodeView
  pub spelled : Spells page node
  pub is : IsNodeOf of level number node
  pub at : ℕ
  pub some : 0 < at
  pub low : at ≤ length node.entries
  pub passed : IsPassed true (entry_at node.entries (at - 1)).pair pair
  pub above : at < length node.entries → IsPassed true (entry_at node.entries at).pair pair → ⊥
  pub child_is : child ≡ (entry_at node.entries (at - 1)).child

-- in no node that the page spells does a search for a pair pass the first entry
abbrev pub NeverBelow : Nodes → ℕ → ℕ → List ℕ → List ℕ → Type 0
NeverBelow of level number page pair = (node : NodeView) → IsNodeOf of level number node → Spells page node → 0 < length node.entries
    → IsPassed true (entry_at node.entries 0).pair pair → ⊥

-- what a search finds that ends at a place of a leaf
abbrev pub IsFound : NodeView → ℕ → InLeaf → Type 0
IsFound node at (Here found) = (at < length node.entries) × (found ≡ (entry_at node.entries at).pair)
IsFound node at (Next next) = (length node.entries ≤ at) × (next ≡ node.next)

-- the page spells a leaf, and a search for a pair finds this there
pub record LooksIn (of : Nodes) (number : ℕ) (page pair : List ℕ) (beyond : Bool) (found : InLeaf) : Type 0 where
  pub node : NodeView
  pub spelled : Spells page node
  pub is : IsNodeOf of 0 number node
  pub at : ℕ
  pub within : at ≤ length node.entries
  pub before : 0 < at → IsPassed beyond (entry_at node.entries (at - 1)).pair pair
  pub here : at < length node.entries → IsPassed beyond (entry_at node.entries at).pair pair → ⊥
  pub found_is : IsFound node at found

-- a pair that was found is as long as those of keys of this width
abbrev pub IsAsLong : ℕ → InLeaf → Type 0
IsAsLong width (Here found) = length found ≡ width + 6
IsAsLong width (Next next) = Unit {0}

-- the page spells no leaf with entries
abbrev pub NeverBegins : Nodes → ℕ → List ℕ → Type 0
NeverBegins of number page = (node : NodeView) → IsNodeOf of 0 number node → Spells page node → 0 < length node.entries → ⊥
