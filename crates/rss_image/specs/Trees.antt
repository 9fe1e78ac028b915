-- An image as a tree over pages.
use Rattle.std.specs.Prelude.{ℕ, List, [], ◌∷◌}
use Rattle.rss_base.specs.Paged.{Held, page_key}
use Rattle.rss_base.specs.Steps.{PagesView}
use Rattle.rss_base.specs.declared.key.Space.TheVariants.{Image}
use Rattle.rss_base.specs.Entries.{Entry}
use Rattle.rss_levels.specs.Rows.{Cells, Spell, HoldsAt}
use Rattle.rss_levels.specs.Spots.{Keeps, LosesNone}
use Rattle.rss_node.specs.Nodes.{NodeView, Spells}
use Rattle.rss_node.specs.declared.pair.Nodes.{Nodes}

-- what the image pages of a segment hold
abbrev pub cells_of : Nodes → Held → Cells
cells_of of held number = held (page_key of.segment Image number)

abbrev pub node_of : Nodes → ℕ → ℕ → ℕ → List Entry → NodeView
node_of of level number next entries = record { width = of.width; segment = of.segment; image = of.image; level = level; number = number; next = next; entries = entries }

-- the bytes spell a node of this image
abbrev pub spells : Nodes → Spell
spells of bytes level number next entries = Spells bytes (node_of of level number next entries)

-- the page of this number holds this node
abbrev pub HoldsNode : Nodes → Held → ℕ → ℕ → ℕ → List Entry → Type 0
HoldsNode of held level number next entries = HoldsAt (spells of) (cells_of of held) level number next entries

-- the page of this number holds a node of this level
pub record HasNode (of : Nodes) (held : Held) (level number : ℕ) : Type 0 where
  pub next : ℕ
  pub entries : List Entry
  pub holds : HoldsNode of held level number next entries

-- all image pages of the segment but these are as they were
abbrev pub KeepsPages : Nodes → List ℕ → PagesView → PagesView → Type 0
KeepsPages of touched old new = Keeps touched (cells_of of old.held) (cells_of of new.held)

-- each image page of the segment that was one's own, or wasn't mapped, is so now
abbrev pub LosesNoPage : Nodes → List ℕ → List ℕ → PagesView → PagesView → Type 0
LosesNoPage of own now old new = LosesNone own now (cells_of of old.held) (cells_of of new.held)

-- a node is written
pub record Writes (of : Nodes) (level number : ℕ) (node : NodeView) (old new : PagesView) : Type 0 where
  pub holds : HoldsNode of new.held level number node.next node.entries
  pub keeps : KeepsPages of (number ∷ []) old new
  pub loses_none : LosesNoPage of (number ∷ []) (number ∷ []) old new
