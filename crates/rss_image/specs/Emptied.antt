-- The pages under a node are given.
use Rattle.std.specs.Prelude.{◌≡◌, ◌≢◌, ℕ, zero, suc, ◌+◌, ◌*◌, List, []}
use Rattle.rss_base.specs.Paged.{Held}
use Rattle.rss_base.specs.Steps.{PagesView}
use Rattle.rss_base.specs.Nodes.{node_most}
use Rattle.rss_levels.specs.Entries.{Pairwise}
use Rattle.rss_levels.specs.Rows.{Part, Row}
use Rattle.rss_levels.specs.Nested.{IsUnder}
use Rattle.rss_node.specs.declared.pair.Nodes.{Nodes}
use Rattle.rss_image.specs.Trees.{cells_of, spells, KeepsPages, LosesNoPage}

-- how many nodes above the leaves there are at most under a node of a level
abbrev pub inner_most : ℕ → ℕ → ℕ
inner_most width zero = 0
inner_most width (suc level) = 1 + node_most width * inner_most width level

-- the page of this number is a node's, under which these pages stand, each once
pub record StandsAt (of : Nodes) (held : Held) (level number : ℕ) (ns : List ℕ) : Type 0 where
  pub part : Part
  pub leaves : Row
  pub end : ℕ
  pub number_is : part.number ≡ number
  pub under : IsUnder (spells of) (cells_of of held) of.width level part ns leaves end
  pub distinct : Pairwise (λ a b. a ≢ b) ns

pub record HasUnder (of : Nodes) (held : Held) (level number : ℕ) : Type 0 where
  pub pages : List ℕ
  pub stands : StandsAt of held level number pages

-- these pages of the image aren't mapped any longer, and the others of the segment are as they were
pub record Gives (of : Nodes) (ns : List ℕ) (old new : PagesView) : Type 0 where
  pub keeps : KeepsPages of ns old new
  pub loses_none : LosesNoPage of ns [] old new

-- all pages under a node are given
abbrev pub GivesUnder : Nodes → ℕ → ℕ → PagesView → PagesView → Type 0
GivesUnder of level number old new = (ns : List ℕ) → StandsAt of old.held level number ns → Gives of ns old new
