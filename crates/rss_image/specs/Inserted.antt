-- A pair that is put under a node.
use Rattle.std.specs.Prelude.{◌≢◌, ℕ, List, [], ◌∷◌, Option, Some, None}
use Rattle.rss_base.specs.Paged.{Held}
use Rattle.rss_base.specs.Steps.{PagesView}
use Rattle.rss_base.specs.Entries.{Entry}
use Rattle.rss_levels.specs.Entries.{Each}
use Rattle.rss_levels.specs.Spots.{Spot, Inserts, HasRoom, rows_at}
use Rattle.rss_node.specs.declared.pair.Nodes.{Nodes}
use Rattle.rss_image.specs.Trees.{cells_of, spells}
use Rattle.rss_image.specs.declared.halving.Split.{Split}

-- under a node, in the pages of an image
abbrev pub ImageSpot : Nodes → Held → ℕ → ℕ → List ℕ → List (List ℕ) → Type 0
ImageSpot of held level number pair pairs = Spot (spells of) (cells_of of held) of.width level number pair pairs

-- a pair belongs there, and isn't there; and there is room for it
pub record MayInsert (of : Nodes) (held : Held) (spare : ℕ) (level number : ℕ) (pair : List ℕ) : Type 0 where
  pub pairs : List (List ℕ)
  pub spot : ImageSpot of held level number pair pairs
  pub absent : Each (λ p. p ≢ pair) pairs
  pub room : HasRoom of.width spare (rows_at spot)

-- how the row above names what was split off
abbrev pub split_names : Option Split → List Entry
split_names None = []
split_names (Some split) = record { pair = split.pair; child = split.number } ∷ []

-- the pair is put there
abbrev pub Inserted : Nodes → ℕ → ℕ → List ℕ → PagesView → PagesView → Option Split → Type 0
Inserted of level number pair old new split = (pairs : List (List ℕ)) (spot : ImageSpot of old.held level number pair pairs) → Each (λ p. p ≢ pair) pairs → Inserts spot (cells_of of new.held) (split_names split)
