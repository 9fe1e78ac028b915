-- What is asked of a node by itself, where an image is checked.
use Rattle.std.specs.Prelude.{◌≡◌, ℕ, ◌<◌, true, List, Option, Some, None}
use Rattle.rss_base.specs.Entries.{Entry, IsLess, no_page}
use Rattle.rss_levels.specs.Entries.{Each, Pairwise, zeros}
use Rattle.rss_levels.specs.Rows.{Begins}
use Rattle.rss_node.specs.declared.pair.Nodes.{Nodes}
use Rattle.rss_image.specs.Trees.{spells}
use Rattle.rss_image.specs.Images.{has_slot, has_page}

-- an entry has an identifier that may be a tuple's, and in a leaf no child
pub record IsFineEntry (width slots level : ℕ) (e : Entry) : Type 0 where
  pub slot : has_slot width e.pair ≡ true
  pub page : has_page width slots e.pair ≡ true
  pub childless : level ≡ 0 → e.child ≡ 0

-- An inner node has no next leaf, and zeros for its first pair.
pub record IsBranch (width next : ℕ) (entries : List Entry) : Type 0 where
  pub last : next ≡ no_page
  pub begins : Begins (zeros width) entries

-- a node of a level, by itself
pub record IsFit (width slots level next : ℕ) (entries : List Entry) : Type 0 where
  pub entries_are : Each (IsFineEntry width slots level) entries
  pub branch : 0 < level → IsBranch width next entries

-- the bytes spell such a node
pub record IsFine (of : Nodes) (slots : ℕ) (bytes : List ℕ) (level number next : ℕ) (entries : List Entry) : Type 0 where
  pub spelled : spells of bytes level number next entries
  pub fit : IsFit of.width slots level next entries

-- ---- the order of a leaf

-- below a bound, where there is one
abbrev pub IsUnderLimit : Option (List ℕ) → List ℕ → Type 0
IsUnderLimit None pair = Unit {0}
IsUnderLimit (Some limit) pair = IsLess pair limit

-- the entries rise from a bound on, and end before another one
pub record AreBetween (low : List ℕ) (entries : List Entry) (limit : Option (List ℕ)) : Type 0 where
  pub bounds : IsUnderLimit limit low
  pub above : Each (λ e. IsLess e.pair low → ⊥) entries
  pub rises : Pairwise (λ a b. IsLess a.pair b.pair) entries
  pub below : Each (λ e. IsUnderLimit limit e.pair) entries
