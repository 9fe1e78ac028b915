-- One node of a row, replaced.
use Rattle.std.specs.Prelude.{◌≡◌, ◌⊎◌, ℕ, ◌<◌, ◌≤◌, List, [], ◌∷◌, length, None}
use Rattle.rss_base.specs.Entries.{Entry}
use Rattle.rss_base.specs.Nodes.{node_most, node_least}
use Rattle.rss_levels.specs.Entries.{Each}
use Rattle.rss_levels.specs.Rows.{Part, Row, Cells, Spell, HoldsRow, HasHead, items, numbers}
use Rattle.rss_levels.specs.Spots.{Keeps, LosesNone}

-- In place of a node stand one or two, which have these entries together. The first one has the old one's page and bound, and the second one's page wasn't mapped.
pub record Replaces (spell : Spell) (old new : Cells) (width level : ℕ) (here : Part) (next : ℕ) (entries : List Entry) (head : Part) (extra : Row) : Type 0 where
  pub number_is : head.number ≡ here.number
  pub low_is : head.low ≡ here.low
  pub entries_are : items (head ∷ extra) ≡ entries
  pub some : 0 < length head.items
  pub heads : Each HasHead extra
  pub few_extra : length extra ≤ 1
  pub held : HoldsRow spell new width level (head ∷ extra) next
  pub few : Each (λ p. length p.items ≤ node_most width) (head ∷ extra)
  pub full : (n : ℕ) → n ≤ node_least width → (n ≤ length here.items) ⊎ (0 < length extra) → Each (λ p. n ≤ length p.items) (head ∷ extra)
  pub split_full : 0 < length extra → node_most width < length entries
  pub fresh : Each (λ p. old p.number ≡ None) extra
  pub keeps : Keeps (here.number ∷ []) old new
  pub loses_none : LosesNone (here.number ∷ []) (numbers (head ∷ extra)) old new
