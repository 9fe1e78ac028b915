-- The nodes of a tree, each with those under it.
use Rattle.std.specs.Prelude.{◌≡◌, ◌≢◌, ℕ, suc, ◌≤◌, List, [], ◌∷◌, ◌++◌, length}
use Rattle.rss_base.specs.Nodes.{node_least}
use Rattle.rss_levels.specs.Entries.{Each, Pairwise, IsIn}
use Rattle.rss_base.specs.Entries.{no_page}
use Rattle.rss_levels.specs.Rows.{Part, Row, Cells, Spell, HoldsAt, HasHead, first, names, stored}

mutual
  -- Under a node stand these pages, its own among them, and these leaves, with this leaf behind them.
  pub data IsUnder (spell : Spell) (cells : Cells) (width : ℕ) : ℕ → Part → List ℕ → Row → ℕ → Type 0 where
    leaf_under : {p : Part} {end : ℕ} → HoldsAt spell cells 0 p.number end p.items → IsUnder spell cells width 0 p (p.number ∷ []) (p ∷ []) end
    inner_under : {level : ℕ} {p : Part} {row : Row} {ns : List ℕ} {leaves : Row} {end : ℕ}
        → HoldsAt spell cells (suc level) p.number no_page (stored width (suc level) p.items)
        → HasHead p
        → p.items ≡ names row
        → Each (λ q. node_least width ≤ length q.items) row
        → AreUnder spell cells width level row ns leaves end
        → IsUnder spell cells width (suc level) p (p.number ∷ ns) leaves end

  -- The same of nodes that stand side by side.
  pub data AreUnder (spell : Spell) (cells : Cells) (width : ℕ) : ℕ → Row → List ℕ → Row → ℕ → Type 0 where
    none_under : {level end : ℕ} → AreUnder spell cells width level [] [] [] end
    more_under : {level : ℕ} {p : Part} {row : Row} {ns ms : List ℕ} {leaves more : Row} {end : ℕ}
        → IsUnder spell cells width level p ns leaves (first more end)
        → AreUnder spell cells width level row ms more end
        → AreUnder spell cells width level (p ∷ row) (ns ++ ms) (leaves ++ more) end

-- the same numbers, in whatever order
pub record AreSameNumbers (ns ms : List ℕ) : Type 0 where
  pub into : (n : ℕ) → IsIn ns n → IsIn ms n
  pub back : (n : ℕ) → IsIn ms n → IsIn ns n
  pub distinct : Pairwise (λ a b. a ≢ b) ms → Pairwise (λ a b. a ≢ b) ns
