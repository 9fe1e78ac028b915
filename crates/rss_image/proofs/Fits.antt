-- A node that fits by itself, by the bytes of its page.
use Rattle.std.proofs.Common.{◌≡◌, ◌≤◌, ℕ, List, length, subst, Some}
use Rattle.rss_base.specs.Paged.{Held}
use Rattle.rss_base.specs.Entries.{Entry}
use Rattle.rss_levels.specs.Rows.{HoldsAt}
use Rattle.rss_node.specs.Nodes.{NodeView, IsNodeOf, Spells}
use Rattle.rss_node.specs.declared.pair.Nodes.{Nodes}
use Rattle.rss_image.specs.Trees.{cells_of, node_of, HoldsNode}
use Rattle.rss_image.specs.Fitting.{IsFit, IsFine}
use Rattle.rss_image.specs.Checking.{NeverFits}
use Rattle.rss_image.proofs.Calls.{node_is, is_node_of, page_spells}

-- the page holds it
pub fine_holds : (of : Nodes) (slots level number : ℕ) (held : Held) (page : List ℕ) (node : NodeView) → cells_of of held number ≡ Some page → Spells page node → IsNodeOf of level number node → IsFit node.width slots level node.next node.entries → HoldsAt (IsFine of slots) (cells_of of held) level number node.next node.entries
fine_holds of slots level number held page node there spelled is fit = record {
  bytes = page;
  held = there;
  spells = record {
    spelled = subst (λ (n : NodeView). Spells page n) (node_is of level number node is) spelled;
    fit = subst (λ (w : ℕ). IsFit w slots level node.next node.entries) is.width fit;
  };
}

-- what holds such a node holds one
pub spelled_node : (of : Nodes) (slots level number next : ℕ) (entries : List Entry) (held : Held) → HoldsAt (IsFine of slots) (cells_of of held) level number next entries → HoldsNode of held level number next entries
spelled_node of slots level number next entries held holds = record { bytes = holds.bytes; held = holds.held; spells = holds.spells.spelled }

-- if the bytes spell none, the page holds none
pub never_fits : (of : Nodes) (slots level number fewest : ℕ) (held : Held) (page : List ℕ) → cells_of of held number ≡ Some page → NeverFits of slots level number fewest page
    → (next : ℕ) (entries : List Entry) → HoldsAt (IsFine of slots) (cells_of of held) level number next entries → fewest ≤ length entries → ⊥
never_fits of slots level number fewest held page there never next entries holds many =
    never (node_of of level number next entries) (is_node_of of level number next entries) (page_spells of level number next entries held page there (spelled_node of slots level number next entries held holds)) holds.spells.fit many
