-- A step down, where a pair is sought.
use Rattle.std.proofs.Common.{◌<◌, ◌≤◌, ◌-◌, ℕ, List, [], length, sym, subst, true}
use Rattle.rss_base.specs.Paged.{Held}
use Rattle.rss_base.specs.Nodes.{node_least}
use Rattle.rss_base.specs.Entries.{no_page}
use Rattle.rss_levels.specs.Rows.{Cells, first, link, stored}
use Rattle.rss_levels.proofs.Inner.{child_filled}
use Rattle.rss_levels.proofs.Spotted.{at_place, spot_holds}
use Rattle.rss_node.specs.Nodes.{NodeView, IsPassed}
use Rattle.rss_node.specs.declared.pair.Nodes.{Nodes}
use Rattle.rss_image.specs.Trees.{cells_of, spells, HasNode, HoldsNode}
use Rattle.rss_image.specs.Seeking.{MaySeek, HasPlace, HasSpot, HasPage, GoesBelow}
use Rattle.rss_image.proofs.Calls.{read_holds}
use Rattle.rss_image.proofs.Insertion.{the_child, child_is, low_here, passed_here, above_here}

-- the page of a node under which a pair belongs
pub spot_node : (of : Nodes) (held : Held) (level number : ℕ) (pair : List ℕ) → HasSpot of held level number pair → HasNode of held level number
spot_node of held level number pair has = record {
  next = link level [] (first has.spot.after no_page);
  entries = stored of.width level has.spot.here.items;
  holds = spot_holds (spells of) (cells_of of held) of.width level number pair has.pairs has.spot;
}

pub place_spot : (of : Nodes) (held : Held) (level number : ℕ) (pair : List ℕ) → HasPlace of held level number pair → HasSpot of held level number pair
place_spot of held level number pair has = record { pairs = has.pairs; spot = has.may.spot }

pub place_below : (of : Nodes) (held : Held) (level number : ℕ) (pair : List ℕ) (pairs : List (List ℕ)) → MaySeek of held level number pair pairs → (node : NodeView) → HoldsNode of held level number node.next node.entries
    → (at : ℕ) → 0 < level → 0 < at → at ≤ length node.entries → IsPassed true (at_place node.entries (at - 1)).pair pair → (at < length node.entries → IsPassed true (at_place node.entries at).pair pair → ⊥) → 0 < node_least of.width
    → MaySeek of held (level - 1) (at_place node.entries (at - 1)).child pair pairs
place_below of held level number pair pairs may node holds at inner some low passed above few =
    let old : Cells = cells_of of held in
    let child : MaySeek of held (level - 1) (at_place may.spot.here.items (at - 1)).child pair pairs = record {
      spot = the_child of old level number pair pairs may.spot node holds at inner some low passed above;
      filled = child_filled (spells of) old of.width level number pair pairs may.spot at inner some (low_here of old level number pair pairs may.spot node holds at inner some low passed above) (passed_here of old level number pair pairs may.spot node holds at inner some low passed above) (above_here of old level number pair pairs may.spot node holds at inner some low passed above) few;
    } in
    subst (λ (n : ℕ). MaySeek of held (level - 1) n pair pairs) (sym (child_is of old level number pair pairs may.spot node holds at inner some low passed above)) child

-- the same by what its page says
pub seeks_below : (of : Nodes) (held : Held) (level number : ℕ) (pair : List ℕ) (pairs : List (List ℕ)) (child : ℕ) → MaySeek of held level number pair pairs → HasPage of held number (λ page. GoesBelow of level number page pair child) → 0 < level → 0 < node_least of.width → MaySeek of held (level - 1) child pair pairs
seeks_below of held level number pair pairs child may has inner few =
    let goes = has.such in
    let holds = read_holds of level number held has.page goes.node has.held_is goes.spelled goes.is in
    subst (λ (n : ℕ). MaySeek of held (level - 1) n pair pairs) (sym goes.child_is) (place_below of held level number pair pairs may goes.node holds goes.at inner goes.some goes.low goes.passed goes.above few)
