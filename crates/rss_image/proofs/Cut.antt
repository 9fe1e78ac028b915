-- A pair is taken out of an image.
use Rattle.std.proofs.Common.{◌≡◌, inl, ⊎_elim, ◌<◌, ◌≤◌, ◌+◌, ◌-◌, ℕ, suc, List, [], ◌∷◌, length, sym, ap, subst, ◌∙◌, arith}
use Rattle.rss_base.specs.Paged.{Held}
use Rattle.rss_base.specs.Steps.{PagesView}
use Rattle.rss_base.specs.Entries.{Entry, no_page}
use Rattle.rss_base.specs.Nodes.{node_most}
use Rattle.rss_levels.specs.Entries.{Each, IsIn}
use Rattle.rss_levels.specs.Rows.{Row, Cells, IsTree, link, pages, stored}
use Rattle.rss_levels.specs.Spots.{Keeps, LosesNone, IsOwn, AreMade}
use Rattle.rss_levels.specs.Removes.{Removes, without_pair}
use Rattle.rss_levels.proofs.Pages.{keeps_then, loses_between, stack_held}
use Rattle.rss_levels.proofs.Cutting.{tree_cut, tree_collapses}
use Rattle.rss_levels.proofs.Spotted.{at_place, stack_row, here_of, stored_long, stored_child}
use Rattle.rss_node.specs.Nodes.{NodeView, entry_at}
use Rattle.rss_node.specs.declared.pair.Nodes.{Nodes}
use Rattle.rss_image.specs.Trees.{cells_of, spells, HoldsNode, KeepsPages, LosesNoPage}
use Rattle.rss_image.specs.Images.{nodes_of, has_slot, ImageTree, pages_of, Shrinks, MayCut}
use Rattle.rss_image.specs.Removed.{MayRemove, HasRoot, Dropped}
use Rattle.rss_image.specs.declared.image.Image.{Image}
use Rattle.rss_image.proofs.Insertion.{same_node}
use Rattle.rss_levels.proofs.Lists.{each_weaker}
use Rattle.rss_image.proofs.Putting.{spot_of, StillCounted}

pub root_given : (of : Nodes) (level root child : ℕ) (old one new : PagesView) (node : NodeView) → cells_of of one.held ≡ cells_of of old.held → HoldsNode of old.held level root node.next node.entries → KeepsPages of (root ∷ []) one new → LosesNoPage of (root ∷ []) [] one new → child ≡ (entry_at node.entries 0).child → Dropped of level root child old new
root_given of level root child old one new node same holds keeps loses is = record {
  keeps = subst (λ (cs : Cells). Keeps (root ∷ []) cs (cells_of of new.held)) same keeps;
  loses_none = subst (λ (cs : Cells). LosesNone (root ∷ []) [] cs (cells_of of new.held)) same loses;
  child_is = λ next entries other. is ∙ ap (λ (n : NodeView). (entry_at n.entries 0).child) (same_node of (cells_of of old.held) level root node.next next node.entries entries holds other);
}

owns : (of : Nodes) (old : PagesView) (own now : List ℕ) → Each (IsIn own) now → Each (IsOwn own (cells_of of old.held)) now
owns of old own now all = each_weaker (IsIn own) (IsOwn own (cells_of of old.held)) now (λ n is. inl is) all

level_back : (levels n : ℕ) → levels ≡ suc n → n ≡ levels - 1
level_back levels n is = omega arith

pub may_remove : (image : Image) (held : Held) (pair : List ℕ) → length pair ≡ image.width + 6 → MayCut image held pair → MayRemove (nodes_of image) held (image.levels - 1) image.root pair
may_remove image held pair long may = record {
  pairs = may.pairs;
  spot = spot_of image held pair may.pairs may.tree long;
  there = may.there;
  branches = λ inner. may.tree.tree.branches (omega (arith, inner, may.tree.tree.high));
}

module _ (image : Image) (old : PagesView) (pair : List ℕ) (pairs : List (List ℕ)) (tree : ImageTree image old.held pairs) (long : length pair ≡ image.width + 6) (many : 31 ≤ node_most image.width) where
  of : Nodes
  of = nodes_of image

  pub became_cut : (new : PagesView) (count : ℕ) → Removes (spot_of image old.held pair pairs tree long) (cells_of (nodes_of image) new.held) count → (1 < image.levels → 2 ≤ count) → StillCounted (nodes_of image) old new (pages_of tree) → Shrinks image image old new (pages_of tree) (without_pair pair pairs)
  became_cut new count rem more counted = record {
    tree = record {
      top = rem.head;
      lower = rem.rest;
      tree = tree_cut (spells (nodes_of image)) (cells_of (nodes_of image) old.held) image.width image.root image.levels pair pairs tree.top tree.lower tree.tree long (omega arith) (cells_of (nodes_of image) new.held) count rem more;
      made = rem.made (has_slot image.width) tree.made;
    };
    own_pages = rem.own;
    keeps = rem.keeps;
    loses_none = rem.loses_none;
    spare = counted (pages ((rem.head ∷ []) ∷ rem.rest)) rem.distinct_now (stack_held (spells (nodes_of image)) image.width (cells_of (nodes_of image) new.held) (without_pair pair pairs) (rem.head ∷ []) rem.rest rem.stack_now) (owns (nodes_of image) old (pages_of tree) (pages ((rem.head ∷ []) ∷ rem.rest)) rem.own) rem.keeps rem.loses_none;
  }

  -- what the root holds
  pub root_holds : (mid : PagesView) (count : ℕ) (rem : Removes (spot_of image old.held pair pairs tree long) (cells_of (nodes_of image) mid.held) count) → HoldsNode (nodes_of image) mid.held (image.levels - 1) image.root (link (length rem.rest) [] no_page) (stored image.width (image.levels - 1) rem.head.items)
  root_holds mid count rem =
      let row = stack_row (spells (nodes_of image)) (cells_of (nodes_of image) mid.held) image.width (without_pair pair pairs) (rem.head ∷ []) rem.rest rem.stack_now in
      let held = here_of (spells (nodes_of image)) (cells_of (nodes_of image) mid.held) image.width (length rem.rest) [] rem.head [] row.held in
      let level : length rem.rest ≡ image.levels - 1 = omega (arith, rem.same_height, tree.tree.high) in
      let number : rem.head.number ≡ image.root = rem.head_number ∙ tree.tree.at_root in
      subst (λ (l : ℕ). HoldsNode (nodes_of image) mid.held l image.root (link (length rem.rest) [] no_page) (stored image.width l rem.head.items)) level
      (subst (λ (n : ℕ). HoldsNode (nodes_of image) mid.held (length rem.rest) n (link (length rem.rest) [] no_page) (stored image.width (length rem.rest) rem.head.items)) number held)

  pub still_one : (mid : PagesView) (count : ℕ) → Removes (spot_of image old.held pair pairs tree long) (cells_of (nodes_of image) mid.held) count → 1 < image.levels → 1 ≤ count
  still_one mid count rem high = let two = tree.tree.branches (omega (arith, high, tree.tree.high)) in omega (arith, two, rem.lacks_one, rem.count_is)

  pub has_root : (mid : PagesView) (count : ℕ) → Removes (spot_of image old.held pair pairs tree long) (cells_of (nodes_of image) mid.held) count → 1 < image.levels → HasRoot (nodes_of image) mid.held (image.levels - 1) image.root
  has_root mid count rem high = record {
    next = link (length rem.rest) [] no_page;
    entries = stored image.width (image.levels - 1) rem.head.items;
    holds = root_holds mid count rem;
    some = omega (arith, still_one mid count rem high, rem.count_is, stored_long image.width (image.levels - 1) rem.head.items);
  }

  pub became_lower : (mid new : PagesView) (count child : ℕ) → Removes (spot_of image old.held pair pairs tree long) (cells_of (nodes_of image) mid.held) count → 1 < image.levels → count ≤ 1 → Dropped (nodes_of image) (image.levels - 1) image.root child mid new
      → StillCounted (nodes_of image) old new (pages_of tree) → Shrinks image (record image { root = child; levels = image.levels - 1 }) old new (pages_of tree) (without_pair pair pairs)
  became_lower mid new count child rem high low drop counted =
      let one : count ≡ 1 = omega (arith, low, still_one mid count rem high) in
      let col = tree_collapses (spells (nodes_of image)) (cells_of (nodes_of image) old.held) image.width image.root image.levels pair pairs tree.top tree.lower tree.tree long (omega arith) (cells_of (nodes_of image) mid.held) (cells_of (nodes_of image) new.held) count rem high one drop.keeps in
      let child_is : child ≡ col.entry.child = drop.child_is _ _ (root_holds mid count rem) ∙ stored_child image.width (image.levels - 1) rem.head.items 0 ∙ ap (λ (l : List Entry). (at_place l 0).child) col.entry_is in
      let own_rest : Each (IsIn (pages_of tree)) (pages ((col.top ∷ []) ∷ col.lower)) = subst (λ (l : List Row). Each (IsIn (pages_of tree)) (pages l)) col.rows_are rem.own.1 in
      let keeps = keeps_then (pages_of tree) (image.root ∷ []) (pages_of tree) (cells_of (nodes_of image) old.held) (cells_of (nodes_of image) mid.held) (cells_of (nodes_of image) new.held) (λ n is. is) (λ n is. ⊎_elim (λ (same : image.root ≡ n). inl (tree.tree.at_root ∙ same)) (λ (none : ⊥). absurd none) is) rem.keeps drop.keeps in
      let root_is : image.root ≡ rem.head.number = sym (rem.head_number ∙ tree.tree.at_root) in
      let gone : LosesNone (rem.head.number ∷ []) [] (cells_of (nodes_of image) mid.held) (cells_of (nodes_of image) new.held) = subst (λ (m : ℕ). LosesNone (m ∷ []) [] (cells_of (nodes_of image) mid.held) (cells_of (nodes_of image) new.held)) root_is drop.loses_none in
      let loses : LosesNone (pages_of tree) (pages ((col.top ∷ []) ∷ col.lower)) (cells_of (nodes_of image) old.held) (cells_of (nodes_of image) new.held) = subst (λ (l : List Row). LosesNone (pages_of tree) (pages l) (cells_of (nodes_of image) old.held) (cells_of (nodes_of image) new.held)) col.rows_are
      (λ n is. loses_between [] (rem.head.number ∷ []) [] (pages rem.rest) (cells_of (nodes_of image) mid.held) (cells_of (nodes_of image) new.held) gone n (rem.loses_none n is)) in
      record {
        tree = record {
          made = subst (AreMade (has_slot image.width)) col.rows_are (rem.made (has_slot image.width) tree.made).1;
          top = col.top;
          lower = col.lower;
          tree = subst (λ (n : ℕ). IsTree (spells (nodes_of image)) (cells_of (nodes_of image) new.held) image.width n (image.levels - 1) (without_pair pair pairs) col.top col.lower) (sym child_is) col.tree;
        };
        own_pages = own_rest;
        keeps = keeps;
        loses_none = loses;
        spare = counted (pages ((col.top ∷ []) ∷ col.lower)) col.tree.distinct (stack_held (spells (nodes_of image)) image.width (cells_of (nodes_of image) new.held) (without_pair pair pairs) (col.top ∷ []) col.lower col.tree.stack) (owns (nodes_of image) old (pages_of tree) (pages ((col.top ∷ []) ∷ col.lower)) own_rest) keeps loses;
      }
