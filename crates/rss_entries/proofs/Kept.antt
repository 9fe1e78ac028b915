-- An image stands in its pages as before, where these are kept; and no page is one of two images.
use Rattle.std.proofs.Common.{◌≡◌, ℕ, List, [], ◌∷◌, length, take, Some, sym, ◌∙◌, ap, subst, ⊎_elim}
use Rattle.std.specs.Prelude.{slice_index, Option}
use Rattle.rss_base.specs.Paged.{Held, page_key}
use Rattle.rss_base.specs.Nodes.{NodeEntry, Node, NodesOf, IsNodePage, node_spelled}
use Rattle.rss_base.specs.Trees.{Pair, IsNodeAt, IsTree, is_leaf, is_inner, AreTrees, no_child, one_more, Reached, IsImage}
use Rattle.rss_base.specs.declared.key.Space.TheVariants.{Image as ImageSpace}
use Rattle.rss_levels.specs.Entries.{IsIn}
use Rattle.rss_levels.proofs.Pages.{in_append}

-- ---- pages that are kept

-- each page that holds a node of the image is kept
abbrev pub KeepsNodes : NodesOf → Held → Held → Type 0
KeepsNodes of old new =
    (number : ℕ) (bytes : List ℕ) (node : Node) → old (page_key of.segment ImageSpace number) ≡ Some bytes → IsNodePage of number bytes node
    → new (page_key of.segment ImageSpace number) ≡ Some bytes

module _ {old new : Held} {of : NodesOf} (keeps : KeepsNodes of old new) where
  node_kept : {number : ℕ} {node : Node} → IsNodeAt old of number node → IsNodeAt new of number node
  node_kept {number = number} {node = node} at = record { bytes = at.bytes; there = keeps number at.bytes node at.there at.is; is = at.is }

  mutual
    tree_kept : {least level number : ℕ} {reached : Reached} → IsTree old of least level number reached → IsTree new of least level number reached
    tree_kept (is_leaf at much) = is_leaf (node_kept at) much
    tree_kept (is_inner at much first trees) = is_inner (node_kept at) much first (trees_kept trees)

    trees_kept : {level : ℕ} {least : Option Pair} {entries : List NodeEntry} {reached : Reached} → AreTrees old of level least entries reached → AreTrees new of level least entries reached
    trees_kept no_child = no_child
    trees_kept (one_more tree between trees) = one_more (tree_kept tree) between (trees_kept trees)

  pub image_kept : {root levels : ℕ} {pages : List ℕ} {pairs : List Pair} → IsImage old of root levels pages pairs → IsImage new of root levels pages pairs
  image_kept is = record {
    some = is.some;
    reached = is.reached;
    tree = tree_kept is.tree;
    chained = is.chained;
    pages_are = is.pages_are;
    pairs_are = is.pairs_are;
    rising = is.rising;
  }

-- ---- whose a page is

-- the page of this number holds some node of the image
pub record HoldsNode (held : Held) (of : NodesOf) (number : ℕ) : Type 0 where
  pub node : Node
  pub at : IsNodeAt held of number node

module _ {held : Held} {of : NodesOf} where
  mutual
    tree_node : {least level number : ℕ} {reached : Reached} → IsTree held of least level number reached → (n : ℕ) → IsIn reached.pages n → HoldsNode held of n
    tree_node (is_leaf {number = number} at much) n is = ⊎_elim
        (λ (here : number ≡ n). subst (HoldsNode held of) here (record { node = _; at = at }))
        (λ (none : ⊥). absurd none) is
    tree_node (is_inner {number = number} {reached = reached} at much first trees) n is = ⊎_elim
        (λ (here : number ≡ n). subst (HoldsNode held of) here (record { node = _; at = at }))
        (λ (below : IsIn reached.pages n). trees_node trees n below) is

    trees_node : {level : ℕ} {least : Option Pair} {entries : List NodeEntry} {reached : Reached} → AreTrees held of level least entries reached → (n : ℕ) → IsIn reached.pages n → HoldsNode held of n
    trees_node no_child n is = absurd is
    trees_node (one_more {one = one} {rest = rest} tree between trees) n is = ⊎_elim
        (λ (left : IsIn one.pages n). tree_node tree n left)
        (λ (right : IsIn rest.pages n). trees_node trees n right) (in_append one.pages rest.pages n is)

  -- each of an image's pages
  pub image_node : {root levels : ℕ} {pages : List ℕ} {pairs : List Pair} → IsImage held of root levels pages pairs → (n : ℕ) → IsIn pages n → HoldsNode held of n
  image_node is n among = tree_node is.tree n (subst (λ (ps : List ℕ). IsIn ps n) is.pages_are among)

-- the third byte of a node is the image's number
image_byte : {of : NodesOf} {number : ℕ} {bytes : List ℕ} {node : Node} → IsNodePage of number bytes node → slice_index bytes 2 ≡ of.image
image_byte {of = of} {number = number} {bytes = bytes} {node = node} is = third bytes is.spelled
  where
    third : (bytes : List ℕ) → take (length (node_spelled of number node)) bytes ≡ node_spelled of number node → slice_index bytes 2 ≡ of.image
    third [] same = ap (λ (l : List ℕ). slice_index l 2) same
    third (a ∷ []) same = ap (λ (l : List ℕ). slice_index l 2) same
    third (a ∷ b ∷ []) same = ap (λ (l : List ℕ). slice_index l 2) same
    third (a ∷ b ∷ c ∷ bytes) same = ap (λ (l : List ℕ). slice_index l 2) same

-- a page that holds nodes of two images
pub one_image : {of other : NodesOf} {number : ℕ} {bytes : List ℕ} {node next : Node} → IsNodePage of number bytes node → IsNodePage other number bytes next → of.image ≡ other.image
one_image one two = sym (image_byte one) ∙ image_byte two
