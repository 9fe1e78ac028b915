-- The pages of an image: each list of them is the same, and they are no more than its entries may need.
use Rattle.std.proofs.Common.{◌≡◌, ℕ, zero, suc, ◌+◌, ◌-◌, ◌*◌, ◌/◌, ◌<◌, ◌≤◌, ◌^◌, List, [], ◌∷◌, ◌++◌, length, take, drop, refl, sym, ◌∙◌, ap, subst, arith, append_assoc, length-append}
use Rattle.std.specs.Prelude.{Option, Some, None, flat_map, replicate}
use Rattle.std.specs.Int.{w16, w32, to_be_bytes, from_be_bytes}
use Rattle.std.proofs.Math.Nat.{suc-mul, add-mul, le-div_iff_mul-le}
use Rattle.std.proofs.lemmas.List.{length-map, take-append-drop}
use Rattle.std.proofs.lemmas.List.Concat.{flat_map-append}
use Rattle.std.proofs.lemmas.Nat.{le-div, from_be_bytes-to_be_bytes_2, from_be_bytes-to_be_bytes_4}
use Rattle.std.proofs.lemmas.Option.{same_Some}
use Rattle.rss_base.specs.Paged.{Held}
use Rattle.rss_base.specs.LogRecords.{tid_bytes}
use Rattle.rss_base.specs.Nodes.{NodeEntry, Node, NodesOf, IsNodeEntry, IsNodePage, node_most, node_least, node_entry_spelled, next_spelled, node_spelled}
use Rattle.rss_base.specs.Trees.{Pair, Leaf, Reached, IsNodeAt, IsTree, is_leaf, is_inner, AreTrees, no_child, one_more, IsImage, pairs_of}
use Rattle.rss_base.specs.TupleTypes.{kinds, chosen, key_width}
use Rattle.rss_base.specs.Listings.{field_numbers}
use Rattle.rss_base.specs.declared.image.ImageEntry.{ImageEntry}
use Rattle.rss_base.specs.declared.relation.RelationEntry.{RelationEntry}
use Rattle.rss_model.specs.Tables.{Tables}
use Rattle.rss_model.specs.Images.{image_list}
use Rattle.rss_model.specs.Meter.{bound_of}
use Rattle.rss_stored.specs.Store.{SpellsImage, image_definition, pair_spelled}
use Rattle.rss_stored.proofs.ListedOnce.{spelled_same}
use Rattle.rss_base.proofs.Fronts.{front_parts}

-- ---- a page spells the entries of one node

same_number_2 : (m n : ℕ) → m < 2 ^ 16 → n < 2 ^ 16 → to_be_bytes w16 m ≡ to_be_bytes w16 n → m ≡ n
same_number_2 m n low high same = sym (from_be_bytes-to_be_bytes_2 m low) ∙ ap (from_be_bytes w16) same ∙ from_be_bytes-to_be_bytes_2 n high

same_number_4 : (m n : ℕ) → m < 2 ^ 32 → n < 2 ^ 32 → to_be_bytes w32 m ≡ to_be_bytes w32 n → m ≡ n
same_number_4 m n low high same = sym (from_be_bytes-to_be_bytes_4 m low) ∙ ap (from_be_bytes w32) same ∙ from_be_bytes-to_be_bytes_4 n high

module _ (width : ℕ) where
  entry_long : (entry : NodeEntry) → IsNodeEntry width entry → length (node_entry_spelled entry) ≡ width + 10
  entry_long entry is = let long = length-append entry.key (tid_bytes entry.tid ++ to_be_bytes w32 entry.child) in omega (arith, long, is.key)

  entry_same : (a b : NodeEntry) → IsNodeEntry width a → IsNodeEntry width b → node_entry_spelled a ≡ node_entry_spelled b → a ≡ b
  entry_same a b one other same =
      let parts = front_parts a.key b.key (tid_bytes a.tid ++ to_be_bytes w32 a.child) (tid_bytes b.tid ++ to_be_bytes w32 b.child) (one.key ∙ sym other.key) same in
      let page : a.tid.page ≡ b.tid.page = same_number_4 a.tid.page b.tid.page one.page other.page (ap (take 4) parts.1) in
      let slot : a.tid.slot ≡ b.tid.slot = same_number_2 a.tid.slot b.tid.slot (omega (arith, one.slot)) (omega (arith, other.slot)) (ap (λ (l : List ℕ). take 2 (drop 4 l)) parts.1) in
      let child : a.child ≡ b.child = same_number_4 a.child b.child one.child other.child (ap (drop 6) parts.1) in
      λ i. record { key = parts.0 i; tid = record { page = page i; slot = slot i }; child = child i }

next_long : (next : Option ℕ) → length (next_spelled next) ≡ 4
next_long None = refl
next_long (Some next) = refl

-- what stands behind the number of entries
abbrev tail_of : Node → List ℕ
tail_of node = replicate 16 0 ++ flat_map node_entry_spelled node.entries

few_most : (width : ℕ) → node_most width < 2 ^ 16
few_most width = omega arith

node_entries : {of : NodesOf} {number : ℕ} {bytes : List ℕ} {a b : Node} → IsNodePage of number bytes a → IsNodePage of number bytes b → a.entries ≡ b.entries
node_entries {of = of} {number = number} {bytes = bytes} {a = a} {b = b} one other =
    let u : List ℕ = drop (length (node_spelled of number a)) bytes in
    let v : List ℕ = drop (length (node_spelled of number b)) bytes in
    let whole : node_spelled of number a ++ u ≡ node_spelled of number b ++ v =
    ap (λ (l : List ℕ). l ++ u) (sym one.spelled) ∙ take-append-drop (length (node_spelled of number a)) bytes
    ∙ sym (ap (λ (l : List ℕ). l ++ v) (sym other.spelled) ∙ take-append-drop (length (node_spelled of number b)) bytes) in
    let counts : to_be_bytes w16 (length a.entries) ≡ to_be_bytes w16 (length b.entries) = ap (λ (l : List ℕ). take 2 (drop 8 l)) whole in
    let behind : (next_spelled a.next ++ tail_of a) ++ u ≡ (next_spelled b.next ++ tail_of b) ++ v = ap (drop 12) whole in
    let tails = front_parts (next_spelled a.next) (next_spelled b.next) (tail_of a ++ u) (tail_of b ++ v) (next_long a.next ∙ sym (next_long b.next))
    (sym (append_assoc (next_spelled a.next) (tail_of a) u) ∙ behind ∙ append_assoc (next_spelled b.next) (tail_of b) v) in
    let few = few_most of.width in
    let long = same_number_2 (length a.entries) (length b.entries) (omega (arith, one.few, few)) (omega (arith, other.few, few)) counts in
    spelled_same node_entry_spelled (of.width + 10) (IsNodeEntry of.width) (entry_long of.width) (entry_same of.width) a.entries b.entries u v long one.each other.each (ap (drop 16) tails.1)

-- ---- a tree has one list of pages

module _ {held : Held} {of : NodesOf} where
  at_entries : {number : ℕ} {a b : Node} → IsNodeAt held of number a → IsNodeAt held of number b → a.entries ≡ b.entries
  at_entries {number = number} {a = a} one other = node_entries (subst (λ (bytes : List ℕ). IsNodePage of number bytes a) (same_Some _ _ (sym one.there ∙ other.there)) one.is) other.is

  mutual
    tree_once : {least other level number : ℕ} {a b : Reached} → IsTree held of least level number a → IsTree held of other level number b → a.pages ≡ b.pages
    tree_once (is_leaf at few) (is_leaf at_too few_too) = refl
    tree_once {number = number} (is_inner at few first trees) (is_inner at_too few_too first_too trees_too) = ap (λ (pages : List ℕ). number ∷ pages) (trees_once trees trees_too (at_entries at at_too))

    trees_once : {level : ℕ} {least other : Option Pair} {es ds : List NodeEntry} {a b : Reached} → AreTrees held of level least es a → AreTrees held of level other ds b → es ≡ ds → a.pages ≡ b.pages
    trees_once no_child no_child same = refl
    trees_once no_child (one_more tree between rest) same = absurd (cc (same))
    trees_once (one_more tree between rest) no_child same = absurd (cc (same))
    trees_once {level = level} (one_more {entry = e} {one = one} tree between rest) (one_more {entry = d} {one = other} tree_too between_too rest_too) same =
        let here : d ≡ e = cc in
        let later = trees_once rest rest_too (cc) in
        let first : one.pages ≡ other.pages = tree_once tree (subst (λ (n : NodeEntry). IsTree held of (node_least of.width) level n.child other) here tree_too) in
        λ i. first i ++ later i

  pub image_once : {root levels : ℕ} {pages others : List ℕ} {pairs given : List Pair} → IsImage held of root levels pages pairs → IsImage held of root levels others given → pages ≡ others
  image_once one other = one.pages_are ∙ tree_once one.tree other.tree ∙ sym other.pages_are

-- ---- and no more of them than its pairs need

pairs_both : (xs ys : List Leaf) → length (pairs_of (xs ++ ys)) ≡ length (pairs_of xs) + length (pairs_of ys)
pairs_both xs ys = ap (λ (l : List Pair). length l) (flat_map-append (λ (leaf : Leaf). leaf.pairs) xs ys) ∙ length-append (pairs_of xs) (pairs_of ys)

one_leaf : (leaf : Leaf) → length (pairs_of (leaf ∷ [])) ≡ length leaf.pairs
one_leaf leaf = let long = length-append leaf.pairs [] in omega (arith, long)

quotient : (more pages n : ℕ) → 1 ≤ more → pages * more ≤ n + more → pages ≤ n / more + 2
quotient more zero n some le = omega arith
quotient more (suc k) n some le =
    let times = suc-mul k more in
    let few = le-div k n more (omega (arith, some)) (omega (arith, le, times)) in
    omega (arith, few)

-- how many pairs more there are at least for each page
abbrev beyond : NodesOf → ℕ
beyond of = node_least of.width - 1

-- where a node that is not the root has two entries at least
module _ {held : Held} {of : NodesOf} (some : 2 ≤ node_least of.width) where
  mutual
    tree_pages : {least level number : ℕ} {reached : Reached} → IsTree held of least level number reached → length reached.pages * beyond of + least ≤ length (pairs_of reached.leaves) + beyond of
    tree_pages (is_leaf {least = least} {number = number} {next = next} {pairs = pairs} at few) =
        omega (arith, few, one_leaf (record { number = number; next = next; pairs = pairs }))
    tree_pages (is_inner {number = number} {reached = reached} at few first trees) =
        let rest = trees_pages trees in
        let times : suc (length reached.pages) * beyond of ≡ length reached.pages * beyond of + beyond of = suc-mul (length reached.pages) (beyond of) in
        omega (arith, few, rest, times)

    trees_pages : {level : ℕ} {least : Option Pair} {entries : List NodeEntry} {reached : Reached} → AreTrees held of level least entries reached → length reached.pages * beyond of + length entries ≤ length (pairs_of reached.leaves)
    trees_pages no_child = omega arith
    trees_pages (one_more {one = one} {rest = rest} tree between later) =
        let here = tree_pages tree in
        let there = trees_pages later in
        let pages : length (one.pages ++ rest.pages) * beyond of ≡ length one.pages * beyond of + length rest.pages * beyond of = ap (λ (n : ℕ). n * beyond of) (length-append one.pages rest.pages) ∙ add-mul (length one.pages) (length rest.pages) (beyond of) in
        omega (arith, here, there, pages, pairs_both one.leaves rest.leaves, some)

  image_few : {root levels : ℕ} {pages : List ℕ} {pairs : List Pair} → IsImage held of root levels pages pairs → length pages ≤ bound_of of.width (length pairs)
  image_few {pages = pages} {pairs = pairs} is =
      let tree = tree_pages is.tree in
      let long : length is.reached.pages ≡ length pages = ap (λ (l : List ℕ). length l) (sym is.pages_are) in
      let all : length (pairs_of is.reached.leaves) ≡ length pairs = ap (λ (l : List Pair). length l) (sym is.pairs_are) in
      let few : length is.reached.pages ≤ length (pairs_of is.reached.leaves) / beyond of + 2 = quotient (beyond of) (length is.reached.pages) (length (pairs_of is.reached.leaves)) (omega (arith, some)) (omega (arith, tree)) in
      omega (arith, few, long, ap (λ (n : ℕ). n / beyond of) all)

-- ---- the pages of an image that is spelled

-- a node of a key that is not too wide has two entries at least, if it is not the root
some_least : (width : ℕ) → width ≤ 120 → 2 ≤ node_least width
some_least width narrow =
    let fits : 31 * (width + 10) ≤ 4064 = omega arith in
    let most = (le-div_iff_mul-le {k = width + 10} {x = 31} {y = 4064} (omega arith)).1 fits in
    omega (arith, most)

module _ {held : Held} {tables : Tables} {number : ℕ} {image : ImageEntry} {relation : RelationEntry} where
  pub pages_once : {pages others : List ℕ} → SpellsImage held tables number image relation pages → SpellsImage held tables number image relation others → pages ≡ others
  pages_once one other = image_once one.tree other.tree

  pub pages_few : {pages : List ℕ} → key_width (kinds (chosen (field_numbers image) relation.fields)) ≤ 120 → SpellsImage held tables number image relation pages
      → length pages ≤ bound_of (key_width (kinds (chosen (field_numbers image) relation.fields))) (length (image_list tables (image_definition image relation)))
  pages_few {pages = pages} narrow spelled =
      let width : ℕ = key_width (kinds (chosen (field_numbers image) relation.fields)) in
      let list : length spelled.pairs ≡ length (image_list tables (image_definition image relation)) = ap (λ (l : List Pair). length l) spelled.list ∙ length-map (image_list tables (image_definition image relation)) (pair_spelled image relation) in
      let few = image_few (some_least width narrow) spelled.tree in
      omega (arith, few, ap (bound_of width) list)
