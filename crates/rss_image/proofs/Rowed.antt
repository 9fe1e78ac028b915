-- An image by its nodes is one by its rows.
use Rattle.std.proofs.Common.{◌≡◌, ◌≢◌, ℕ, suc, zero, ◌+◌, ◌-◌, ◌<◌, ◌≤◌, List, [], ◌∷◌, ◌++◌, length, map, replicate, Option, Some, None, Bool, true, refl, sym, ◌∙◌, ap, subst, arith}
use Rattle.std.specs.Prelude.{All, slice_index}
use Rattle.std.specs.Int.{w16, w32, to_be_bytes}
use Rattle.std.proofs.lemmas.Grind.{flat_map-append}
use Rattle.std.proofs.lemmas.List.{length-map, length-replicate, append-nil, map-append, replicate-append-replicate}
use Rattle.std.proofs.lemmas.List.Elements.{All-head, All-tail}
use Rattle.rss_base.specs.Paged.{Held}
use Rattle.rss_base.specs.Sizes.{page_entries}
use Rattle.rss_base.specs.Nodes.{NodeEntry, Node, IsNodeEntry, node_least, node_most}
use Rattle.rss_base.specs.Trees.{Pair, IsBelow, AreRising, pair_of, leaf_entry as base_leaf_entry, Leaf, Reached, both_reached, pairs_of, IsNodeAt, IsAtOrAbove, IsUnder as IsBelowLimit, limit_of, LiesBetween, IsFirstEntry, IsTree as IsBaseTree, is_leaf, is_inner, AreTrees, no_child, one_more, root_least, AreChained, IsImage}
use Rattle.rss_base.specs.Listings.{AreDifferent}
use Rattle.rss_base.specs.Entries.{Entry, IsLess, no_page}
use Rattle.rss_levels.specs.Entries.{Each, Pairwise, zeros}
use Rattle.rss_levels.specs.Rows.{Part, Row, Cells, HoldsAt, HoldsRow, IsStack, IsLeaves, IsAbove, Mark, IsBefore, HasHead, fence, item, marks, marks_of, items, name, names, numbers, first, leaf_entry, pages}
use Rattle.rss_levels.specs.Nested.{AreSameNumbers}
use Rattle.rss_levels.specs.Spots.{IsMade, AreMade}
use Rattle.rss_levels.proofs.Lists.{each_append, each_left, each_map, each_right, each_two, each_weaker, pairwise_append, pairwise_left, pairwise_right}
use Rattle.rss_levels.proofs.Order.{before_trans, before_less, fence_from, zeros_least}
use Rattle.rss_levels.proofs.Held.{held_append}
use Rattle.rss_levels.proofs.Shuffles.{same_refl, same_trans, same_append, same_swap}
use Rattle.rss_node.specs.Nodes.{AreNodes}
use Rattle.rss_base.specs.Tids.{IsSpelledTid}
use Rattle.rss_node.specs.Pairs.{pair_bytes, entry_of, next_number}
use Rattle.rss_node.specs.declared.pair.Nodes.{Nodes}
use Rattle.rss_node.proofs.Ordered.{pairs_ordered}
use Rattle.rss_node.proofs.Spelled.{spelled_page}
use Rattle.rss_image.specs.Trees.{cells_of, spells}
use Rattle.rss_image.specs.Images.{nodes_of, has_slot}
use Rattle.rss_image.specs.Agreement.{base_of, AreNumbered, HasSameTree}
use Rattle.rss_image.specs.declared.image.Image.{Image}
use Rattle.rss_image.proofs.Putting.{zeros_slot, slot_pair, long_pair}
use Rattle.rss_image.proofs.Halves.{many}
use Rattle.rss_image.proofs.Nested.{StartsAt, starts_append}

-- ---- rows side by side

-- two lists of rows of one height, side by side
abbrev pub join : List Row → List Row → List Row
join [] ys = ys
join (x ∷ xs) [] = x ∷ xs
join (x ∷ xs) (y ∷ ys) = (x ++ y) ∷ join xs ys

-- the last of some rows
abbrev pub leaf_at : Row → List Row → Row
leaf_at row [] = row
leaf_at row (l ∷ rows) = leaf_at l rows

pub join_length : (xs ys : List Row) (n : ℕ) → length xs ≡ n → length ys ≡ n → length (join xs ys) ≡ n
join_length [] ys n one two = two
join_length (x ∷ xs) [] n one two = one
join_length (x ∷ xs) (y ∷ ys) zero one two = absurd (omega (arith, one))
join_length (x ∷ xs) (y ∷ ys) (suc n) one two = ap (λ (k : ℕ). suc k) (join_length xs ys n (omega (arith, one)) (omega (arith, two)))

pub leaf_join : (x y : Row) (xs ys : List Row) → length xs ≡ length ys → leaf_at (x ++ y) (join xs ys) ≡ leaf_at x xs ++ leaf_at y ys
leaf_join x y [] [] same = refl
leaf_join x y [] (m ∷ ys) same = absurd (omega (arith, same))
leaf_join x y (l ∷ xs) [] same = absurd (omega (arith, same))
leaf_join x y (l ∷ xs) (m ∷ ys) same = leaf_join l m xs ys (omega (arith, same))

pub pages_join : (x y : Row) (xs ys : List Row) → length xs ≡ length ys → AreSameNumbers (pages ((x ++ y) ∷ join xs ys)) (pages (x ∷ xs) ++ pages (y ∷ ys))
pages_join x y xs ys same =
    let split : numbers (x ++ y) ≡ numbers x ++ numbers y = map-append (λ (p : Part). p.number) x y in
    subst (λ (l : List ℕ). AreSameNumbers (l ++ pages (join xs ys)) (pages (x ∷ xs) ++ pages (y ∷ ys))) (sym split)
    (same_trans ((numbers x ++ numbers y) ++ pages (join xs ys)) ((numbers x ++ numbers y) ++ (pages xs ++ pages ys)) ((numbers x ++ pages xs) ++ (numbers y ++ pages ys))
    (same_append (numbers x ++ numbers y) (numbers x ++ numbers y) (pages (join xs ys)) (pages xs ++ pages ys) (same_refl (numbers x ++ numbers y)) (rest xs ys same))
    (same_swap (numbers x) (numbers y) (pages xs) (pages ys)))
  where
    rest : (xs ys : List Row) → length xs ≡ length ys → AreSameNumbers (pages (join xs ys)) (pages xs ++ pages ys)
    rest [] [] same = same_refl []
    rest [] (m ∷ ys) same = absurd (omega (arith, same))
    rest (l ∷ xs) [] same = absurd (omega (arith, same))
    rest (l ∷ xs) (m ∷ ys) same =
        let split : numbers (l ++ m) ≡ numbers l ++ numbers m = map-append (λ (p : Part). p.number) l m in
        subst (λ (k : List ℕ). AreSameNumbers (k ++ pages (join xs ys)) (pages (l ∷ xs) ++ pages (m ∷ ys))) (sym split)
        (same_trans ((numbers l ++ numbers m) ++ pages (join xs ys)) ((numbers l ++ numbers m) ++ (pages xs ++ pages ys)) ((numbers l ++ pages xs) ++ (numbers m ++ pages ys))
        (same_append (numbers l ++ numbers m) (numbers l ++ numbers m) (pages (join xs ys)) (pages xs ++ pages ys) (same_refl (numbers l ++ numbers m)) (rest xs ys (omega (arith, same))))
        (same_swap (numbers l) (numbers m) (pages xs) (pages ys)))

pub made_join : (good : List ℕ → Bool) (xs ys : List Row) → AreMade good xs → AreMade good ys → AreMade good (join xs ys)
made_join good [] ys one two = two
made_join good (x ∷ xs) [] one two = one
made_join good (x ∷ xs) (y ∷ ys) one two = (each_append (IsMade good) x y one.0 two.0, made_join good xs ys one.1 two.1)

-- ---- pairs

abbrev bytes_of : Pair → List ℕ
bytes_of pair = pair_bytes pair.key pair.tid

abbrev leaf_item : Pair → Entry
leaf_item pair = record { pair = bytes_of pair; child = 0 }

record IsGood (width : ℕ) (pair : Pair) : Type 0 where
  long : length pair.key ≡ width
  tid : IsSpelledTid pair.tid
  slot : pair.tid.slot < page_entries

good_entry : (width : ℕ) (e : NodeEntry) → IsNodeEntry width e → IsGood width (pair_of e)
good_entry width e is = record { long = is.key; tid = record { page = is.page; slot = omega (arith, is.slot) }; slot = is.slot }

good_entries : (width : ℕ) (es : List NodeEntry) → All (IsNodeEntry width) es → Each (λ e. IsGood width (pair_of e)) es
good_entries width [] all = tt
good_entries width (e ∷ es) all = (good_entry width e (All-head (IsNodeEntry width) e es all), good_entries width es (All-tail (IsNodeEntry width) e es all))

good_pairs : (width : ℕ) (pairs : List Pair) → Each (λ e. IsGood width (pair_of e)) (map base_leaf_entry pairs) → Each (IsGood width) pairs
good_pairs width [] all = tt
good_pairs width (p ∷ pairs) all = (all.0, good_pairs width pairs all.1)

less_of : (width : ℕ) (a b : Pair) → IsGood width a → IsGood width b → IsBelow a b → IsLess (bytes_of a) (bytes_of b)
less_of width a b one two below = record { is = pairs_ordered a b (one.long ∙ sym two.long) one.tid two.tid ∙ below }

never_less : (width : ℕ) (a b : Pair) → IsGood width a → IsGood width b → (IsBelow a b → ⊥) → IsLess (bytes_of a) (bytes_of b) → ⊥
never_less width a b one two never less = never (sym (pairs_ordered a b (one.long ∙ sym two.long) one.tid two.tid) ∙ less.is)

good_slot : (width : ℕ) (pair : Pair) → IsGood width pair → has_slot width (bytes_of pair) ≡ true
good_slot width pair good = slot_pair width pair.key pair.tid (bytes_of pair) refl good.long good.slot

each_of : {X : Type 0} (P : X → Type 0) (xs : List X) → All P xs → Each P xs
each_of P [] all = tt
each_of P (x ∷ xs) all = (All-head P x xs all, each_of P xs (All-tail P x xs all))

rising_pairs : (pairs : List Pair) → AreRising pairs → Pairwise IsBelow pairs
rising_pairs [] all = tt
rising_pairs (p ∷ pairs) all = (each_of (IsBelow p) pairs all.0, rising_pairs pairs all.1)

-- ---- leaves

-- the leaves of a row are these
abbrev AreLeaves : Row → List Leaf → Type 0
AreLeaves [] [] = Unit {0}
AreLeaves [] (leaf ∷ leaves) = ⊥
AreLeaves (p ∷ row) [] = ⊥
AreLeaves (p ∷ row) (leaf ∷ leaves) = (p.number ≡ leaf.number) × (p.items ≡ map leaf_item leaf.pairs) × AreLeaves row leaves

leaves_join : (x y : Row) (ks ls : List Leaf) → AreLeaves x ks → AreLeaves y ls → AreLeaves (x ++ y) (ks ++ ls)
leaves_join [] y [] ls one two = two
leaves_join [] y (k ∷ ks) ls one two = absurd one
leaves_join (p ∷ x) y [] ls one two = absurd one
leaves_join (p ∷ x) y (k ∷ ks) ls one two = (one.0, one.1, leaves_join x y ks ls one.2 two)

leaves_items : (row : Row) (leaves : List Leaf) → AreLeaves row leaves → items row ≡ map leaf_item (pairs_of leaves)
leaves_items [] [] are = refl
leaves_items [] (leaf ∷ leaves) are = absurd are
leaves_items (p ∷ row) [] are = absurd are
leaves_items (p ∷ row) (leaf ∷ leaves) are = (λ i. are.1 i ++ leaves_items row leaves are.2 i) ∙ sym (map-append leaf_item leaf.pairs (pairs_of leaves))

abbrev first_leaf : List Leaf → ℕ → ℕ
first_leaf [] end = end
first_leaf (leaf ∷ leaves) end = leaf.number

first_is : (row : Row) (leaves : List Leaf) (end : ℕ) → AreLeaves row leaves → first_leaf leaves end ≡ first row end
first_is [] [] end are = refl
first_is [] (leaf ∷ leaves) end are = absurd are
first_is (p ∷ row) [] end are = absurd are
first_is (p ∷ row) (leaf ∷ leaves) end are = sym are.0

-- each leaf leads to the next one, and the last to this page
abbrev LeadTo : List Leaf → ℕ → Type 0
LeadTo [] end = Unit {0}
LeadTo (leaf ∷ leaves) end = (next_number leaf.next ≡ first_leaf leaves end) × LeadTo leaves end

lead : (leaves : List Leaf) → AreChained leaves → LeadTo leaves no_page
lead [] chained = tt
lead (leaf ∷ []) chained = (ap next_number chained, tt)
lead (leaf ∷ other ∷ leaves) chained = (ap next_number chained.0, lead (other ∷ leaves) chained.1)

lead_left : (xs ys : List Leaf) (end : ℕ) → LeadTo (xs ++ ys) end → LeadTo xs (first_leaf ys end)
lead_left [] ys end all = tt
lead_left (x ∷ []) ys end all = (all.0, tt)
lead_left (x ∷ z ∷ xs) ys end all = (all.0, lead_left (z ∷ xs) ys end all.1)

lead_right : (xs ys : List Leaf) (end : ℕ) → LeadTo (xs ++ ys) end → LeadTo ys end
lead_right [] ys end all = all
lead_right (x ∷ xs) ys end all = lead_right xs ys end all.1

-- ---- marks

item_marks : (low : List ℕ) (es : List Entry) → Each (λ e. IsLess e.pair low → ⊥) es → Pairwise (λ a b. IsLess a.pair b.pair) es → Pairwise IsBefore (fence low ∷ map item es)
item_marks low es above rises = (each_map (IsBefore (fence low)) item es (each_weaker (λ e. IsLess e.pair low → ⊥) (λ e. IsBefore (fence low) (item e)) es (λ e never. fence_from low e never) above), below es rises)
  where
    below : (es : List Entry) → Pairwise (λ a b. IsLess a.pair b.pair) es → Pairwise IsBefore (map item es)
    below [] all = tt
    below (e ∷ es) all = (each_map (IsBefore (item e)) item es (each_weaker (λ d. IsLess e.pair d.pair) (λ d. IsBefore (item e) (item d)) es (λ d less. before_less less) all.0), below es all.1)

-- the marks of leaves that have pairs, all below a bound, are before it
before_bound : (row : Row) (low : List ℕ) → Each (λ p. 0 < length p.items) row → Pairwise IsBefore (marks row) → Each (λ e. IsLess e.pair low) (items row) → Each (λ m. IsBefore m (fence low)) (marks row)
before_bound [] low some rises under = tt
before_bound (p ∷ row) low some rises under =
    let here : Each (λ e. IsLess e.pair low) p.items = each_left (λ e. IsLess e.pair low) p.items (items row) under in
    let own : Each (λ m. IsBefore m (fence low)) (map item p.items) = each_map (λ m. IsBefore m (fence low)) item p.items (each_weaker (λ e. IsLess e.pair low) (λ e. IsBefore (item e) (fence low)) p.items (λ e less. before_less less) here) in
    let rest = before_bound row low some.1 (pairwise_right IsBefore (map item p.items) (marks row) rises.1) (each_right (λ e. IsLess e.pair low) p.items (items row) under) in
    (through p.items some.0 (each_left (IsBefore (fence p.low)) (map item p.items) (marks row) rises.0) own, each_append (λ m. IsBefore m (fence low)) (map item p.items) (marks row) own rest)
  where
    through : {a b : Mark} (es : List Entry) → 0 < length es → Each (IsBefore a) (map item es) → Each (λ m. IsBefore m b) (map item es) → IsBefore a b
    through [] many one two = absurd (omega (arith, many))
    through (e ∷ es) many one two = before_trans one.0 two.0

marks_join : (x y : Row) (low : List ℕ) → StartsAt y low → Each (λ p. 0 < length p.items) x → Pairwise IsBefore (marks x) → Pairwise IsBefore (marks y) → Each (λ e. IsLess e.pair low) (items x) → Pairwise IsBefore (marks (x ++ y))
marks_join x y low starts some one two under =
    let heads = before_bound x low some one under in
    subst (Pairwise IsBefore) (sym (flat_map-append marks_of x y))
    (pairwise_append IsBefore (marks x) (marks y) one two (each_weaker (λ m. IsBefore m (fence low)) (λ m. Each (IsBefore m) (marks y)) (marks x) (λ m is. all m is) heads))
  where
    all : (m : Mark) → IsBefore m (fence low) → Each (IsBefore m) (marks y)
    all m is =
        let first : IsBefore m (fence starts.leaf.low) = subst (λ (l : List ℕ). IsBefore m (fence l)) (sym starts.low_is) is in
        let rises = subst (λ (r : Row). Pairwise IsBefore (marks r)) starts.is two in
        subst (λ (r : Row). Each (IsBefore m) (marks r)) (sym starts.is)
        (first, each_weaker (IsBefore (fence starts.leaf.low)) (IsBefore m) (map item starts.leaf.items ++ marks starts.more) (λ n more. before_trans first more) rises.0)

-- ---- nodes

module _ (held : Held) (of : Nodes) (fit : AreNodes of) (numbered : AreNumbered (cells_of of held)) where
  abbrev cells : Cells
  cells = cells_of of held

  abbrev good : List ℕ → Bool
  good pair = has_slot of.width pair

  held_node : (number : ℕ) (node : Node) → IsNodeAt held (base_of of) number node → HoldsAt (spells of) cells node.level number (next_number node.next) (map entry_of node.entries)
  held_node number node at = record {
    bytes = at.bytes;
    held = at.there;
    spells = spelled_page (base_of of) number at.bytes node fit.wide fit.narrow (let below = numbered number at.bytes at.there in omega (arith, below)) at.is;
  }

  -- the rows of a tree of a level, but for the order of leaves
  abbrev pub IsPile : ℕ → ℕ → Row → List Row → Type 0
  IsPile zero end row [] = HoldsRow (spells of) cells of.width 0 row end × Each (λ p. length p.items ≤ node_most of.width) row
  IsPile zero end row (l ∷ rows) = ⊥
  IsPile (suc level) end row [] = ⊥
  IsPile (suc level) end row (l ∷ rows) = HoldsRow (spells of) cells of.width (suc level) row no_page × Each (λ p. length p.items ≤ node_most of.width) row × IsAbove of.width row l × IsPile level end l rows

  held_inner : (level : ℕ) (row : Row) (a b : ℕ) → HoldsRow (spells of) cells of.width (suc level) row a → HoldsRow (spells of) cells of.width (suc level) row b
  held_inner level [] a b all = tt
  held_inner level (p ∷ row) a b all = (all.0, held_inner level row a b all.1)

  above_join : (x y l m : Row) → IsAbove of.width x l → IsAbove of.width y m → IsAbove of.width (x ++ y) (l ++ m)
  above_join x y l m one two = record {
    heads = each_append HasHead x y one.heads two.heads;
    names_are = flat_map-append (λ (p : Part). p.items) x y ∙ (λ i. one.names_are i ++ two.names_are i) ∙ sym (map-append name l m);
    full = each_append (λ p. node_least of.width ≤ length p.items) l m one.full two.full;
  }

  pub pile_join : (level end : ℕ) (x y : Row) (xs ys : List Row) → IsPile level (first (leaf_at y ys) end) x xs → IsPile level end y ys → IsPile level end (x ++ y) (join xs ys)
  pile_join zero end x y [] [] one two = (held_append (spells of) of.width 0 cells x y end one.0 two.0, each_append (λ p. length p.items ≤ node_most of.width) x y one.1 two.1)
  pile_join zero end x y [] (m ∷ ys) one two = absurd two
  pile_join zero end x y (l ∷ xs) [] one two = absurd one
  pile_join zero end x y (l ∷ xs) (m ∷ ys) one two = absurd one
  pile_join (suc level) end x y [] [] one two = absurd one
  pile_join (suc level) end x y [] (m ∷ ys) one two = absurd one
  pile_join (suc level) end x y (l ∷ xs) [] one two = absurd two
  pile_join (suc level) end x y (l ∷ xs) (m ∷ ys) one two = (
    held_append (spells of) of.width (suc level) cells x y no_page (held_inner level x no_page (first y no_page) one.0) two.0,
    each_append (λ p. length p.items ≤ node_most of.width) x y one.1 two.1,
    above_join x y l m one.2 two.2,
    pile_join level end l m xs ys one.3 two.3,
  )

  -- no rows at all
  pub none_pile : (level end : ℕ) → IsPile level end [] (replicate level [])
  none_pile zero end = (tt, tt)
  none_pile (suc level) end = (tt, tt, record { heads = tt; names_are = refl; full = tt }, none_pile level end)

  pub none_leaf : (level : ℕ) → leaf_at [] (replicate level []) ≡ []
  none_leaf zero = refl
  none_leaf (suc level) = none_leaf level

  pub none_pages : (level : ℕ) → pages (replicate level []) ≡ []
  none_pages zero = refl
  none_pages (suc level) = none_pages level

  none_made : (level : ℕ) → AreMade good (replicate level [])
  none_made zero = tt
  none_made (suc level) = (tt, none_made level)

  -- ---- what stands under a node, as rows

  record TreeRows (level n number : ℕ) (low : List ℕ) (reached : Reached) (end : ℕ) : Type 0 where
    part : Part
    lower : List Row
    number_is : part.number ≡ number
    low_is : part.low ≡ low
    filled : n ≤ length part.items
    tall : length lower ≡ level
    pile : IsPile level end (part ∷ []) lower
    leaves : AreLeaves (leaf_at (part ∷ []) lower) reached.leaves
    same : AreSameNumbers (pages ((part ∷ []) ∷ lower)) reached.pages
    made : AreMade good ((part ∷ []) ∷ lower)
    starts : StartsAt (leaf_at (part ∷ []) lower) low
    rises : Pairwise IsBefore (marks (leaf_at (part ∷ []) lower))
    some : 0 < n → Each (λ p. 0 < length p.items) (leaf_at (part ∷ []) lower)

  -- the entries of an inner node, the first with its bound
  abbrev named : List ℕ → List NodeEntry → List Entry
  named low [] = []
  named low (e ∷ es) = record { pair = low; child = e.child } ∷ map entry_of es

  -- the leaves begin at a bound, where there are nodes
  abbrev Fronts : List NodeEntry → List ℕ → Row → Type 0
  Fronts [] low row = row ≡ []
  Fronts (e ∷ es) low row = StartsAt row low

  record TreesRows (level : ℕ) (low : List ℕ) (es : List NodeEntry) (reached : Reached) (end : ℕ) : Type 0 where
    row : Row
    lower : List Row
    names_are : names row ≡ named low es
    full : Each (λ p. node_least of.width ≤ length p.items) row
    tall : length lower ≡ level
    pile : IsPile level end row lower
    leaves : AreLeaves (leaf_at row lower) reached.leaves
    same : AreSameNumbers (pages (row ∷ lower)) reached.pages
    made : AreMade good (row ∷ lower)
    fronts : Fronts es low (leaf_at row lower)
    rises : Pairwise IsBefore (marks (leaf_at row lower))
    some : Each (λ p. 0 < length p.items) (leaf_at row lower)

  no_rows : (level end : ℕ) (low : List ℕ) → TreesRows level low [] (record { pages = []; leaves = [] }) end
  no_rows level end low = record {
    row = [];
    lower = replicate level [];
    names_are = refl;
    full = tt;
    tall = length-replicate level [];
    pile = none_pile level end;
    leaves = subst (λ (r : Row). AreLeaves r []) (sym (none_leaf level)) tt;
    same = subst (λ (l : List ℕ). AreSameNumbers l []) (sym (none_pages level)) (same_refl []);
    made = (tt, none_made level);
    fronts = none_leaf level;
    rises = subst (λ (r : Row). Pairwise IsBefore (marks r)) (sym (none_leaf level)) tt;
    some = subst (λ (r : Row). Each (λ p. 0 < length p.items) r) (sym (none_leaf level)) tt;
  }

  -- ---- a leaf

  entries_leaf : (pairs : List Pair) → map entry_of (map base_leaf_entry pairs) ≡ map leaf_item pairs
  entries_leaf [] = refl
  entries_leaf (p ∷ pairs) = ap (λ (l : List Entry). leaf_item p ∷ l) (entries_leaf pairs)

  items_rise : (pairs : List Pair) → Each (IsGood of.width) pairs → Pairwise IsBelow pairs → Pairwise (λ a b. IsLess a.pair b.pair) (map leaf_item pairs)
  items_rise [] fine all = tt
  items_rise (p ∷ pairs) fine all = (
    each_map (λ b. IsLess (bytes_of p) b.pair) leaf_item pairs (each_two (IsGood of.width) (IsBelow p) (λ q. IsLess (bytes_of p) (bytes_of q)) pairs (λ q two below. less_of of.width p q fine.0 two below) fine.1 all.0),
    items_rise pairs fine.1 all.1,
  )

  leaf_rows : (n number end : ℕ) (next : Option ℕ) (pairs : List Pair) (low : List ℕ) → good low ≡ true → IsNodeAt held (base_of of) number (record { level = 0; next = next; entries = map base_leaf_entry pairs }) → n ≤ length pairs → next_number next ≡ end
      → Each (λ p. IsLess (bytes_of p) low → ⊥) pairs → Pairwise IsBelow pairs
      → TreeRows 0 n number low (record { pages = number ∷ []; leaves = record { number = number; next = next; pairs = pairs } ∷ [] }) end
  leaf_rows n number end next pairs low fine at many leads above rises =
      let es : List Entry = map leaf_item pairs in
      let node = held_node number (record { level = 0; next = next; entries = map base_leaf_entry pairs }) at in
      let goods = good_pairs of.width pairs (good_entries of.width (map base_leaf_entry pairs) at.is.each) in
      let long : length es ≡ length pairs = length-map pairs leaf_item in
      let less = items_rise pairs goods rises in
      let over : Each (λ e. IsLess e.pair low → ⊥) es = each_map (λ (e : Entry). IsLess e.pair low → ⊥) leaf_item pairs above in
      record {
        part = record { number = number; low = low; items = es };
        lower = [];
        number_is = refl;
        low_is = refl;
        filled = omega (arith, long, many);
        tall = refl;
        pile = (((subst (λ (l : List Entry). HoldsAt (spells of) cells 0 number end l) (entries_leaf pairs) (subst (λ (m : ℕ). HoldsAt (spells of) cells 0 number m (map entry_of (map base_leaf_entry pairs))) leads node)), tt), (omega (arith, long, length-map pairs base_leaf_entry, at.is.few), tt));
        leaves = (refl, refl, tt);
        same = same_refl (number ∷ []);
        made = (((fine, each_map (λ (e : Entry). good e.pair ≡ true) leaf_item pairs (each_weaker (IsGood of.width) (λ p. good (bytes_of p) ≡ true) pairs (λ p is. good_slot of.width p is) goods)), tt), tt);
        starts = record { leaf = record { number = number; low = low; items = es }; more = []; is = refl; low_is = refl };
        rises = subst (Pairwise IsBefore) (sym (append-nil (fence low ∷ map item es))) (item_marks low es over less);
        some = λ pos. (omega (arith, long, many, pos), tt);
      }

  -- ---- inner nodes

  zeros_pair : (first : NodeEntry) → IsFirstEntry of.width first → entry_of first ≡ record { pair = zeros of.width; child = first.child }
  zeros_pair first is =
      let pair : pair_bytes first.key first.tid ≡ zeros of.width =
      (λ i. is.key i ++ (to_be_bytes w32 (is.page i) ++ to_be_bytes w16 (is.slot i)))
      ∙ replicate-append-replicate of.width 6 0 in
      λ i. record { pair = pair i; child = first.child }

  inner_rows : (level n number end : ℕ) (first : NodeEntry) (entries : List NodeEntry) (reached : Reached) (low : List ℕ) → good low ≡ true → IsNodeAt held (base_of of) number (record { level = suc level; next = None; entries = first ∷ entries }) → n ≤ length (first ∷ entries) → IsFirstEntry of.width first
      → TreesRows level low (first ∷ entries) reached end → TreeRows (suc level) n number low (record { pages = number ∷ reached.pages; leaves = reached.leaves }) end
  inner_rows level n number end first entries reached low fine at many is_first rest =
      let es : List Entry = map entry_of entries in
      let all : List Entry = named low (first ∷ entries) in
      let part : Part = record { number = number; low = low; items = all } in
      let node = held_node number (record { level = suc level; next = None; entries = first ∷ entries }) at in
      let there : HoldsAt (spells of) cells (suc level) number no_page (record { pair = zeros of.width; child = first.child } ∷ es) = subst (λ (e : Entry). HoldsAt (spells of) cells (suc level) number no_page (e ∷ es)) (zeros_pair first is_first) node in
      let long : length es ≡ length entries = length-map entries entry_of in
      let goods = good_entries of.width (first ∷ entries) at.is.each in
      let mades : Each (λ e. good e.pair ≡ true) es = each_map (λ (e : Entry). good e.pair ≡ true) entry_of entries (each_weaker (λ e. IsGood of.width (pair_of e)) (λ e. good (pair_bytes e.key e.tid) ≡ true) entries (λ e is. good_slot of.width (pair_of e) is) goods.1) in
      record {
        part = part;
        lower = rest.row ∷ rest.lower;
        number_is = refl;
        low_is = refl;
        filled = omega (arith, long, many);
        tall = ap (λ (k : ℕ). suc k) rest.tall;
        pile = ((there, tt), (omega (arith, long, at.is.few), tt), record { heads = (refl, tt); names_are = append-nil all ∙ sym rest.names_are; full = rest.full }, rest.pile);
        leaves = rest.leaves;
        same = same_append (number ∷ []) (number ∷ []) (pages (rest.row ∷ rest.lower)) reached.pages (same_refl (number ∷ [])) rest.same;
        made = (((fine, (fine, mades)), tt), rest.made);
        starts = rest.fronts;
        rises = rest.rises;
        some = λ pos. rest.some;
      }

  -- ---- nodes side by side

  -- what is known of the first of some nodes: its bound is that of its entry, or nothing is below it
  abbrev Starts : Option Pair → List ℕ → List NodeEntry → List Pair → Type 0
  Starts bound low [] pairs = Unit {0}
  Starts None low (e ∷ es) pairs = (good low ≡ true) × Each (λ p. IsLess (bytes_of p) low → ⊥) pairs
  Starts (Some least) low (e ∷ es) pairs = (low ≡ bytes_of least) × IsGood of.width least

  abbrev next_low : List NodeEntry → List ℕ
  next_low [] = []
  next_low (e ∷ es) = bytes_of (pair_of e)

  starts_next : (es : List NodeEntry) (pairs : List Pair) → Each (λ e. IsGood of.width (pair_of e)) es → Starts (limit_of es) (next_low es) es pairs
  starts_next [] pairs fine = tt
  starts_next (e ∷ es) pairs fine = (refl, fine.0)

  -- a first node's bound is good, and nothing under it is below
  record IsBound (low : List ℕ) (pairs : List Pair) : Type 0 where
    fine : good low ≡ true
    above : Each (λ p. IsLess (bytes_of p) low → ⊥) pairs

  bound_of : (bound limit : Option Pair) (low : List ℕ) (e : NodeEntry) (es : List NodeEntry) (one rest : List Pair) → Starts bound low (e ∷ es) (one ++ rest) → LiesBetween bound limit one → Each (IsGood of.width) one → IsBound low one
  bound_of None limit low e es one rest starts between goods = record { fine = starts.0; above = each_left (λ p. IsLess (bytes_of p) low → ⊥) one rest starts.1 }
  bound_of (Some least) limit low e es one rest starts between goods = record {
    fine = ap good starts.0 ∙ good_slot of.width least starts.1;
    above = each_two (IsGood of.width) (IsAtOrAbove (Some least)) (λ p. IsLess (bytes_of p) low → ⊥) one
        (λ p fine above less. never_less of.width p least fine starts.1 above (subst (IsLess (bytes_of p)) starts.0 less)) goods (each_of (IsAtOrAbove (Some least)) one between.low);
  }

  -- the pairs under one node are below the next one's entry
  under_next : (bound : Option Pair) (e : NodeEntry) (es : List NodeEntry) (one : List Pair) → LiesBetween bound (limit_of (e ∷ es)) one → IsGood of.width (pair_of e) → Each (IsGood of.width) one → Each (λ d. IsLess d.pair (bytes_of (pair_of e))) (map leaf_item one)
  under_next bound e es one between fine goods = each_map (λ (d : Entry). IsLess d.pair (bytes_of (pair_of e))) leaf_item one
      (each_two (IsGood of.width) (IsBelowLimit (Some (pair_of e))) (λ p. IsLess (bytes_of p) (bytes_of (pair_of e))) one (λ p here below. less_of of.width p (pair_of e) here fine below) goods (each_of (IsBelowLimit (Some (pair_of e))) one between.high))

  -- one node beside others
  beside : (level end : ℕ) (bound : Option Pair) (low : List ℕ) (e : NodeEntry) (es : List NodeEntry) (one others : Reached) (mid : ℕ) → (rest : TreesRows level (next_low es) es others end) → mid ≡ first (leaf_at rest.row rest.lower) end → TreeRows level (node_least of.width) e.child low one mid
      → LiesBetween bound (limit_of es) (pairs_of one.leaves) → Each (λ d. IsGood of.width (pair_of d)) es → Each (IsGood of.width) (pairs_of one.leaves) → 0 < node_least of.width → TreesRows level low (e ∷ es) (both_reached one others) end
  beside level end bound low e es one others mid rest mid_is tree between fine goods pos =
      let tall : length tree.lower ≡ length rest.lower = tree.tall ∙ sym rest.tall in
      let x : Row = tree.part ∷ [] in
      let leaves_split = leaf_join x rest.row tree.lower rest.lower tall in
      let has = tree.some pos in
      record {
        row = x ++ rest.row;
        lower = join tree.lower rest.lower;
        names_are = (λ i. record { pair = tree.low_is i; child = tree.number_is i } ∷ rest.names_are i) ∙ ap (λ (l : List Entry). record { pair = low; child = e.child } ∷ l) (next_names es);
        full = (tree.filled, rest.full);
        tall = join_length tree.lower rest.lower level tree.tall rest.tall;
        pile = pile_join level end x rest.row tree.lower rest.lower (subst (λ (n : ℕ). IsPile level n x tree.lower) mid_is tree.pile) rest.pile;
        leaves = subst (λ (r : Row). AreLeaves r (one.leaves ++ others.leaves)) (sym leaves_split) (leaves_join (leaf_at x tree.lower) (leaf_at rest.row rest.lower) one.leaves others.leaves tree.leaves rest.leaves);
        same = same_trans (pages ((x ++ rest.row) ∷ join tree.lower rest.lower)) (pages (x ∷ tree.lower) ++ pages (rest.row ∷ rest.lower)) (one.pages ++ others.pages) (pages_join x rest.row tree.lower rest.lower tall)
            (same_append (pages (x ∷ tree.lower)) one.pages (pages (rest.row ∷ rest.lower)) others.pages tree.same rest.same);
        made = (each_append (IsMade good) x rest.row tree.made.0 rest.made.0, made_join good tree.lower rest.lower tree.made.1 rest.made.1);
        fronts = subst (λ (r : Row). StartsAt r low) (sym leaves_split) (starts_append (leaf_at x tree.lower) (leaf_at rest.row rest.lower) low tree.starts);
        rises = subst (λ (r : Row). Pairwise IsBefore (marks r)) (sym leaves_split) (both es rest between fine has);
        some = subst (Each (λ p. 0 < length p.items)) (sym leaves_split) (each_append (λ p. 0 < length p.items) (leaf_at x tree.lower) (leaf_at rest.row rest.lower) has rest.some);
      }
    where
      next_names : (es : List NodeEntry) → named (next_low es) es ≡ map entry_of es
      next_names [] = refl
      next_names (d ∷ es) = refl

      both : (es : List NodeEntry) (rest : TreesRows level (next_low es) es others end) → LiesBetween bound (limit_of es) (pairs_of one.leaves) → Each (λ d. IsGood of.width (pair_of d)) es → Each (λ p. 0 < length p.items) (leaf_at (tree.part ∷ []) tree.lower) → Pairwise IsBefore (marks (leaf_at (tree.part ∷ []) tree.lower ++ leaf_at rest.row rest.lower))
      both [] rest between fine has = subst (λ (r : Row). Pairwise IsBefore (marks (leaf_at (tree.part ∷ []) tree.lower ++ r))) (sym rest.fronts) (subst (λ (r : Row). Pairwise IsBefore (marks r)) (sym (append-nil (leaf_at (tree.part ∷ []) tree.lower))) tree.rises)
      both (d ∷ es) rest between fine has =
          let under = subst (Each (λ x. IsLess x.pair (bytes_of (pair_of d)))) (sym (leaves_items (leaf_at (tree.part ∷ []) tree.lower) one.leaves tree.leaves)) (under_next bound d es (pairs_of one.leaves) between fine.0 goods) in
          marks_join (leaf_at (tree.part ∷ []) tree.lower) (leaf_at rest.row rest.lower) (bytes_of (pair_of d)) rest.fronts has tree.rises rest.rises under

  -- ---- trees

  flat_pairs : (xs ys : List Leaf) → pairs_of (xs ++ ys) ≡ pairs_of xs ++ pairs_of ys
  flat_pairs xs ys = flat_map-append (λ (leaf : Leaf). leaf.pairs) xs ys

  mutual
    goods_of : {n level number : ℕ} {reached : Reached} → IsBaseTree held (base_of of) n level number reached → Each (IsGood of.width) (pairs_of reached.leaves)
    goods_of (is_leaf {pairs = pairs} at many) = subst (Each (IsGood of.width)) (sym (append-nil pairs)) (good_pairs of.width pairs (good_entries of.width (map base_leaf_entry pairs) at.is.each))
    goods_of (is_inner at many is_first trees) = all_goods trees

    all_goods : {level : ℕ} {bound : Option Pair} {es : List NodeEntry} {reached : Reached} → AreTrees held (base_of of) level bound es reached → Each (IsGood of.width) (pairs_of reached.leaves)
    all_goods no_child = tt
    all_goods (one_more {one = one} {rest = rest} tree between others) = subst (Each (IsGood of.width)) (sym (flat_pairs one.leaves rest.leaves)) (each_append (IsGood of.width) (pairs_of one.leaves) (pairs_of rest.leaves) (goods_of tree) (all_goods others))

  filled_one : 0 < node_least of.width
  filled_one = let most = many of.width fit.narrow in omega (arith, most)

  mutual
    tree_rows : {n level number : ℕ} {reached : Reached} → IsBaseTree held (base_of of) n level number reached → (low : List ℕ) (end : ℕ) → IsBound low (pairs_of reached.leaves) → Pairwise IsBelow (pairs_of reached.leaves) → LeadTo reached.leaves end → TreeRows level n number low reached end
    tree_rows (is_leaf {least = n} {number = number} {next = next} {pairs = pairs} at much) low end bound rises leads =
        leaf_rows n number end next pairs low bound.fine at much leads.0 (subst (Each (λ p. IsLess (bytes_of p) low → ⊥)) (append-nil pairs) bound.above) (subst (Pairwise IsBelow) (append-nil pairs) rises)
    tree_rows (is_inner {least = n} {level = level} {number = number} {first = first} {entries = entries} {reached = reached} at much is_first trees) low end bound rises leads =
        inner_rows level n number end first entries reached low bound.fine at much is_first (trees_rows trees low end (bound.fine, bound.above) (good_entries of.width (first ∷ entries) at.is.each) rises leads)

    trees_rows : {level : ℕ} {bound : Option Pair} {es : List NodeEntry} {reached : Reached} → AreTrees held (base_of of) level bound es reached → (low : List ℕ) (end : ℕ) → Starts bound low es (pairs_of reached.leaves) → Each (λ e. IsGood of.width (pair_of e)) es → Pairwise IsBelow (pairs_of reached.leaves) → LeadTo reached.leaves end → TreesRows level low es reached end
    trees_rows (no_child {level = level}) low end starts goods rises leads = no_rows level end low
    trees_rows (one_more {level = level} {least = bound} {entry = e} {entries = es} {one = one} {rest = rest} tree between others) low end starts goods rises leads =
        let split = flat_pairs one.leaves rest.leaves in
        let both : Pairwise IsBelow (pairs_of one.leaves ++ pairs_of rest.leaves) = subst (Pairwise IsBelow) split rises in
        let behind = trees_rows others (next_low es) end (starts_next es (pairs_of rest.leaves) goods.1) goods.1 (pairwise_right IsBelow (pairs_of one.leaves) (pairs_of rest.leaves) both) (lead_right one.leaves rest.leaves end leads) in
        let fine = goods_of tree in
        let bound_is = bound_of bound (limit_of es) low e es (pairs_of one.leaves) (pairs_of rest.leaves) (subst (Starts bound low (e ∷ es)) split starts) between fine in
        let here = tree_rows tree low (first_leaf rest.leaves end) bound_is (pairwise_left IsBelow (pairs_of one.leaves) (pairs_of rest.leaves) both) (lead_left one.leaves rest.leaves end leads) in
        beside level end bound low e es one rest (first_leaf rest.leaves end) behind (first_is (leaf_at behind.row behind.lower) rest.leaves end behind.leaves) here between goods.1 fine filled_one

  pub stack_of : (pairs : List (List ℕ)) (level : ℕ) (row : Row) (lower : List Row) → length lower ≡ level → IsPile level no_page row lower → IsLeaves pairs (leaf_at row lower) → IsStack (spells of) cells of.width pairs (row ∷ lower)
  stack_of pairs zero row [] tall pile leaves = (record { held = pile.0; few = pile.1 }, leaves)
  stack_of pairs zero row (l ∷ rows) tall pile leaves = absurd pile
  stack_of pairs (suc level) row [] tall pile leaves = absurd pile
  stack_of pairs (suc level) row (l ∷ rows) tall pile leaves =
      let same : length rows ≡ level = omega (arith, tall) in (
        record { held = subst (λ (n : ℕ). HoldsRow (spells of) cells of.width (suc n) row no_page) (sym same) pile.0; few = pile.1 },
        pile.2,
        stack_of pairs level l rows same pile.3 leaves,
      )

-- ---- the image

apart_of : (ns : List ℕ) → AreDifferent ns → Pairwise (λ a b. a ≢ b) ns
apart_of [] different = tt
apart_of (n ∷ ns) different = (
  each_off n ns (λ k lt same. let never : 0 ≡ suc k = different 0 (suc k) (omega arith) (omega (arith, lt)) same in omega (arith, never)),
  apart_of ns (λ j k one two same. let next : suc j ≡ suc k = different (suc j) (suc k) (omega (arith, one)) (omega (arith, two)) same in omega (arith, next)),
)
  where
    each_off : (n : ℕ) (ns : List ℕ) → ((k : ℕ) → k < length ns → n ≡ slice_index ns k → ⊥) → Each (λ m. n ≢ m) ns
    each_off n [] off = tt
    each_off n (m ∷ ns) off = (λ is. off 0 (omega arith) is, each_off n ns (λ k lt same. off (suc k) (omega (arith, lt)) same))

root_branches : (level n : ℕ) → root_least level ≤ n → 0 < level → 2 ≤ n
root_branches zero n few pos = absurd (omega (arith, pos))
root_branches (suc level) n few pos = few

items_said : (pairs : List Pair) → map leaf_item pairs ≡ map leaf_entry (map (λ pair. pair_bytes pair.key pair.tid) pairs)
items_said [] = refl
items_said (p ∷ pairs) = ap (λ (l : List Entry). leaf_item p ∷ l) (items_said pairs)

zeros_above : (width : ℕ) (pairs : List Pair) → Each (IsGood width) pairs → Each (λ p. IsLess (bytes_of p) (zeros width) → ⊥) pairs
zeros_above width [] goods = tt
zeros_above width (p ∷ pairs) goods = (zeros_least (bytes_of p) (width + 6) (long_pair width p.key p.tid (bytes_of p) refl goods.0.long), zeros_above width pairs goods.1)

pub same_tree : (image : Image) (held : Held) → AreNodes (nodes_of image) → AreNumbered (cells_of (nodes_of image) held) → (numbers : List ℕ) (pairs : List Pair) → IsImage held (base_of (nodes_of image)) image.root image.levels numbers pairs → AreDifferent numbers → HasSameTree image held numbers pairs
same_tree image held fit numbered numbers pairs is different =
    let of : Nodes = nodes_of image in
    let goods = goods_of held of fit numbered is.tree in
    let low : List ℕ = zeros image.width in
    let rows = tree_rows held of fit numbered is.tree low no_page (record { fine = zeros_slot image.width; above = zeros_above image.width (pairs_of is.reached.leaves) goods })
    (subst (Pairwise IsBelow) is.pairs_are (rising_pairs pairs is.rising)) (lead is.reached.leaves is.chained) in
    let leaf : Row = leaf_at (rows.part ∷ []) rows.lower in
    let leaves : IsLeaves (map (λ pair. pair_bytes pair.key pair.tid) pairs) leaf = record {
      pairs_are = leaves_items leaf is.reached.leaves rows.leaves ∙ ap (λ (l : List Pair). map leaf_item l) (sym is.pairs_are) ∙ items_said pairs;
      rises = rows.rises;
    } in
    record {
      tree = record {
        top = rows.part;
        lower = rows.lower;
        tree = record {
          stack = stack_of held of fit numbered (map (λ pair. pair_bytes pair.key pair.tid) pairs) (image.levels - 1) (rows.part ∷ []) rows.lower rows.tall rows.pile leaves;
          at_root = rows.number_is;
          low = rows.low_is;
          high = omega (arith, rows.tall, is.some);
          branches = λ pos. root_branches (image.levels - 1) (length rows.part.items) rows.filled (omega (arith, pos, rows.tall));
          distinct = rows.same.distinct (apart_of is.reached.pages (subst AreDifferent is.pages_are different));
        };
        made = rows.made;
      };
      same = subst (AreSameNumbers (pages ((rows.part ∷ []) ∷ rows.lower))) (sym is.pages_are) rows.same;
    }
