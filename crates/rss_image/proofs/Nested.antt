-- An image by its rows is one by its nodes.
use Rattle.std.proofs.Common.{◌≡◌, ◌≢◌, ⊎_elim, ℕ, suc, zero, ◌+◌, ◌-◌, ◌<◌, ◌≤◌, List, [], ◌∷◌, ◌++◌, length, map, take, drop, replicate, Option, Some, None, true, false, ◌==◌, refl, sym, ◌∙◌, ap, subst, rules, arith}
use Rattle.std.specs.Prelude.{All, slice_index}
use Rattle.std.specs.Int.{w16, w32, from_be_bytes}
use Rattle.std.specs.Ordering.{nat_cmp, is_lt}
use Rattle.std.specs.Cmp.{nat_cmp_is}
use Rattle.std.specs.declared.cmp.Ordering.TheVariants.{Equal, Greater}
use Rattle.std.proofs.lemmas.Bool.{cases_lt, cond-false}
use Rattle.std.proofs.lemmas.Grind.{flat_map-append}
use Rattle.std.proofs.lemmas.List.{length-map, length-drop, append-nil, map-append, take_all, take-replicate, drop-replicate}
use Rattle.std.proofs.lemmas.List.Elements.{All-nil, All-cons}
use Rattle.rss_base.specs.Paged.{Held}
use Rattle.rss_base.specs.Nodes.{NodeEntry, IsNodePage, node_least}
use Rattle.rss_base.specs.Trees.{Pair, IsBelow, AreRising, pair_of, leaf_entry as base_leaf_entry, Leaf, Reached, pairs_of, IsNodeAt, IsAtOrAbove, IsUnder as IsBelowLimit, limit_of, LiesBetween, IsFirstEntry, IsTree as IsBaseTree, is_leaf, is_inner, AreTrees, no_child, one_more, root_least, AreChained}
use Rattle.rss_base.specs.Listings.{AreDifferent}
use Rattle.rss_base.specs.Entries.{Entry, IsLess, no_page}
use Rattle.rss_levels.specs.Entries.{Each, Pairwise, zeros}
use Rattle.rss_levels.specs.Rows.{Part, Row, Cells, HoldsAt, HoldsRow, IsStack, IsLeaves, Mark, IsBefore, Begins, fence, item, marks, marks_of, items, name, names, first, link, leaf_entry, stored}
use Rattle.rss_levels.specs.Nested.{AreSameNumbers, IsUnder, AreUnder, leaf_under, inner_under, none_under, more_under}
use Rattle.rss_levels.specs.Spots.{IsMade, AreMade}
use Rattle.rss_levels.proofs.Lists.{each_append, each_left, each_right, each_two, each_weaker, pairwise_left, pairwise_right, pairwise_cross}
use Rattle.rss_base.proofs.Entries.{less_never}
use Rattle.rss_levels.proofs.Order.{before_trans, before_less, less_fence, less_fences, less_item}
use Rattle.rss_levels.proofs.Nesting.{StackUnder, stack_under}
use Rattle.rss_node.specs.Pairs.{IsWhole, pair_from, tid_from, key_from, node_entry, next_from, HasSlot}
use Rattle.rss_node.specs.declared.pair.Nodes.{Nodes}
use Rattle.rss_node.proofs.Agreed.{base_page, whole_page, whole_cmp}
use Rattle.rss_image.specs.Trees.{cells_of, spells, node_of}
use Rattle.rss_image.specs.Images.{nodes_of, has_slot, ImageTree, pages_of}
use Rattle.rss_image.specs.Agreement.{base_of, AreNumbered, IsSameImage}
use Rattle.rss_image.specs.declared.image.Image.{Image}
use Rattle.rss_image.proofs.Putting.{zeros_slot}

-- ---- what a page says

-- what a page says of a node, by the definition of the base, and what else is known of it
record IsSaid (of : Nodes) (bytes : List ℕ) (level number next : ℕ) (es : List Entry) : Type 0 where
  is : IsNodePage (base_of of) number bytes (record { level = level; next = next_from next; entries = map (node_entry of.width) es })
  whole : Each (λ e. IsWhole of.width e.pair) es
  low : number < no_page
  childless : level ≡ 0 → Each (λ e. e.child ≡ 0) es

whole_slot : (width : ℕ) (e : Entry) → IsWhole width e.pair → has_slot width e.pair ≡ true → HasSlot width e
whole_slot width e whole has =
    let all : take 2 (drop (width + 4) e.pair) ≡ drop (width + 4) e.pair = take_all 2 (drop (width + 4) e.pair) (omega (arith, length-drop (width + 4) e.pair, whole.long)) in
    subst (λ (l : List ℕ). from_be_bytes w16 l < 128) (sym all) (is_lt_below (from_be_bytes w16 (drop (width + 4) e.pair)) has)
  where
    is_lt_below : (n : ℕ) → is_lt (nat_cmp n 128) ≡ true → n < 128
    is_lt_below n is = ⊎_elim
        (λ (lt : n < 128). lt)
        (λ (le : 128 ≤ n). ⊎_elim
        (λ (gt : 128 < n). let o : Greater ≡ nat_cmp n 128 = nat_cmp_is n 128 Greater gt in let never : true ≡ false = sym is ∙ ap is_lt (sym o) in absurd (cc))
        (λ (low : n ≤ 128). let o : Equal ≡ nat_cmp n 128 = nat_cmp_is n 128 Equal (omega arith) in let never : true ≡ false = sym is ∙ ap is_lt (sym o) in absurd (cc))
        (cases_lt 128 n))
        (cases_lt n 128)

whole_slots : (width : ℕ) (es : List Entry) → Each (λ e. IsWhole width e.pair) es → Each (λ e. has_slot width e.pair ≡ true) es → Each (HasSlot width) es
whole_slots width [] whole good = tt
whole_slots width (e ∷ es) whole good = (whole_slot width e whole.0 good.0, whole_slots width es whole.1 good.1)

stored_good : (width level : ℕ) (es : List Entry) → Each (λ e. has_slot width e.pair ≡ true) es → Each (λ e. has_slot width e.pair ≡ true) (stored width level es)
stored_good width zero es good = good
stored_good width (suc level) [] good = tt
stored_good width (suc level) (e ∷ es) good = (zeros_slot width, good.1)

module _ (of : Nodes) (cells : Cells) (numbered : AreNumbered cells) where
  said : (level number next : ℕ) (es : List Entry) → Each (λ e. has_slot of.width e.pair ≡ true) es → (level ≡ 0 → Each (λ e. e.child ≡ 0) es) → HoldsAt (spells of) cells level number next es → HoldsAt (IsSaid of) cells level number next es
  said level number next es good childless held =
      let whole = whole_page held.bytes (node_of of level number next es) held.spells in
      record {
        bytes = held.bytes;
        held = held.held;
        spells = record {
          is = base_page held.bytes (node_of of level number next es) held.spells (whole_slots of.width es whole good);
          whole = whole;
          low = numbered number held.bytes held.held;
          childless = childless;
        };
      }

  said_row : (level : ℕ) (row : Row) (end : ℕ) → Each (IsMade (has_slot of.width)) row → (level ≡ 0 → Each (λ e. e.child ≡ 0) (items row)) → HoldsRow (spells of) cells of.width level row end → HoldsRow (IsSaid of) cells of.width level row end
  said_row level [] end made childless held = tt
  said_row level (p ∷ row) end made childless held = (
    said level p.number (link level row end) (stored of.width level p.items) (stored_good of.width level p.items made.0.1) (stored_childless level p.items (λ is. each_left (λ e. e.child ≡ 0) p.items (items row) (childless is))) held.0,
    said_row level row end made.1 (λ is. each_right (λ e. e.child ≡ 0) p.items (items row) (childless is)) held.1,
  )
    where
      stored_childless : (level : ℕ) (es : List Entry) → (level ≡ 0 → Each (λ e. e.child ≡ 0) es) → level ≡ 0 → Each (λ e. e.child ≡ 0) (stored of.width level es)
      stored_childless zero es none is = none is
      stored_childless (suc level) es none is = absurd (omega (arith, is))

  leaf_childless : (pairs : List (List ℕ)) → Each (λ e. e.child ≡ 0) (map leaf_entry pairs)
  leaf_childless [] = tt
  leaf_childless (p ∷ pairs) = (refl, leaf_childless pairs)

  said_stack : (pairs : List (List ℕ)) (row : Row) (lower : List Row) → AreMade (has_slot of.width) (row ∷ lower) → IsStack (spells of) cells of.width pairs (row ∷ lower) → IsStack (IsSaid of) cells of.width pairs (row ∷ lower)
  said_stack pairs row [] made stack = (
    record { held = said_row 0 row no_page made.0 (λ is. subst (Each (λ e. e.child ≡ 0)) (sym stack.1.pairs_are) (leaf_childless pairs)) stack.0.held; few = stack.0.few },
    stack.1,
  )
  said_stack pairs row (l ∷ lower) made stack = (
    record { held = said_row (suc (length lower)) row no_page made.0 (λ is. absurd (omega (arith, is))) stack.0.held; few = stack.0.few },
    stack.1,
    said_stack pairs l lower made.1 stack.2,
  )

-- ---- pairs and leaves

less_below : (width : ℕ) (a b : List ℕ) → IsWhole width a → IsWhole width b → IsLess a b → IsBelow (pair_from width a) (pair_from width b)
less_below width a b one two less = sym (whole_cmp width a b one two) ∙ less.is

never_below : (width : ℕ) (a b : List ℕ) → IsWhole width a → IsWhole width b → (IsLess a b → ⊥) → IsBelow (pair_from width a) (pair_from width b) → ⊥
never_below width a b one two never below = never (record { is = whole_cmp width a b one two ∙ below })

abbrev leaves_of : ℕ → Row → ℕ → List Leaf
leaves_of width [] end = []
leaves_of width (p ∷ row) end = record { number = p.number; next = next_from (first row end); pairs = map (λ e. pair_from width e.pair) p.items } ∷ leaves_of width row end

leaves_append : (width : ℕ) (xs ys : Row) (end : ℕ) → leaves_of width (xs ++ ys) end ≡ leaves_of width xs (first ys end) ++ leaves_of width ys end
leaves_append width [] ys end = refl
leaves_append width (x ∷ []) ys end = refl
leaves_append width (x ∷ z ∷ xs) ys end = ap (λ (l : List Leaf). record { number = x.number; next = next_from z.number; pairs = map (λ e. pair_from width e.pair) x.items } ∷ l) (leaves_append width (z ∷ xs) ys end)

leaves_pairs : (width : ℕ) (row : Row) (end : ℕ) → pairs_of (leaves_of width row end) ≡ map (λ e. pair_from width e.pair) (items row)
leaves_pairs width [] end = refl
leaves_pairs width (p ∷ row) end = ap (λ (l : List Pair). map (λ e. pair_from width e.pair) p.items ++ l) (leaves_pairs width row end) ∙ sym (map-append (λ e. pair_from width e.pair) p.items (items row))

unmapped : (P : Mark → Type 0) (es : List Entry) → Each P (map item es) → Each (λ e. P (item e)) es
unmapped P [] all = tt
unmapped P (e ∷ es) all = (all.0, unmapped P es all.1)

-- what holds of each mark of a row
marks_items : (P : Mark → Type 0) (row : Row) → Each P (marks row) → Each (λ e. P (item e)) (items row)
marks_items P [] all = tt
marks_items P (p ∷ row) all = each_append (λ e. P (item e)) p.items (items row) (unmapped P p.items (each_left P (map item p.items) (marks row) all.1)) (marks_items P row (each_right P (map item p.items) (marks row) all.1))

chained : (width : ℕ) (row : Row) → Each (λ p. p.number < no_page) row → AreChained (leaves_of width row no_page)
chained width [] low = tt
chained width (p ∷ []) low = refl
chained width (p ∷ q ∷ row) low = (next_is q.number low.1.0, chained width (q ∷ row) low.1)
  where
    next_is : (n : ℕ) → n < no_page → next_from n ≡ Some n
    next_is n lt = let off : n ≢ 4294967295 = λ is. omega (arith, is, lt) in cond-false (n == 4294967295) None (Some n) (search rules)

all_of : {X Y : Type 0} (P : Y → Type 0) (f : X → Y) (xs : List X) → Each (λ x. P (f x)) xs → All P (map f xs)
all_of P f [] all = All-nil P
all_of P f (x ∷ xs) all = All-cons P (f x) (map f xs) all.0 (all_of P f xs all.1)

-- ---- nodes, with what stands under them

-- the row begins with a leaf of this bound
pub record StartsAt (row : Row) (low : List ℕ) : Type 0 where
  pub leaf : Part
  pub more : Row
  pub is : row ≡ leaf ∷ more
  pub low_is : leaf.low ≡ low

pub starts_append : (xs ys : Row) (low : List ℕ) → StartsAt xs low → StartsAt (xs ++ ys) low
starts_append xs ys low starts = record { leaf = starts.leaf; more = starts.more ++ ys; is = ap (λ (l : Row). l ++ ys) starts.is; low_is = starts.low_is }

module _ (held : Held) (of : Nodes) where
  abbrev cells : Cells
  cells = cells_of of held

  record IsFine (p : Part) : Type 0 where
    whole : Each (λ e. IsWhole of.width e.pair) p.items
    low : p.number < no_page

  record IsStarted (p : Part) (leaves : Row) : Type 0 where
    starts : StartsAt leaves p.low
    fine : Each IsFine leaves

  record AreStarted (row leaves : Row) : Type 0 where
    starts : (p : Part) (rest : Row) → row ≡ p ∷ rest → StartsAt leaves p.low
    fine : Each IsFine leaves

  -- a node begins where the first one below it does
  first_of : (low : List ℕ) (es : List Entry) (row leaves : Row) → Begins low es → es ≡ names row → ((p : Part) (rest : Row) → row ≡ p ∷ rest → StartsAt leaves p.low) → StartsAt leaves low
  first_of low [] row leaves begins are starts = absurd begins
  first_of low (e ∷ es) [] leaves begins are starts = absurd (cc)
  first_of low (e ∷ es) (p ∷ row) leaves begins are starts =
      let same : name p ≡ e = cc in
      subst (StartsAt leaves) (ap (λ (x : Entry). x.pair) same ∙ begins) (starts p row refl)

  mutual
    started : (level : ℕ) (p : Part) (ns : List ℕ) (leaves : Row) (end : ℕ) → IsUnder (IsSaid of) cells of.width level p ns leaves end → IsStarted p leaves
    started _ p _ _ end (leaf_under holds) = record { starts = record { leaf = p; more = []; is = refl; low_is = refl }; fine = (record { whole = holds.spells.whole; low = holds.spells.low }, tt) }
    started _ p _ leaves end (inner_under {level = level} {row = row} {ns = ns} holds head are full under) =
        let rest = started_row level row ns leaves end under in
        record { starts = first_of p.low p.items row leaves head are rest.starts; fine = rest.fine }

    started_row : (level : ℕ) (row : Row) (ns : List ℕ) (leaves : Row) (end : ℕ) → AreUnder (IsSaid of) cells of.width level row ns leaves end → AreStarted row leaves
    started_row level [] _ _ end none_under = record { starts = λ p rest is. absurd (cc); fine = tt }
    started_row level (p ∷ row) _ _ end (more_under {ns = ns} {ms = ms} {leaves = leaves} {more = more} here rest) =
        let one = started level p ns leaves (first more end) here in
        let two = started_row level row ms more end rest in
        record {
          starts = λ q others is. let same : p ≡ q = cc in subst (λ (x : Part). StartsAt (leaves ++ more) x.low) same (starts_append leaves more p.low one.starts);
          fine = each_append IsFine leaves more one.fine two.fine;
        }

  -- ---- bounds

  -- what the entry before some nodes says of the first one's bound: nothing of the first of all
  abbrev IsLow : Option Pair → List ℕ → Type 0
  IsLow None low = Unit {0}
  IsLow (Some least) low = (least ≡ pair_from of.width low) × IsWhole of.width low

  -- entries name the nodes of a row, each with its bound, but for the first
  abbrev AreNames : Option Pair → Row → List NodeEntry → Type 0
  AreNames bound [] [] = Unit {0}
  AreNames bound [] (e ∷ es) = ⊥
  AreNames bound (p ∷ row) [] = ⊥
  AreNames bound (p ∷ row) (e ∷ es) = (e.child ≡ p.number) × IsLow bound p.low × AreNames (limit_of es) row es

  names_are : (row : Row) → Each (λ e. IsWhole of.width e.pair) (names row) → AreNames (limit_of (map (node_entry of.width) (names row))) row (map (node_entry of.width) (names row))
  names_are [] whole = tt
  names_are (p ∷ row) whole = (refl, (refl, whole.0), names_are row whole.1)

  first_names : (level : ℕ) (low : List ℕ) (es : List Entry) (row : Row) → es ≡ names row → Begins low es → Each (λ e. IsWhole of.width e.pair) (stored of.width (suc level) es) → AreNames None row (map (node_entry of.width) (stored of.width (suc level) es))
  first_names level low [] row are head whole = absurd head
  first_names level low (e ∷ es) [] are head whole = absurd (cc)
  first_names level low (e ∷ es) (p ∷ row) are head whole =
      let here : name p ≡ e = cc in
      let rest : es ≡ names row = cc in
      let others = names_are row (subst (Each (λ x. IsWhole of.width x.pair)) rest whole.1) in
      (ap (λ (x : Entry). x.child) (sym here), tt, subst (λ (l : List Entry). AreNames (limit_of (map (node_entry of.width) l)) row (map (node_entry of.width) l)) (sym rest) others)

  items_whole : (row : Row) → Each IsFine row → Each (λ e. IsWhole of.width e.pair) (items row)
  items_whole [] fine = tt
  items_whole (p ∷ row) fine = each_append (λ e. IsWhole of.width e.pair) p.items (items row) fine.0.whole (items_whole row fine.1)

  -- no pair of leaves is below the bound of the first
  from_bound : (row : Row) (low : List ℕ) → StartsAt row low → Pairwise IsBefore (marks row) → Each (λ e. IsLess e.pair low → ⊥) (items row)
  from_bound row low starts rises =
      let cut = subst (λ (r : Row). Pairwise IsBefore (marks r)) starts.is rises in
      let above : Each (λ e. IsBefore (fence starts.leaf.low) (item e)) (items (starts.leaf ∷ starts.more)) = behind_all starts.leaf starts.more cut.0 in
      subst (λ (r : Row). Each (λ e. IsLess e.pair low → ⊥) (items r)) (sym starts.is)
      (each_weaker (λ e. IsBefore (fence starts.leaf.low) (item e)) (λ e. IsLess e.pair low → ⊥) (items (starts.leaf ∷ starts.more)) (λ e is less. never starts.leaf.low low e starts.low_is is less) above)
    where
      never : (a low : List ℕ) (e : Entry) → a ≡ low → IsBefore (fence a) (item e) → IsLess e.pair low → ⊥
      never a low e same is less =
          let back : IsBefore (item e) (fence a) = before_less (subst (IsLess e.pair) (sym same) less) in
          less_never (less_fences a a (before_trans is back))

      behind_all : (p : Part) (more : Row) → Each (IsBefore (fence p.low)) (map item p.items ++ marks more) → Each (λ e. IsBefore (fence p.low) (item e)) (items (p ∷ more))
      behind_all p more all = let P : Mark → Type 0 = IsBefore (fence p.low) in each_append (λ e. P (item e)) p.items (items more) (unmapped P p.items (each_left P (map item p.items) (marks more) all)) (marks_items P more (each_right P (map item p.items) (marks more) all))

  -- and each is below the bound of those behind
  below_bound : (row more : Row) (low : List ℕ) → StartsAt more low → Pairwise IsBefore (marks (row ++ more)) → Each (λ e. IsLess e.pair low) (items row)
  below_bound row more low starts rises =
      let both : Pairwise IsBefore (marks row ++ marks more) = subst (Pairwise IsBefore) (flat_map-append marks_of row more) rises in
      let cross = pairwise_cross IsBefore (marks row) (marks more) both in
      let heads : Each (λ m. IsBefore m (fence low)) (marks row) = each_weaker (λ m. Each (IsBefore m) (marks more)) (λ m. IsBefore m (fence low)) (marks row) (λ m all. head_of m all) cross in
      each_weaker (λ e. IsBefore (item e) (fence low)) (λ e. IsLess e.pair low) (items row) (λ e is. less_fence e low is) (marks_items (λ m. IsBefore m (fence low)) row heads)
    where
      head_of : (m : Mark) → Each (IsBefore m) (marks more) → IsBefore m (fence low)
      head_of m all =
          let there = subst (λ (r : Row). Each (IsBefore m) (marks r)) starts.is all in
          subst (λ (l : List ℕ). IsBefore m (fence l)) starts.low_is there.0

  low_pairs : (bound : Option Pair) (low : List ℕ) (es : List Entry) → IsLow bound low → Each (λ e. IsWhole of.width e.pair) es → Each (λ e. IsLess e.pair low → ⊥) es → All (IsAtOrAbove bound) (map (λ e. pair_from of.width e.pair) es)
  low_pairs None low es is whole above = all_of (IsAtOrAbove None) (λ e. pair_from of.width e.pair) es (free es)
    where
      free : (es : List Entry) → Each (λ e. IsAtOrAbove None (pair_from of.width e.pair)) es
      free [] = tt
      free (e ∷ es) = (tt, free es)
  low_pairs (Some bound) low es is whole above = all_of (IsAtOrAbove (Some bound)) (λ e. pair_from of.width e.pair) es
      (each_two (λ e. IsWhole of.width e.pair) (λ e. IsLess e.pair low → ⊥) (λ e. IsAtOrAbove (Some bound) (pair_from of.width e.pair)) es
      (λ e one two below. never_below of.width e.pair low one is.1 two (subst (IsBelow (pair_from of.width e.pair)) is.0 below)) whole above)

  high_pairs : (bound : Pair) (low : List ℕ) (es : List Entry) → bound ≡ pair_from of.width low → IsWhole of.width low → Each (λ e. IsWhole of.width e.pair) es → Each (λ e. IsLess e.pair low) es → All (IsBelowLimit (Some bound)) (map (λ e. pair_from of.width e.pair) es)
  high_pairs bound low es is fine whole under = all_of (IsBelowLimit (Some bound)) (λ e. pair_from of.width e.pair) es
      (each_two (λ e. IsWhole of.width e.pair) (λ e. IsLess e.pair low) (λ e. IsBelowLimit (Some bound) (pair_from of.width e.pair)) es
      (λ e one two. subst (IsBelow (pair_from of.width e.pair)) (sym is) (less_below of.width e.pair low one fine two)) whole under)

  free_pairs : (pairs : List Pair) → All (IsBelowLimit None) pairs
  free_pairs [] = All-nil (IsBelowLimit None)
  free_pairs (p ∷ pairs) = All-cons (IsBelowLimit None) p pairs tt (free_pairs pairs)

  -- the pairs under a node lie between its entry and the next
  lies : (bound : Option Pair) (p : Part) (row : Row) (es : List NodeEntry) (leaves more : Row) (end : ℕ) → IsLow bound p.low → AreNames (limit_of es) row es → IsStarted p leaves → AreStarted row more → Pairwise IsBefore (marks (leaves ++ more)) → LiesBetween bound (limit_of es) (pairs_of (leaves_of of.width leaves end))
  lies bound p row es leaves more end low named one two rises =
      let both : Pairwise IsBefore (marks leaves ++ marks more) = subst (Pairwise IsBefore) (flat_map-append marks_of leaves more) rises in
      let mine = pairwise_left IsBefore (marks leaves) (marks more) both in
      let whole = items_whole leaves one.fine in
      subst (LiesBetween bound (limit_of es)) (sym (leaves_pairs of.width leaves end)) (record {
        low = low_pairs bound p.low (items leaves) low whole (from_bound leaves p.low one.starts mine);
        high = limited row es named two whole;
      })
    where
      limited : (row : Row) (es : List NodeEntry) → AreNames (limit_of es) row es → AreStarted row more → Each (λ e. IsWhole of.width e.pair) (items leaves) → All (IsBelowLimit (limit_of es)) (map (λ e. pair_from of.width e.pair) (items leaves))
      limited [] [] named two whole = free_pairs (map (λ e. pair_from of.width e.pair) (items leaves))
      limited [] (e ∷ es) named two whole = absurd named
      limited (q ∷ row) [] named two whole = absurd named
      limited (q ∷ row) (e ∷ es) named two whole = high_pairs (pair_of e) q.low (items leaves) named.1.0 named.1.1 whole (below_bound leaves more q.low (two.starts q row refl) rises)

  -- ---- trees

  node_there : (level number next : ℕ) (es : List Entry) → HoldsAt (IsSaid of) cells level number next es → IsNodeAt held (base_of of) number (record { level = level; next = next_from next; entries = map (node_entry of.width) es })
  node_there level number next es holds = record { bytes = holds.bytes; there = holds.held; is = holds.spells.is }

  leaf_entries : (es : List Entry) → Each (λ e. e.child ≡ 0) es → map (node_entry of.width) es ≡ map base_leaf_entry (map (λ e. pair_from of.width e.pair) es)
  leaf_entries [] none = refl
  leaf_entries (e ∷ es) none = λ i. record { key = key_from of.width e.pair; tid = tid_from of.width e.pair; child = none.0 i } ∷ leaf_entries es none.1 i

  zeros_first : (child : ℕ) → IsFirstEntry of.width (node_entry of.width (record { pair = zeros of.width; child = child }))
  zeros_first child = record {
    key = take-replicate of.width (of.width + 6) 0 (omega arith);
    page = let rest : of.width + 6 - of.width ≡ 6 = omega arith in ap (λ (l : List ℕ). from_be_bytes w32 (take 4 l)) (drop-replicate of.width (of.width + 6) 0 ∙ ap (λ (n : ℕ). replicate n 0) rest);
    slot = let rest : of.width + 6 - (of.width + 4) ≡ 2 = omega arith in ap (λ (l : List ℕ). from_be_bytes w16 (take 2 l)) (drop-replicate (of.width + 4) (of.width + 6) 0 ∙ ap (λ (n : ℕ). replicate n 0) rest);
  }

  abbrev reached_of : List ℕ → Row → ℕ → Reached
  reached_of ns leaves end = record { pages = ns; leaves = leaves_of of.width leaves end }

  inner_tree : (level n number : ℕ) (low : List ℕ) (es : List Entry) (ns : List ℕ) (leaves : Row) (end : ℕ) → HoldsAt (IsSaid of) cells (suc level) number no_page (stored of.width (suc level) es) → Begins low es → n ≤ length es
      → AreTrees held (base_of of) level None (map (node_entry of.width) (stored of.width (suc level) es)) (reached_of ns leaves end) → IsBaseTree held (base_of of) n (suc level) number (reached_of (number ∷ ns) leaves end)
  inner_tree level n number low [] ns leaves end holds head few trees = absurd head
  inner_tree level n number low (e ∷ es) ns leaves end holds head few trees =
      is_inner (node_there (suc level) number no_page (record { pair = zeros of.width; child = e.child } ∷ es) holds)
      (omega (arith, few, length-map es (node_entry of.width)))
      (zeros_first e.child) trees

  mutual
    tree_under : (level n : ℕ) (p : Part) (ns : List ℕ) (leaves : Row) (end : ℕ) → IsUnder (IsSaid of) cells of.width level p ns leaves end → Pairwise IsBefore (marks leaves) → n ≤ length p.items → IsBaseTree held (base_of of) n level p.number (reached_of ns leaves end)
    tree_under _ n p _ _ end (leaf_under holds) rises few =
        let pairs : List Pair = map (λ e. pair_from of.width e.pair) p.items in
        let node = subst (λ (es : List NodeEntry). IsNodeAt held (base_of of) p.number (record { level = 0; next = next_from end; entries = es })) (leaf_entries p.items (holds.spells.childless refl)) (node_there 0 p.number end p.items holds) in
        is_leaf node (omega (arith, few, length-map p.items (λ (e : Entry). pair_from of.width e.pair)))
    tree_under _ n p _ leaves end (inner_under {level = level} {row = row} {ns = ns} holds head are full under) rises few =
        let named = first_names level p.low p.items row are head holds.spells.whole in
        inner_tree level n p.number p.low p.items ns leaves end holds head few (trees_under level None (map (node_entry of.width) (stored of.width (suc level) p.items)) row ns leaves end under named full rises)

    trees_under : (level : ℕ) (bound : Option Pair) (es : List NodeEntry) (row : Row) (ns : List ℕ) (leaves : Row) (end : ℕ) → AreUnder (IsSaid of) cells of.width level row ns leaves end → AreNames bound row es → Each (λ q. node_least of.width ≤ length q.items) row
        → Pairwise IsBefore (marks leaves) → AreTrees held (base_of of) level bound es (reached_of ns leaves end)
    trees_under level bound [] [] _ _ end none_under named full rises = no_child
    trees_under level bound (e ∷ es) [] _ _ end none_under named full rises = absurd named
    trees_under level bound [] (p ∷ row) _ _ end (more_under here rest) named full rises = absurd named
    trees_under level bound (e ∷ es) (p ∷ row) _ _ end (more_under {ns = ns} {ms = ms} {leaves = leaves} {more = more} here rest) named full rises =
        let both : Pairwise IsBefore (marks leaves ++ marks more) = subst (Pairwise IsBefore) (flat_map-append marks_of leaves more) rises in
        let one = tree_under level (node_least of.width) p ns leaves (first more end) here (pairwise_left IsBefore (marks leaves) (marks more) both) full.0 in
        let between = lies bound p row es leaves more (first more end) named.1 named.2 (started level p ns leaves (first more end) here) (started_row level row ms more end rest) rises in
        let tree = subst (λ (n : ℕ). IsBaseTree held (base_of of) (node_least of.width) level n (reached_of ns leaves (first more end))) (sym named.0) one in
        subst (λ (l : List Leaf). AreTrees held (base_of of) level bound (e ∷ es) (record { pages = ns ++ ms; leaves = l })) (sym (leaves_append of.width leaves more end))
        (one_more tree between (trees_under level (limit_of es) es row ms more end rest named.2 full.1 (pairwise_right IsBefore (marks leaves) (marks more) both)))

-- ---- the image

different : (ns : List ℕ) → Pairwise (λ a b. a ≢ b) ns → AreDifferent ns
different [] apart j k one two same = absurd (omega (arith, one))
different (n ∷ ns) apart zero zero one two same = refl
different (n ∷ ns) apart zero (suc k) one two same = absurd (off ns n k apart.0 (omega (arith, two)) same)
  where
    off : (ns : List ℕ) (n k : ℕ) → Each (λ m. n ≢ m) ns → k < length ns → n ≡ slice_index ns k → ⊥
    off [] n k apart lt same = omega (arith, lt)
    off (m ∷ ns) n zero apart lt same = apart.0 same
    off (m ∷ ns) n (suc k) apart lt same = off ns n k apart.1 (omega (arith, lt)) same
different (n ∷ ns) apart (suc j) zero one two same = absurd (back ns n j apart.0 (omega (arith, one)) (sym same))
  where
    back : (ns : List ℕ) (n k : ℕ) → Each (λ m. n ≢ m) ns → k < length ns → n ≡ slice_index ns k → ⊥
    back [] n k apart lt same = omega (arith, lt)
    back (m ∷ ns) n zero apart lt same = apart.0 same
    back (m ∷ ns) n (suc k) apart lt same = back ns n k apart.1 (omega (arith, lt)) same
different (n ∷ ns) apart (suc j) (suc k) one two same = ap (λ (i : ℕ). suc i) (different ns apart.1 j k (omega (arith, one)) (omega (arith, two)) same)

rising : (width : ℕ) (es : List Entry) → Each (λ e. IsWhole width e.pair) es → Pairwise (λ a b. IsLess a.pair b.pair) es → AreRising (map (λ e. pair_from width e.pair) es)
rising width [] whole rises = tt
rising width (e ∷ es) whole rises = (
  all_of (IsBelow (pair_from width e.pair)) (λ d. pair_from width d.pair) es (each_two (λ d. IsWhole width d.pair) (λ d. IsLess e.pair d.pair) (λ d. IsBelow (pair_from width e.pair) (pair_from width d.pair)) es (λ d one two. less_below width e.pair d.pair whole.0 one two) whole.1 rises.0),
  rising width es whole.1 rises.1,
)

pub items_rise : (row : Row) → Pairwise IsBefore (marks row) → Pairwise (λ a b. IsLess a.pair b.pair) (items row)
items_rise [] all = tt
items_rise (p ∷ row) all =
    let rest = pairwise_right IsBefore (map item p.items) (marks row) all.1 in
    cut p.items all.1 (items_rise row rest)
  where
    cut : (es : List Entry) → Pairwise IsBefore (map item es ++ marks row) → Pairwise (λ a b. IsLess a.pair b.pair) (items row) → Pairwise (λ a b. IsLess a.pair b.pair) (es ++ items row)
    cut [] all rest = rest
    cut (e ∷ es) all rest = (
      each_append (λ d. IsLess e.pair d.pair) es (items row)
          (each_weaker (λ d. IsBefore (item e) (item d)) (λ d. IsLess e.pair d.pair) es (λ d is. less_item e d is) (unmapped (IsBefore (item e)) es (each_left (IsBefore (item e)) (map item es) (marks row) all.0)))
          (each_weaker (λ d. IsBefore (item e) (item d)) (λ d. IsLess e.pair d.pair) (items row) (λ d is. less_item e d is) (marks_items (IsBefore (item e)) row (each_right (IsBefore (item e)) (map item es) (marks row) all.0))),
      cut es all.1 rest,
    )

pairs_said : (width : ℕ) (pairs : List (List ℕ)) → map (λ e. pair_from width e.pair) (map leaf_entry pairs) ≡ map (pair_from width) pairs
pairs_said width [] = refl
pairs_said width (p ∷ pairs) = ap (λ (l : List Pair). pair_from width p ∷ l) (pairs_said width pairs)

root_filled : (lower : List Row) (n : ℕ) → (0 < length lower → 2 ≤ n) → root_least (length lower) ≤ n
root_filled [] n two = omega arith
root_filled (row ∷ lower) n two = two (omega arith)

root_under : (held : Held) (of : Nodes) (level n : ℕ) (p : Part) (ns : List ℕ) (leaves : Row) → AreUnder (IsSaid of) (cells_of of held) of.width level (p ∷ []) ns leaves no_page → Pairwise IsBefore (marks leaves) → n ≤ length p.items → IsBaseTree held (base_of of) n level p.number (reached_of held of ns leaves no_page)
root_under held of level n p _ _ (more_under {ns = ns} {leaves = leaves} here none_under) rises few =
    let nil = append-nil leaves in
    let mine = subst (λ (l : Row). Pairwise IsBefore (marks l)) nil rises in
    let tree = tree_under held of level n p ns leaves no_page here mine few in
    subst (λ (l : Row). IsBaseTree held (base_of of) n level p.number (reached_of held of (ns ++ []) l no_page)) (sym nil)
    (subst (λ (l : List ℕ). IsBaseTree held (base_of of) n level p.number (reached_of held of l leaves no_page)) (sym (append-nil ns)) tree)

top_image : (image : Image) (held : Held) (pairs : List (List ℕ)) (tree : ImageTree image held pairs) (leaves : Row) (ns : List ℕ) → IsLeaves pairs leaves → AreUnder (IsSaid (nodes_of image)) (cells_of (nodes_of image) held) image.width (length tree.lower) (tree.top ∷ []) ns leaves no_page → AreSameNumbers ns (pages_of tree) → IsSameImage tree
top_image image held pairs tree leaves ns are under same =
    let of : Nodes = nodes_of image in
    let fine = started_row held of (length tree.lower) (tree.top ∷ []) ns leaves no_page under in
    let root = root_under held of (length tree.lower) (root_least (length tree.lower)) tree.top ns leaves under are.rises (root_filled tree.lower (length tree.top.items) tree.tree.branches) in
    let high : image.levels - 1 ≡ length tree.lower = omega (arith, tree.tree.high) in
    let said : map (pair_from image.width) pairs ≡ pairs_of (leaves_of image.width leaves no_page) = sym (pairs_said image.width pairs) ∙ ap (λ (es : List Entry). map (λ e. pair_from image.width e.pair) es) (sym are.pairs_are) ∙ sym (leaves_pairs image.width leaves no_page) in
    record {
      pages = ns;
      same = same;
      once = different ns (same.distinct tree.tree.distinct);
      is = record {
        some = omega (arith, tree.tree.high);
        reached = reached_of held of ns leaves no_page;
        tree = subst (λ (n : ℕ). IsBaseTree held (base_of of) (root_least n) n image.root (reached_of held of ns leaves no_page)) (sym high)
            (subst (λ (n : ℕ). IsBaseTree held (base_of of) (root_least (length tree.lower)) (length tree.lower) n (reached_of held of ns leaves no_page)) tree.tree.at_root root);
        chained = chained image.width leaves (each_weaker (IsFine held of) (λ p. p.number < no_page) leaves (λ p is. is.low) fine.fine);
        pages_are = refl;
        pairs_are = said;
        rising = subst AreRising (ap (λ (es : List Entry). map (λ e. pair_from image.width e.pair) es) are.pairs_are ∙ pairs_said image.width pairs) (rising image.width (items leaves) (items_whole held of leaves fine.fine) (items_rise leaves are.rises));
      };
    }

whole_image : (image : Image) (held : Held) (pairs : List (List ℕ)) (tree : ImageTree image held pairs) → StackUnder (IsSaid (nodes_of image)) (cells_of (nodes_of image) held) image.width pairs (tree.top ∷ []) tree.lower → IsSameImage tree
whole_image image held pairs tree all = top_image image held pairs tree all.leaves all.whole.ns all.leaves_are all.whole.under all.whole.same

pub same_image : (image : Image) (held : Held) → AreNumbered (cells_of (nodes_of image) held) → (pairs : List (List ℕ)) (tree : ImageTree image held pairs) → IsSameImage tree
same_image image held numbered pairs tree =
    let of : Nodes = nodes_of image in
    let stack = said_stack of (cells_of of held) numbered pairs (tree.top ∷ []) tree.lower tree.made tree.tree.stack in
    whole_image image held pairs tree (stack_under (IsSaid of) (cells_of of held) image.width pairs (tree.top ∷ []) tree.lower stack)
