-- A pair is taken from under a node, by what the calls say.
use Rattle.std.proofs.Common.{true, false, ◌≡◌, ◌≢◌, ⊎_elim, ◌<◌, ◌≤◌, ◌+◌, ◌-◌, ℕ, suc, zero, List, [], ◌∷◌, ◌++◌, length, take, drop, refl, sym, ◌∙◌, ap, subst, arith}
use Rattle.std.specs.List.{Contains}
use Rattle.std.proofs.lemmas.List.{length-append, take-append-drop}
use Rattle.rss_base.specs.Entries.{Entry, IsLess, no_page}
use Rattle.rss_base.specs.Nodes.{node_least, node_most}
use Rattle.rss_levels.specs.Entries.{Each, Pairwise, IsIn}
use Rattle.rss_levels.specs.Rows.{Part, Row, Cells, HoldsAt, IsStack, Begins, HasHead, items, numbers, pages, first, link, stored}
use Rattle.rss_levels.specs.Spots.{Keeps, LosesNone, Spot}
use Rattle.rss_levels.specs.Removes.{Removes, Lowered, Filled, without_pair}
use Rattle.rss_levels.proofs.Lists.{each_append, each_weaker, each_unmap, pairwise_right, pairwise_cross}
use Rattle.rss_base.proofs.Entries.{less_never}
use Rattle.rss_levels.proofs.Order.{less_or_same}
use Rattle.rss_levels.proofs.Rising.{IsLesser}
use Rattle.rss_levels.proofs.Names.{below_all, child_split}
use Rattle.rss_levels.proofs.Inserting.{stack_is, each_at}
use Rattle.rss_levels.proofs.Pages.{not_in}
use Rattle.rss_levels.proofs.Removing.{leaf_lacks, leaf_removes, lowered, filled_lowered, inner_removes}
use Rattle.rss_levels.proofs.Inner.{IsCons, cons, before_at, at_entry, behind_at, has_at, height, from_at, next_at}
use Rattle.rss_levels.proofs.Spotted.{at_place, each_take, first_drop, split_place, spot_few}
use Rattle.rss_node.specs.Nodes.{NodeView, IsPassed, spliced}
use Rattle.rss_node.specs.declared.pair.Nodes.{Nodes}
use Rattle.rss_base.specs.Paged.{Held}
use Rattle.rss_image.specs.Trees.{cells_of, spells}
use Rattle.rss_image.specs.Removed.{MayRemove, MayMend, Mended}
use Rattle.rss_image.proofs.Passing.{no_rows, leaf_rises}
use Rattle.rss_image.proofs.Evened.{long_take}
use Rattle.rss_image.proofs.Insertion.{entries_are, entries_long, next_is, the_child, child_is, low_here, passed_here, above_here}

module _ (of : Nodes) (old : Cells) (number : ℕ) (pair : List ℕ) (pairs : List (List ℕ)) (spot : Spot (spells of) old of.width 0 number pair pairs) (node : NodeView) (holds : HoldsAt (spells of) old 0 number node.next node.entries) (at : ℕ) (within : at ≤ length node.entries) (before : (k : ℕ) → k < at → IsPassed false (at_place node.entries k).pair pair) where
  own : node.entries ≡ spot.here.items
  own = entries_are of old 0 number pair pairs spot node holds

  flat : spot.lower ≡ []
  flat = no_rows spot.lower spot.level_is

  own_rise : Pairwise IsLesser node.entries
  own_rise = leaf_rises of old 0 number pair pairs spot node holds refl

  left_less : Each (λ d. IsLess d.pair pair) (take at node.entries)
  left_less = each_take (λ d. IsLess d.pair pair) node.entries at within before

  -- where the entry at the place hasn't the pair, it isn't there
  pub lacks_pair : (at < length node.entries → IsPassed false (at_place node.entries at).pair pair → ⊥) → (at < length node.entries → (at_place node.entries at).pair ≢ pair) → Contains pairs pair → ⊥
  lacks_pair here other has =
      let behind : Pairwise IsLesser (drop at node.entries) = pairwise_right IsLesser (take at node.entries) (drop at node.entries) (subst (Pairwise IsLesser) (sym (take-append-drop at node.entries)) own_rise) in
      let above : Each (λ d. IsLess pair d.pair) (drop at node.entries) = below_all pair (drop at node.entries) behind (λ d ds is.
      let there = first_drop node.entries at d ds is in
      less_or_same pair d.pair (λ less. here there.0 (subst (λ (x : Entry). IsLess x.pair pair) there.1 less)) (λ same. other there.0 (ap (λ (x : Entry). x.pair) (sym there.1) ∙ sym same))) in
      let all : Each (λ d. d.pair ≢ pair) (take at node.entries ++ drop at node.entries) = each_append (λ d. d.pair ≢ pair) (take at node.entries) (drop at node.entries)
      (each_weaker (λ d. IsLess d.pair pair) (λ d. d.pair ≢ pair) (take at node.entries) (λ d less same. less_never (subst (λ (p : List ℕ). IsLess p pair) same less)) left_less)
      (each_weaker (λ d. IsLess pair d.pair) (λ d. d.pair ≢ pair) (drop at node.entries) (λ d less same. less_never (subst (IsLess pair) same less)) above) in
      leaf_lacks (spells of) old of.width 0 number pair pairs spot flat (subst (Each (λ d. d.pair ≢ pair)) (take-append-drop at node.entries ∙ own) all) has

  pub leaf_cut : at < length node.entries → (at_place node.entries at).pair ≡ pair → (new : Cells) → HoldsAt (spells of) new 0 number node.next (spliced node.entries at 1 []) → Keeps (number ∷ []) old new → LosesNone (number ∷ []) (number ∷ []) old new → Removes spot new (length (spliced node.entries at 1 []))
  leaf_cut some same new held keeps loses =
      let one : at + 1 ≡ suc at = omega arith in
      let xs : List Entry = take at node.entries in
      let ys : List Entry = drop (suc at) node.entries in
      let cut : spliced node.entries at 1 [] ≡ xs ++ ys = ap (λ (n : ℕ). xs ++ drop n node.entries) one in
      let has : spot.here.items ≡ xs ++ at_place node.entries at ∷ ys = sym own ∙ split_place node.entries at some in
      let few : length spot.here.items ≤ node_most of.width = spot_few (spells of) old of.width 0 number pair pairs spot in
      let held_here = subst (λ (n : ℕ). HoldsAt (spells of) new 0 n (first spot.after no_page) (xs ++ ys)) (sym spot.number_is) (subst (λ (n : ℕ). HoldsAt (spells of) new 0 number n (xs ++ ys)) (next_is of old 0 number pair pairs spot node holds) (subst (λ (l : List Entry). HoldsAt (spells of) new 0 number node.next l) cut held)) in
      subst (λ (n : ℕ). Removes spot new n) (sym (ap length cut))
      (leaf_removes (spells of) old of.width 0 number pair pairs spot new flat xs (at_place node.entries at) ys has same left_less held_here (subst (λ (n : ℕ). Keeps (n ∷ []) old new) (sym spot.number_is) keeps) (subst (λ (n : ℕ). LosesNone (n ∷ []) (n ∷ []) old new) (sym spot.number_is) loses)
      (omega (arith, few, ap length has, length-append xs (at_place node.entries at ∷ ys), length-append xs ys)))

-- ---- an inner node

link_inner : (level next : ℕ) → 0 < level → link level [] next ≡ no_page
link_inner zero next inner = absurd (omega arith)
link_inner (suc level) next inner = refl

-- what a call on a node says, whichever rows it is under
abbrev pub RemovedFrom : Nodes → Cells → ℕ → ℕ → List ℕ → Cells → ℕ → Type 0
RemovedFrom of old level number pair new count = (pairs : List (List ℕ)) (spot : Spot (spells of) old of.width level number pair pairs) → Removes spot new count

one_of : (P : ℕ → Type 0) (ns : List ℕ) (n : ℕ) → Each P ns → IsIn ns n → P n
one_of P [] n all is = absurd is
one_of P (m ∷ ns) n all is = ⊎_elim (λ (same : m ≡ n). subst P same all.0) (λ (more : IsIn ns n). one_of P ns n all.1 more) is

module _ (of : Nodes) (old : Cells) (level number : ℕ) (pair : List ℕ) (pairs : List (List ℕ)) (spot : Spot (spells of) old of.width level number pair pairs) (node : NodeView) (holds : HoldsAt (spells of) old level number node.next node.entries)
    (at : ℕ) (inner : 0 < level) (some : 0 < at) (low : at ≤ length node.entries) (passed : IsPassed true (at_place node.entries (at - 1)).pair pair) (above : at < length node.entries → IsPassed true (at_place node.entries at).pair pair → ⊥) (many : 2 ≤ node_least of.width) where
  abbrev child : Spot (spells of) old of.width (level - 1) (at_place spot.here.items (at - 1)).child pair pairs
  child = the_child of old level number pair pairs spot node holds at inner some low passed above

  abbrev pub below_number : ℕ
  below_number = (at_place node.entries (at - 1)).child

  abbrev low_is : at ≤ length spot.here.items
  low_is = low_here of old level number pair pairs spot node holds at inner some low passed above

  abbrev passed_is : IsLess pair (at_place (stored of.width level spot.here.items) (at - 1)).pair → ⊥
  passed_is = passed_here of old level number pair pairs spot node holds at inner some low passed above

  abbrev above_is : at < length spot.here.items → (IsLess pair (at_place (stored of.width level spot.here.items) at).pair → ⊥) → ⊥
  above_is = above_here of old level number pair pairs spot node holds at inner some low passed above

  abbrev rows : IsCons spot.lower
  rows = cons (spells of) old of.width level number pair pairs spot at inner some low_is passed_is above_is

  -- the child is filled
  pub child_many : 2 ≤ length child.here.items
  child_many =
      let has = has_at (spells of) old of.width level number pair pairs spot at inner some low_is passed_is above_is in
      let xs = before_at (spells of) old of.width level number pair pairs spot at inner some low_is passed_is above_is in
      let e = at_entry (spells of) old of.width level number pair pairs spot at inner some low_is passed_is above_is in
      let ys = behind_at (spells of) old of.width level number pair pairs spot at inner some low_is passed_is above_is in
      let stack = stack_is (spells of) old of.width level number pair pairs spot rows.row rows.rest rows.is xs e ys has in
      let cut = child_split (spells of) old of.width pair pairs spot.before spot.here spot.after rows.row rows.rest stack xs e ys has in
      let full : node_least of.width ≤ length child.here.items = each_at (λ p. node_least of.width ≤ length p.items) cut.before cut.here cut.after (subst (Each (λ p. node_least of.width ≤ length p.items)) cut.is stack.1.full) in
      omega (arith, full, many)

  -- what a removal from under the child makes of the rows below
  pub lowered_below : (mid : Cells) (count : ℕ) → Removes child mid count → Lowered (spells of) old mid of.width (without_pair pair pairs) (items spot.before) (items spot.after) spot.lower spot.here.items (at - 1)
  lowered_below mid count rem =
      let has = has_at (spells of) old of.width level number pair pairs spot at inner some low_is passed_is above_is in
      let xs = before_at (spells of) old of.width level number pair pairs spot at inner some low_is passed_is above_is in
      let e = at_entry (spells of) old of.width level number pair pairs spot at inner some low_is passed_is above_is in
      let ys = behind_at (spells of) old of.width level number pair pairs spot at inner some low_is passed_is above_is in
      let made = lowered (spells of) old of.width level number pair pairs spot rows.row rows.rest rows.is xs e ys has mid (level - 1)
      (height (spells of) old of.width level number pair pairs spot at inner some low_is passed_is above_is)
      (from_at (spells of) old of.width level number pair pairs spot at inner some low_is passed_is above_is)
      (next_at (spells of) old of.width level number pair pairs spot at inner some low_is passed_is above_is) count rem many in
      let long : length xs ≡ at - 1 = long_take (at - 1) spot.here.items (omega (arith, low_is)) in
      subst (λ (n : ℕ). Lowered (spells of) old mid of.width (without_pair pair pairs) (items spot.before) (items spot.after) spot.lower spot.here.items n) long
      (subst (λ (l : List Row). Lowered (spells of) old mid of.width (without_pair pair pairs) (items spot.before) (items spot.after) l spot.here.items (length xs)) (sym rows.is) made)

  pub filled_below : (mid : Cells) (count : ℕ) → Removes child mid count → node_least of.width ≤ count → Filled (spells of) old mid of.width (without_pair pair pairs) (items spot.before) (items spot.after) spot.lower spot.here.items
  filled_below mid count rem full =
      let has = has_at (spells of) old of.width level number pair pairs spot at inner some low_is passed_is above_is in
      let xs = before_at (spells of) old of.width level number pair pairs spot at inner some low_is passed_is above_is in
      let e = at_entry (spells of) old of.width level number pair pairs spot at inner some low_is passed_is above_is in
      let ys = behind_at (spells of) old of.width level number pair pairs spot at inner some low_is passed_is above_is in
      let made = filled_lowered (spells of) old of.width level number pair pairs spot rows.row rows.rest rows.is xs e ys has mid (level - 1)
      (height (spells of) old of.width level number pair pairs spot at inner some low_is passed_is above_is)
      (from_at (spells of) old of.width level number pair pairs spot at inner some low_is passed_is above_is)
      (next_at (spells of) old of.width level number pair pairs spot at inner some low_is passed_is above_is) count rem many full in
      subst (λ (l : List Row). Filled (spells of) old mid of.width (without_pair pair pairs) (items spot.before) (items spot.after) l spot.here.items) (sym rows.is) made

  -- the page of the node isn't among those of the rows below
  pub page_off : IsIn (pages spot.lower) number → ⊥
  page_off there =
      let all : Each (λ n. IsIn (pages spot.lower) n → ⊥) (numbers (spot.before ++ spot.here ∷ spot.after)) = each_weaker (λ n. Each (λ m. n ≢ m) (pages spot.lower)) (λ n. IsIn (pages spot.lower) n → ⊥) (numbers (spot.before ++ spot.here ∷ spot.after)) (λ n off. not_in (pages spot.lower) n off) (pairwise_cross (λ a b. a ≢ b) (numbers (spot.before ++ spot.here ∷ spot.after)) (pages spot.lower) spot.distinct) in
      each_at (λ p. IsIn (pages spot.lower) p.number → ⊥) spot.before spot.here spot.after (each_unmap (λ n. IsIn (pages spot.lower) n → ⊥) (λ (p : Part). p.number) (spot.before ++ spot.here ∷ spot.after) all) (subst (IsIn (pages spot.lower)) (sym spot.number_is) there)

  head_begins : Begins spot.here.low spot.here.items
  head_begins =
      let stack = subst (λ (l : List Row). IsStack (spells of) old of.width pairs ((spot.before ++ spot.here ∷ spot.after) ∷ l)) rows.is spot.stack in
      each_at HasHead spot.before spot.here spot.after stack.1.heads

  pub inner_cut : (mid new : Cells) (entries : List Entry) → Filled (spells of) old mid of.width (without_pair pair pairs) (items spot.before) (items spot.after) spot.lower entries → ((low : List ℕ) → Begins low spot.here.items → Begins low entries) → length spot.here.items ≤ length entries + 1 → length entries ≤ length spot.here.items
      → HoldsAt (spells of) new level number node.next (stored of.width level entries) → Keeps (number ∷ []) mid new → LosesNone (number ∷ []) (number ∷ []) mid new → Removes spot new (length entries)
  inner_cut mid new entries filled begins lacks fewer held keeps loses =
      let few : length spot.here.items ≤ node_most of.width = spot_few (spells of) old of.width level number pair pairs spot in
      let up : suc (length rows.rest) ≡ level = omega (arith, ap (λ (l : List Row). length l) rows.is, spot.level_is) in
      let next : node.next ≡ no_page = next_is of old level number pair pairs spot node holds ∙ link_inner level (first spot.after no_page) inner in
      let there = subst (λ (n : ℕ). HoldsAt (spells of) new level n no_page (stored of.width level entries)) (sym spot.number_is) (subst (λ (n : ℕ). HoldsAt (spells of) new level number n (stored of.width level entries)) next held) in
      inner_removes (spells of) old of.width level number pair pairs spot rows.row rows.rest rows.is mid new entries
      (subst (λ (l : List Row). Filled (spells of) old mid of.width (without_pair pair pairs) (items spot.before) (items spot.after) l entries) rows.is filled)
      (begins spot.here.low head_begins) lacks (omega (arith, few, fewer))
      (subst (λ (l : ℕ). HoldsAt (spells of) new l spot.here.number no_page (stored of.width l entries)) (sym up) there)
      (subst (λ (n : ℕ). Keeps (n ∷ []) mid new) (sym spot.number_is) keeps) (subst (λ (n : ℕ). LosesNone (n ∷ []) (n ∷ []) mid new) (sym spot.number_is) loses)

  -- the node stays as it is
  pub inner_full : (mid : Cells) → Filled (spells of) old mid of.width (without_pair pair pairs) (items spot.before) (items spot.after) spot.lower spot.here.items → Removes spot mid (length node.entries)
  inner_full mid filled =
      let held : HoldsAt (spells of) mid level number node.next node.entries = record { bytes = holds.bytes; held = filled.keeps.same number holds.bytes page_off holds.held; spells = holds.spells } in
      subst (λ (n : ℕ). Removes spot mid n) (sym (entries_long of old level number pair pairs spot node holds))
      (inner_cut mid mid spot.here.items filled (λ low is. is) (omega arith) (omega arith) (subst (λ (l : List Entry). HoldsAt (spells of) mid level number node.next l) (entries_are of old level number pair pairs spot node holds) held) (record { same = λ n bytes off was. was }) (λ n is. is))

  removes_child : (mid : Cells) (count : ℕ) → RemovedFrom of old (level - 1) below_number pair mid count → Removes child mid count
  removes_child mid count does = (subst (λ (n : ℕ). RemovedFrom of old (level - 1) n pair mid count) (child_is of old level number pair pairs spot node holds at inner some low passed above) does) pairs child

  pub removed_full : (mid : Cells) (count : ℕ) → RemovedFrom of old (level - 1) below_number pair mid count → node_least of.width ≤ count → Removes spot mid (length node.entries)
  removed_full mid count does full = inner_full mid (filled_below mid count (removes_child mid count does) full)

  pub may_mend : (mid : Cells) (count : ℕ) → RemovedFrom of old (level - 1) below_number pair mid count → 2 ≤ length spot.here.items → MayMend of mid level number (at - 1) node.entries
  may_mend mid count does several =
      let rows_now = lowered_below mid count (removes_child mid count does) in
      record {
        start = old;
        pairs = without_pair pair pairs;
        front = items spot.before;
        back = items spot.after;
        lower = spot.lower;
        entries = spot.here.items;
        rows = rows_now;
        height = spot.level_is;
        own_is = entries_are of old level number pair pairs spot node holds;
        within = omega (arith, low_is, some);
        several = several;
        bytes = holds.bytes;
        held = rows_now.keeps.same number holds.bytes page_off holds.held;
        off = λ there. page_off (one_of (IsIn (pages spot.lower)) (pages ((rows_now.before ++ rows_now.here ∷ rows_now.after) ∷ rows_now.rest)) number rows_now.own there);
      }

  pub removed_mended : (mid new : Cells) (count left : ℕ) → RemovedFrom of old (level - 1) below_number pair mid count → Mended of level number node.next (at - 1) node.entries mid new left → Removes spot new left
  removed_mended mid new count left does mended =
      let m = mended old (without_pair pair pairs) (items spot.before) (items spot.after) spot.lower spot.here.items (lowered_below mid count (removes_child mid count does)) spot.level_is (entries_are of old level number pair pairs spot node holds) (omega (arith, low_is, some)) in
      subst (λ (n : ℕ). Removes spot new n) m.count_is (inner_cut m.mid new m.now m.filled m.begins m.lacks m.few m.held m.keeps m.loses_none)

-- ---- what a call may rely on

pub may_below : (of : Nodes) (held : Held) (level number : ℕ) (pair : List ℕ) (may : MayRemove of held level number pair) (node : NodeView) (holds : HoldsAt (spells of) (cells_of of held) level number node.next node.entries)
    (at : ℕ) (inner : 0 < level) (some : 0 < at) (low : at ≤ length node.entries) (passed : IsPassed true (at_place node.entries (at - 1)).pair pair) (above : at < length node.entries → IsPassed true (at_place node.entries at).pair pair → ⊥) → 2 ≤ node_least of.width
    → MayRemove of held (level - 1) (at_place node.entries (at - 1)).child pair
may_below of held level number pair may node holds at inner some low passed above many =
    subst (λ (n : ℕ). MayRemove of held (level - 1) n pair) (sym (child_is of (cells_of of held) level number pair may.pairs may.spot node holds at inner some low passed above))
    (record {
      pairs = may.pairs;
      spot = the_child of (cells_of of held) level number pair may.pairs may.spot node holds at inner some low passed above;
      there = may.there;
      branches = λ deeper. child_many of (cells_of of held) level number pair may.pairs may.spot node holds at inner some low passed above many;
    })
