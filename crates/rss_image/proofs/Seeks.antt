-- A pair that is sought, by what the calls say.
use Rattle.std.proofs.Common.{◌≡◌, ◌<◌, ◌≤◌, ℕ, suc, Bool, true, false, List, [], ◌∷◌, ◌++◌, length, take, drop, refl, sym, ◌∙◌, ap, subst, arith, Some, None}
use Rattle.std.proofs.lemmas.List.{take_all}
use Rattle.rss_base.specs.Entries.{Entry, IsLess, no_page}
use Rattle.rss_levels.specs.Entries.{Each}
use Rattle.rss_levels.specs.Rows.{Part, Row, Cells, HoldsAt, HoldsRow, IsStack, first, link}
use Rattle.rss_levels.specs.Spots.{Spot}
use Rattle.rss_levels.specs.Sought.{first_from, IsPassedBy}
use Rattle.rss_levels.proofs.Held.{held_right}
use Rattle.rss_levels.proofs.Seeking.{found_here, found_none, found_next}
use Rattle.rss_levels.proofs.Spotted.{at_place, each_take, split_place}
use Rattle.rss_node.specs.Nodes.{NodeView, IsPassed}
use Rattle.rss_node.specs.declared.pair.Nodes.{Nodes}
use Rattle.rss_base.specs.Paged.{Held}
use Rattle.rss_node.specs.Nodes.{entry_at}
use Rattle.rss_image.specs.Trees.{cells_of, node_of, spells, HoldsNode}
use Rattle.rss_image.specs.Seeking.{MaySeek, HasEntries, HasPage, LooksIn}
use Rattle.rss_image.specs.declared.seeking.InLeaf.TheVariants.{Here, Next}
use Rattle.rss_image.proofs.Calls.{read_holds}
use Rattle.rss_image.proofs.Insertion.{same_node, entries_are, next_is}
use Rattle.rss_image.proofs.Passing.{leaf_passed}

passed_same : (beyond : Bool) (p t : List ℕ) → IsPassed beyond p t → IsPassedBy beyond p t
passed_same true p t is = is
passed_same false p t is = is

passed_back : (beyond : Bool) (p t : List ℕ) → IsPassedBy beyond p t → IsPassed beyond p t
passed_back true p t is = is
passed_back false p t is = is

no_rows : (rows : List Row) → length rows ≡ 0 → rows ≡ []
no_rows [] is = refl
no_rows (r ∷ rows) is = absurd (omega arith)

-- the next leaf
pub record NextLeaf (of : Nodes) (old : Cells) (after : Row) (number : ℕ) : Type 0 where
  pub q : Part
  pub rest : Row
  pub is : after ≡ q ∷ rest
  pub number_is : q.number ≡ number
  pub holds : HoldsAt (spells of) old 0 number (link 0 rest no_page) q.items

next_of : (of : Nodes) (old : Cells) (after : Row) (number slots : ℕ) → HoldsRow (spells of) old of.width 0 after no_page → number ≡ first after no_page → slots < 4294967296 → number < slots → NextLeaf of old after number
next_of of old [] number slots held is few low = absurd (omega arith)
next_of of old (q ∷ rest) number slots held is few low = record { q = q; rest = rest; is = refl; number_is = sym is; holds = subst (λ (n : ℕ). HoldsAt (spells of) old 0 n (link 0 rest no_page) q.items) (sym is) held.0 }

none_of : (of : Nodes) (old : Cells) (after : Row) (number slots : ℕ) → HoldsRow (spells of) old of.width 0 after no_page → number ≡ first after no_page → slots ≤ number → ((n : ℕ) (bytes : List ℕ) → old n ≡ Some bytes → n < slots) → after ≡ []
none_of of old [] number slots held is high within = refl
none_of of old (q ∷ rest) number slots held is high within = let low = within q.number held.0.bytes held.0.held in absurd (omega arith)

module _ (of : Nodes) (old : Cells) (number : ℕ) (pair : List ℕ) (pairs : List (List ℕ)) (spot : Spot (spells of) old of.width 0 number pair pairs) (node : NodeView) (holds : HoldsAt (spells of) old 0 number node.next node.entries) where
  stack : IsStack (spells of) old of.width pairs ((spot.before ++ spot.here ∷ spot.after) ∷ [])
  stack = subst (λ (l : List Row). IsStack (spells of) old of.width pairs ((spot.before ++ spot.here ∷ spot.after) ∷ l)) (no_rows spot.lower spot.level_is) spot.stack

  own : node.entries ≡ spot.here.items
  own = entries_are of old 0 number pair pairs spot node holds

  held_after : HoldsRow (spells of) old of.width 0 spot.after no_page
  held_after = (held_right (spells of) of.width 0 old spot.before (spot.here ∷ spot.after) no_page stack.0.held).1

  pub seeks_here : (beyond : Bool) (at : ℕ) → at < length node.entries → ((k : ℕ) → k < at → IsPassed beyond (at_place node.entries k).pair pair) → (IsPassed beyond (at_place node.entries at).pair pair → ⊥) → Some (at_place node.entries at).pair ≡ first_from beyond pair pairs
  seeks_here beyond at low passed not =
      let es : List Entry = node.entries in
      let all : Each (λ d. IsPassedBy beyond d.pair pair) (take at es) = each_take (λ d. IsPassedBy beyond d.pair pair) es at (omega arith) (λ k lt. passed_same beyond (at_place es k).pair pair (passed k lt)) in
      sym (found_here beyond pair pairs spot.before spot.here spot.after stack.1.pairs_are stack.1.rises spot.low (take at es) (at_place es at) (drop (suc at) es) (sym own ∙ split_place es at low) all (λ is. not (passed_back beyond (at_place es at).pair pair is)))

  all_passed : (beyond : Bool) → ((k : ℕ) → k < length node.entries → IsPassed beyond (at_place node.entries k).pair pair) → Each (λ d. IsPassedBy beyond d.pair pair) spot.here.items
  all_passed beyond passed =
      let es : List Entry = node.entries in
      subst (Each (λ d. IsPassedBy beyond d.pair pair)) (take_all (length es) es (omega arith) ∙ own) (each_take (λ d. IsPassedBy beyond d.pair pair) es (length es) (omega arith) (λ k lt. passed_same beyond (at_place es k).pair pair (passed k lt)))

  pub seeks_none : (beyond : Bool) (slots : ℕ) → ((k : ℕ) → k < length node.entries → IsPassed beyond (at_place node.entries k).pair pair) → slots ≤ node.next → ((n : ℕ) (bytes : List ℕ) → old n ≡ Some bytes → n < slots) → None ≡ first_from beyond pair pairs
  seeks_none beyond slots passed high within =
      sym (found_none beyond pair pairs spot.before spot.here spot.after stack.1.pairs_are stack.1.rises spot.low (all_passed beyond passed) (none_of of old spot.after node.next slots held_after (next_is of old 0 number pair pairs spot node holds) high within))

  pub next_leaf : (slots : ℕ) → slots < 4294967296 → node.next < slots → NextLeaf of old spot.after node.next
  next_leaf slots few low = next_of of old spot.after node.next slots held_after (next_is of old 0 number pair pairs spot node holds) few low

  pub right_is : (right : NodeView) → HoldsAt (spells of) old 0 node.next right.next right.entries → (next : NextLeaf of old spot.after node.next) → right.entries ≡ next.q.items
  right_is right there next = ap (λ (n : NodeView). n.entries) (same_node of old 0 node.next right.next (link 0 next.rest no_page) right.entries next.q.items there next.holds)

  pub right_some : (right : NodeView) → HoldsAt (spells of) old 0 node.next right.next right.entries → NextLeaf of old spot.after node.next → Each (λ p. 0 < length p.items) spot.after → 0 < length right.entries
  right_some right there next filled = omega (arith, ap length (right_is right there next), (subst (Each (λ p. 0 < length p.items)) next.is filled).0)

  pub seeks_next : (beyond : Bool) → ((k : ℕ) → k < length node.entries → IsPassed beyond (at_place node.entries k).pair pair) → (right : NodeView) → HoldsAt (spells of) old 0 node.next right.next right.entries → NextLeaf of old spot.after node.next → 0 < length right.entries → Some (at_place right.entries 0).pair ≡ first_from beyond pair pairs
  seeks_next beyond passed right there next some =
      let less : IsLess pair next.q.low = (subst (Each (λ q. IsLess pair q.low)) next.is spot.high).0 in
      let split = split_place right.entries 0 some in
      sym (found_next beyond pair pairs spot.before spot.here spot.after stack.1.pairs_are stack.1.rises spot.low (all_passed beyond passed) next.q next.rest (at_place right.entries 0) (drop 1 right.entries) next.is (sym (right_is right there next) ∙ split) less)

-- ---- by what a search finds in the page of the leaf

module _ (of : Nodes) (held : Held) (number : ℕ) (pair : List ℕ) (beyond : Bool) (pairs : List (List ℕ)) (may : MaySeek of held 0 number pair pairs) where
  abbrev cells : Cells
  cells = cells_of of held

  pub looked_here : (found : List ℕ) → HasPage of held number (λ page. LooksIn of number page pair beyond (Here found)) → Some found ≡ first_from beyond pair pairs
  looked_here found has =
      let looks = has.such in
      let node = looks.node in
      let holds = read_holds of 0 number held has.page node has.held_is looks.spelled looks.is in
      ap (λ (p : List ℕ). Some p) looks.found_is.1
      ∙ seeks_here of cells number pair pairs may.spot node holds beyond looks.at looks.found_is.0 (leaf_passed of cells 0 number pair pairs may.spot node holds refl beyond looks.at looks.within looks.before) (looks.here looks.found_is.0)

  module _ (next : ℕ) (has : HasPage of held number (λ page. LooksIn of number page pair beyond (Next next))) where
    abbrev node : NodeView
    node = has.such.node

    holds : HoldsNode of held 0 number node.next node.entries
    holds = read_holds of 0 number held has.page node has.held_is has.such.spelled has.such.is

    next_is_its : next ≡ node.next
    next_is_its = has.such.found_is.1

    passed : (k : ℕ) → k < length node.entries → IsPassed beyond (at_place node.entries k).pair pair
    passed k low =
        let looks = has.such in
        let end : length node.entries ≤ looks.at = looks.found_is.0 in
        leaf_passed of cells 0 number pair pairs may.spot node holds refl beyond looks.at looks.within looks.before k (omega (arith, low, end))

    pub looked_none : (slots : ℕ) → slots ≤ next → ((n : ℕ) (bytes : List ℕ) → cells n ≡ Some bytes → n < slots) → None ≡ first_from beyond pair pairs
    looked_none slots high within = seeks_none of cells number pair pairs may.spot node holds beyond slots passed (omega (arith, high, next_is_its)) within

    module _ (slots : ℕ) (few : slots < 4294967296) (low : next < slots) where
      there : NextLeaf of cells may.spot.after node.next
      there = next_leaf of cells number pair pairs may.spot node holds slots few (omega (arith, low, next_is_its))

      abbrev right : NodeView
      right = node_of of 0 node.next (link 0 there.rest no_page) there.q.items

      some : 0 < length right.entries
      some = right_some of cells number pair pairs may.spot node holds right there.holds there may.filled

      right_holds : HoldsNode of held 0 next right.next right.entries
      right_holds = subst (λ (n : ℕ). HoldsNode of held 0 n right.next right.entries) (sym next_is_its) there.holds

      pub next_looked : HasEntries of held next
      next_looked = record { next = right.next; entries = right.entries; holds = right_holds; some = some }

      pub looked_next : (found : List ℕ) → ((end : ℕ) (entries : List Entry) → HoldsNode of held 0 next end entries → found ≡ (entry_at entries 0).pair) → Some found ≡ first_from beyond pair pairs
      looked_next found is = ap (λ (p : List ℕ). Some p) (is right.next right.entries right_holds) ∙ seeks_next of cells number pair pairs may.spot node holds beyond passed right there.holds there some
