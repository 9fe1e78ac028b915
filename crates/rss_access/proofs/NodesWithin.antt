-- The identifiers in the nodes of an image name pages of the store where the bounds and the pairs of its rows do, and the other way round.
use Rattle.std.proofs.Common.{◌≡◌, inl, inr, ⊎_elim, ℕ, zero, suc, ◌+◌, ◌<◌, true, Bool, List, [], ◌∷◌, length, take, drop, map, Some, refl, sym, ◌∙◌, ap, subst, arith}
use Rattle.std.specs.Prelude.{All}
use Rattle.std.specs.Int.{w16, from_be_bytes}
use Rattle.std.specs.Ordering.{nat_cmp, is_lt}
use Rattle.std.specs.Cmp.{nat_cmp_is}
use Rattle.std.specs.declared.cmp.Ordering.{Ordering}
use Rattle.std.specs.declared.cmp.Ordering.TheVariants.{Less, Equal, Greater}
use Rattle.std.proofs.lemmas.Cmp.{ranked}
use Rattle.std.proofs.lemmas.List.{length-drop, take_all}
use Rattle.std.proofs.lemmas.List.Elements.{All-nil, All-cons, All-head, All-tail}
use Rattle.rss_base.specs.Paged.{Held}
use Rattle.rss_base.specs.Nodes.{NodeEntry, Node, IsNodeEntry}
use Rattle.rss_base.specs.Trees.{Pair, IsNodeAt, pair_of}
use Rattle.rss_base.specs.Entries.{Entry, no_page}
use Rattle.rss_levels.specs.Entries.{Each, IsIn, zeros}
use Rattle.rss_levels.specs.Rows.{Part, Row, HoldsAt, HoldsRow, HasHead, Begins, IsStack, items, names, name, numbers, pages, link, stored}
use Rattle.rss_levels.specs.Spots.{IsMade, AreMade}
use Rattle.rss_levels.proofs.Lists.{each_append, each_unmap}
use Rattle.rss_levels.proofs.Pages.{in_append, in_left, in_right}
use Rattle.rss_node.specs.Nodes.{NodeView, AreNodes, Spells}
use Rattle.rss_node.specs.Pairs.{IsWhole, HasSlot, entry_of, next_from, next_number, node_entry, pair_bytes}
use Rattle.rss_node.specs.declared.pair.Nodes.{Nodes}
use Rattle.rss_node.proofs.Agreed.{base_page, whole_page, pair_said}
use Rattle.rss_node.proofs.Headers.{says_one}
use Rattle.rss_node.proofs.Spelled.{spelled_page}
use Rattle.rss_image.specs.Trees.{cells_of, spells, node_of}
use Rattle.rss_image.specs.Images.{has_slot, has_page}
use Rattle.rss_image.specs.Agreement.{base_of, AreNumbered}
use Rattle.rss_image.proofs.Putting.{zeros_slot}

-- ---- tests

below_of : (n limit : ℕ) → is_lt (nat_cmp n limit) ≡ true → n < limit
below_of n limit is = ranked n limit Less (sym (less_of (nat_cmp n limit) is))
  where
    less_of : (o : Ordering) → is_lt o ≡ true → o ≡ Less
    less_of Less is = refl
    less_of Equal is = absurd (cc)
    less_of Greater is = absurd (cc)

of_below : (n limit : ℕ) → n < limit → is_lt (nat_cmp n limit) ≡ true
of_below n limit low = ap is_lt (sym (nat_cmp_is n limit Less low))

-- the slot behind a key
slot_of : (width : ℕ) (e : Entry) → IsWhole width e.pair → has_slot width e.pair ≡ true → HasSlot width e
slot_of width e whole has =
    let all : take 2 (drop (width + 4) e.pair) ≡ drop (width + 4) e.pair = take_all 2 (drop (width + 4) e.pair) (omega (arith, length-drop (width + 4) e.pair, whole.long)) in
    subst (λ (l : List ℕ). from_be_bytes w16 l < 128) (sym all) (below_of (from_be_bytes w16 (drop (width + 4) e.pair)) 128 has)

slots_of : (width : ℕ) (es : List Entry) → Each (λ e. IsWhole width e.pair) es → Each (λ e. has_slot width e.pair ≡ true) es → Each (HasSlot width) es
slots_of width [] whole good = tt
slots_of width (e ∷ es) whole good = (slot_of width e whole.0 good.0, slots_of width es whole.1 good.1)

-- ---- what is stored

-- of an inner node's entries the first has zeros
stored_each : (good : List ℕ → Bool) (width level : ℕ) (es : List Entry) → good (zeros width) ≡ true → Each (λ e. good e.pair ≡ true) es → Each (λ e. good e.pair ≡ true) (stored width level es)
stored_each good width zero es first all = all
stored_each good width (suc level) [] first all = tt
stored_each good width (suc level) (e ∷ es) first all = (first, all.1)

stored_back : (good : List ℕ → Bool) (width level : ℕ) (p : Part) → good p.low ≡ true → (0 < level → HasHead p) → Each (λ e. good e.pair ≡ true) (stored width level p.items) → Each (λ e. good e.pair ≡ true) p.items
stored_back good width zero p low head all = all
stored_back good width (suc level) p low head all = by p.items (head (omega arith)) all
  where
    by : (es : List Entry) → Begins p.low es → Each (λ e. good e.pair ≡ true) (stored width (suc level) es) → Each (λ e. good e.pair ≡ true) es
    by [] head all = absurd head
    by (e ∷ es) head all = (ap good head ∙ low, all.1)

module _ (held : Held) (of : Nodes) (fit : AreNodes of) (numbered : AreNumbered (cells_of of held)) (slots : ℕ) (first : has_page of.width slots (zeros of.width) ≡ true) where
  abbrev good : List ℕ → Bool
  good pair = has_page of.width slots pair

  abbrev AreGood : List Entry → Type 0
  AreGood es = Each (λ e. good e.pair ≡ true) es

  -- ---- from rows to nodes

  record HoldsGood (number : ℕ) : Type 0 where
    level : ℕ
    next : ℕ
    entries : List Entry
    holds : HoldsAt (spells of) (cells_of of held) level number next entries
    are_good : AreGood entries

  row_good : (level : ℕ) (row : Row) (end : ℕ) → Each (IsMade good) row → HoldsRow (spells of) (cells_of of held) of.width level row end → (n : ℕ) → IsIn (numbers row) n → HoldsGood n
  row_good level [] end made holds n is = absurd is
  row_good level (p ∷ row) end made holds n is = ⊎_elim
      (λ (here : p.number ≡ n). subst HoldsGood here (record { level = level; next = link level row end; entries = stored of.width level p.items; holds = holds.0; are_good = stored_each good of.width level p.items first made.0.1 }))
      (λ (more : IsIn (numbers row) n). row_good level row end made.1 holds.1 n more) is

  stack_good : (pairs : List (List ℕ)) (row : Row) (lower : List Row) → AreMade good (row ∷ lower) → IsStack (spells of) (cells_of of held) of.width pairs (row ∷ lower) → (n : ℕ) → IsIn (pages (row ∷ lower)) n → HoldsGood n
  stack_good pairs row [] made stack n is = ⊎_elim
      (λ (here : IsIn (numbers row) n). row_good 0 row no_page made.0 stack.0.held n here)
      (λ (none : ⊥). absurd none) (in_append (numbers row) [] n is)
  stack_good pairs row (l ∷ lower) made stack n is = ⊎_elim
      (λ (here : IsIn (numbers row) n). row_good (suc (length lower)) row no_page made.0 stack.0.held n here)
      (λ (more : IsIn (pages (l ∷ lower)) n). stack_good pairs l lower made.1 stack.2 n more) (in_append (numbers row) (pages (l ∷ lower)) n is)

  entry_below : (e : NodeEntry) → IsNodeEntry of.width e → good (pair_bytes e.key e.tid) ≡ true → e.tid.page < slots
  entry_below e is has =
      let said = pair_said of.width (pair_of e) is.key (record { page = is.page; slot = omega (arith, is.slot) }) in
      subst (λ (n : ℕ). n < slots) (ap (λ (p : Pair). p.tid.page) said) (below_of _ slots has)

  entries_below : (es : List NodeEntry) → All (IsNodeEntry of.width) es → AreGood (map entry_of es) → All (λ e. e.tid.page < slots) es
  entries_below [] each all = All-nil (λ e. e.tid.page < slots)
  entries_below (e ∷ es) each all = All-cons (λ e. e.tid.page < slots) e es (entry_below e (All-head (IsNodeEntry of.width) e es each) all.0) (entries_below es (All-tail (IsNodeEntry of.width) e es each) all.1)

  -- a node in one of the pages
  node_below : (number : ℕ) → HoldsGood number → (node : Node) → IsNodeAt held (base_of of) number node → All (λ e. e.tid.page < slots) node.entries
  node_below number has node at =
      let low = numbered number at.bytes at.there in
      let spelled = spelled_page (base_of of) number at.bytes node fit.wide fit.narrow (omega (arith, low)) at.is in
      let bytes : has.holds.bytes ≡ at.bytes = some_same (sym has.holds.held ∙ at.there) in
      let same = says_one at.bytes (node_of of has.level number has.next has.entries) (node_of of node.level number (next_number node.next) (map entry_of node.entries))
      (subst (λ (l : List ℕ). Spells l (node_of of has.level number has.next has.entries)) bytes has.holds.spells) spelled refl in
      entries_below node.entries at.is.each (subst AreGood (ap (λ (v : NodeView). v.entries) same) has.are_good)
    where
      some_same : {a b : List ℕ} → Some a ≡ Some b → a ≡ b
      some_same same = cc

  pub nodes_below : (pairs : List (List ℕ)) (row : Row) (lower : List Row) → AreMade good (row ∷ lower) → IsStack (spells of) (cells_of of held) of.width pairs (row ∷ lower)
      → (n : ℕ) → IsIn (pages (row ∷ lower)) n → (node : Node) → IsNodeAt held (base_of of) n node → All (λ e. e.tid.page < slots) node.entries
  nodes_below pairs row lower made stack n is node at = node_below n (stack_good pairs row lower made stack n is) node at

  -- ---- and back

  -- the identifiers of the nodes in a page are below the limit
  abbrev IsBelowIn : ℕ → Type 0
  IsBelowIn number = (node : Node) → IsNodeAt held (base_of of) number node → All (λ e. e.tid.page < slots) node.entries

  good_entries : (es : List Entry) → All (λ (e : NodeEntry). e.tid.page < slots) (map (node_entry of.width) es) → AreGood es
  good_entries [] all = tt
  good_entries (e ∷ es) all = (
    of_below _ slots (All-head (λ (e : NodeEntry). e.tid.page < slots) (node_entry of.width e) (map (node_entry of.width) es) all),
    good_entries es (All-tail (λ (e : NodeEntry). e.tid.page < slots) (node_entry of.width e) (map (node_entry of.width) es) all),
  )

  held_good : (level number next : ℕ) (es : List Entry) → Each (λ e. has_slot of.width e.pair ≡ true) es → HoldsAt (spells of) (cells_of of held) level number next es → IsBelowIn number → AreGood es
  held_good level number next es slots_good holds below =
      let view : NodeView = node_of of level number next es in
      let is = base_page holds.bytes view holds.spells (slots_of of.width es (whole_page holds.bytes view holds.spells) slots_good) in
      good_entries es (below (record { level = level; next = next_from next; entries = map (node_entry of.width) es }) (record { bytes = holds.bytes; there = holds.held; is = is }))

  made_row : (level : ℕ) (row : Row) (end : ℕ) → Each (IsMade (has_slot of.width)) row → Each (λ p. good p.low ≡ true) row → (0 < level → Each HasHead row) → HoldsRow (spells of) (cells_of of held) of.width level row end → ((n : ℕ) → IsIn (numbers row) n → IsBelowIn n) → Each (IsMade good) row
  made_row level [] end slot lows heads holds below = tt
  made_row level (p ∷ row) end slot lows heads holds below = (
    (
      lows.0,
      stored_back good of.width level p lows.0 (λ inner. (heads inner).0)
          (held_good level p.number (link level row end) (stored of.width level p.items) (stored_each (has_slot of.width) of.width level p.items (zeros_slot of.width) slot.0.1) holds.0 (below p.number (inl refl))),
    ),
    made_row level row end slot.1 lows.1 (λ inner. (heads inner).1) holds.1 (λ n is. below n (inr is)),
  )

  row_items : (row : Row) → Each (IsMade good) row → AreGood (items row)
  row_items [] made = tt
  row_items (p ∷ row) made = each_append (λ e. good e.pair ≡ true) p.items (items row) made.0.1 (row_items row made.1)

  pub made_below : (pairs : List (List ℕ)) (row : Row) (lower : List Row) → AreMade (has_slot of.width) (row ∷ lower) → Each (λ p. good p.low ≡ true) row → IsStack (spells of) (cells_of of held) of.width pairs (row ∷ lower) → ((n : ℕ) → IsIn (pages (row ∷ lower)) n → IsBelowIn n) → AreMade good (row ∷ lower)
  made_below pairs row [] slot lows stack below = (
    made_row 0 row no_page slot.0 lows (λ inner. absurd (omega (arith, inner))) stack.0.held (λ n is. below n (in_left (numbers row) [] n is)),
    tt,
  )
  made_below pairs row (l ∷ lower) slot lows stack below =
      let own = made_row (suc (length lower)) row no_page slot.0 lows (λ inner. stack.1.heads) stack.0.held (λ n is. below n (in_left (numbers row) (pages (l ∷ lower)) n is)) in
      let names_good : AreGood (names l) = subst AreGood stack.1.names_are (row_items row own) in
      (own, made_below pairs l lower slot.1 (each_unmap (λ e. good e.pair ≡ true) name l names_good) stack.2 (λ n is. below n (in_right (numbers row) (pages (l ∷ lower)) n is)))
