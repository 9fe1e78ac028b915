-- No page stands twice in a tree: leaves have other pairs, and inner nodes other children, than those beside them.
use Rattle.std.proofs.Common.{◌≡◌, ◌≢◌, ⊎_elim, ◌<◌, ◌≤◌, ℕ, suc, zero, List, [], ◌∷◌, ◌++◌, length, map, refl, sym, ◌∙◌, ap, subst, arith, Some, true, false}
use Rattle.std.specs.Prelude.{get_or}
use Rattle.std.proofs.Math.Dec.{eqb}
use Rattle.std.proofs.lemmas.Bool.{cases_lt, ne_eqb}
use Rattle.std.proofs.lemmas.List.Elements.{All-nil, All-cons}
use Rattle.std.specs.Prelude.{All}
use Rattle.std.proofs.lemmas.List.Folds.{list_any_none}
use Rattle.std.proofs.lemmas.Map.Keys.{IsDistinct-from_apart}
use Rattle.std.proofs.lemmas.Map.Steps.{length-le_from_distinct_below}
use Rattle.rss_base.specs.Entries.{Entry, IsLess, no_page}
use Rattle.rss_base.specs.Nodes.{node_least}
use Rattle.rss_levels.specs.Entries.{Each, Pairwise}
use Rattle.rss_levels.specs.Rows.{Part, Row, Cells, HoldsAt, HoldsRow, IsStack, AreDistinct, items, name, names, numbers, pages, link, stored}
use Rattle.rss_levels.proofs.Lists.{each_append, each_left, each_map, each_right, each_two, each_weaker, pairwise_append, pairwise_cross, pairwise_right}
use Rattle.rss_base.proofs.Entries.{less_never}
use Rattle.rss_node.specs.Nodes.{NodeView, Spells}
use Rattle.rss_node.specs.declared.pair.Nodes.{Nodes}
use Rattle.rss_node.proofs.Headers.{says_one}
use Rattle.rss_image.specs.Trees.{node_of, spells}
use Rattle.rss_image.proofs.Nested.{items_rise}

-- ---- numbers

-- numbers below a limit, no two of them the same, are no more than it
pub few_numbers : (ns : List ℕ) (limit : ℕ) → Pairwise (λ a b. a ≢ b) ns → Each (λ n. n < limit) ns → length ns ≤ limit
few_numbers ns limit apart below = length-le_from_distinct_below ns limit (IsDistinct-from_apart eqb ns (λ i j d lt low. ne_eqb (get_or ns i d) (get_or ns j d) (at ns i j d apart lt low))) (λ q has. ⊎_elim
    (λ (lt : q < limit). lt)
    (λ (le : limit ≤ q). let none = list_any_none (eqb q) ns (all ns q le below) in let never : true ≡ false = sym has ∙ none in absurd (cc))
    (cases_lt q limit))
  where
    later : (ns : List ℕ) (n j d : ℕ) → Each (λ m. n ≢ m) ns → j < length ns → n ≢ get_or ns j d
    later [] n j d off low = absurd (omega arith)
    later (m ∷ ns) n zero d off low = off.0
    later (m ∷ ns) n (suc j) d off low = later ns n j d off.1 (omega (arith, low))

    at : (ns : List ℕ) (i j d : ℕ) → Pairwise (λ a b. a ≢ b) ns → i < j → j < length ns → get_or ns i d ≢ get_or ns j d
    at [] i j d apart lt low = absurd (omega arith)
    at (n ∷ ns) i zero d apart lt low = absurd (omega (arith, lt))
    at (n ∷ ns) zero (suc j) d apart lt low = later ns n j d apart.0 (omega (arith, low))
    at (n ∷ ns) (suc i) (suc j) d apart lt low = at ns i j d apart.1 (omega (arith, lt)) (omega (arith, low))

    all : (ns : List ℕ) (q : ℕ) → limit ≤ q → Each (λ n. n < limit) ns → All (λ x. eqb q x ≡ false) ns
    all [] q le below = All-nil (λ x. eqb q x ≡ false)
    all (n ∷ ns) q le below = All-cons (λ x. eqb q x ≡ false) n ns (ne_eqb q n (λ same. absurd (omega (arith, same, le, below.0)))) (all ns q le below.1)

pairwise_map : {X : Type 0} (f : X → ℕ) (xs : List X) → Pairwise (λ a b. f a ≢ f b) xs → Pairwise (λ a b. a ≢ b) (map f xs)
pairwise_map f [] all = tt
pairwise_map f (x ∷ xs) all = (each_map (λ b. f x ≢ b) f xs all.0, pairwise_map f xs all.1)

-- ---- nodes of a row

-- what each two entries of a row have, those of each two of its nodes have
parted : (R : Entry → Entry → Type 0) (row : Row) → Pairwise R (items row) → Pairwise (λ p q. Each (λ e. Each (R e) q.items) p.items) row
parted R [] all = tt
parted R (p ∷ row) all = (each_of row (pairwise_cross R p.items (items row) all), parted R row (pairwise_right R p.items (items row) all))
  where
    each_of : (qs : Row) → Each (λ e. Each (R e) (items qs)) p.items → Each (λ q. Each (λ e. Each (R e) q.items) p.items) qs
    each_of [] all = tt
    each_of (q ∷ qs) all = (
      each_weaker (λ e. Each (R e) (q.items ++ items qs)) (λ e. Each (R e) q.items) p.items (λ e is. each_left (R e) q.items (items qs) is) all,
      each_of qs (each_weaker (λ e. Each (R e) (q.items ++ items qs)) (λ e. Each (R e) (items qs)) p.items (λ e is. each_right (R e) q.items (items qs) is) all),
    )

module _ (of : Nodes) (cells : Cells) where
  record IsHeldAs (level number : ℕ) (entries : List Entry) : Type 0 where
    next : ℕ
    holds : HoldsAt (spells of) cells level number next entries

  each_held : (level : ℕ) (row : Row) (end : ℕ) → HoldsRow (spells of) cells of.width level row end → Each (λ p. IsHeldAs level p.number (stored of.width level p.items)) row
  each_held level [] end held = tt
  each_held level (p ∷ row) end held = (record { next = link level row end; holds = held.0 }, each_held level row end held.1)

  same_view : (level other number next next_other : ℕ) (es ds : List Entry) → HoldsAt (spells of) cells level number next es → HoldsAt (spells of) cells other number next_other ds → node_of of level number next es ≡ node_of of other number next_other ds
  same_view level other number next next_other es ds one two =
      let both : Some one.bytes ≡ Some two.bytes = sym one.held ∙ two.held in
      let bytes : one.bytes ≡ two.bytes = cc in
      says_one two.bytes (node_of of level number next es) (node_of of other number next_other ds) (subst (λ (l : List ℕ). Spells l (node_of of level number next es)) bytes one.spells) two.spells refl

  -- a relation that no two nodes of the same stored entries can have
  abbrev TellsApart : ℕ → (Entry → Entry → Type 0) → Type 0
  TellsApart level R = (es ds : List Entry) → 0 < length es → stored of.width level es ≡ stored of.width level ds → Each (λ e. Each (R e) ds) es → ⊥

  less_apart : TellsApart 0 (λ a b. IsLess a.pair b.pair)
  less_apart [] ds some same all = absurd (omega (arith, some))
  less_apart (e ∷ es) [] some same all = absurd (cc)
  less_apart (e ∷ es) (d ∷ ds) some same all = let one : e ≡ d = cc in less_never (subst (λ (x : Entry). IsLess e.pair x.pair) (sym one) all.0.0)

  child_apart : (level : ℕ) → TellsApart (suc level) (λ a b. a.child ≢ b.child)
  child_apart level [] ds some same all = absurd (omega (arith, some))
  child_apart level (e ∷ es) [] some same all = absurd (cc)
  child_apart level (e ∷ es) (d ∷ ds) some same all = all.0.0 (first_child same)
    where
      first_of : List Entry → ℕ
      first_of [] = 0
      first_of (x ∷ xs) = x.child

      first_child : stored of.width (suc level) (e ∷ es) ≡ stored of.width (suc level) (d ∷ ds) → e.child ≡ d.child
      first_child same = ap first_of same

  row_apart : (level : ℕ) (R : Entry → Entry → Type 0) (row : Row) (end : ℕ) → TellsApart level R → HoldsRow (spells of) cells of.width level row end → Each (λ p. 0 < length p.items) row → Pairwise R (items row) → Pairwise (λ p q. p.number ≢ q.number) row
  row_apart level R row end apart held some all = each_pair row (each_held level row end held) some (parted R row all)
    where
      each_pair : (row : Row) → Each (λ p. IsHeldAs level p.number (stored of.width level p.items)) row → Each (λ p. 0 < length p.items) row → Pairwise (λ p q. Each (λ e. Each (R e) q.items) p.items) row → Pairwise (λ p q. p.number ≢ q.number) row
      each_pair [] held some all = tt
      each_pair (p ∷ row) held some all = (
        each_two (λ q. IsHeldAs level q.number (stored of.width level q.items)) (λ q. Each (λ e. Each (R e) q.items) p.items) (λ q. p.number ≢ q.number) row
            (λ q is far same.
            let there : HoldsAt (spells of) cells level p.number is.next (stored of.width level q.items) = subst (λ (n : ℕ). HoldsAt (spells of) cells level n is.next (stored of.width level q.items)) (sym same) is.holds in
            apart p.items q.items some.0 (ap (λ (n : NodeView). n.entries) (same_view level level p.number held.0.next is.next (stored of.width level p.items) (stored of.width level q.items) held.0.holds there)) far)
            held.1 all.0,
        each_pair row held.1 some.1 all.1,
      )

  -- ---- rows

  -- the page of a number holds a node of a lower level
  record IsLower (level number : ℕ) : Type 0 where
    own : ℕ
    next : ℕ
    entries : List Entry
    holds : HoldsAt (spells of) cells own number next entries
    low : own < level

  row_lower : (level limit : ℕ) (row : Row) (end : ℕ) → level < limit → HoldsRow (spells of) cells of.width level row end → Each (IsLower limit) (numbers row)
  row_lower level limit [] end low held = tt
  row_lower level limit (p ∷ row) end low held = (record { own = level; next = link level row end; entries = stored of.width level p.items; holds = held.0; low = low }, row_lower level limit row end low held.1)

  stack_lower : (limit : ℕ) (pairs : List (List ℕ)) (row : Row) (lower : List Row) → length lower < limit → IsStack (spells of) cells of.width pairs (row ∷ lower) → Each (IsLower limit) (pages (row ∷ lower))
  stack_lower limit pairs row [] low stack = each_append (IsLower limit) (numbers row) [] (row_lower 0 limit row no_page low stack.0.held) tt
  stack_lower limit pairs row (l ∷ lower) low stack = each_append (IsLower limit) (numbers row) (pages (l ∷ lower)) (row_lower (suc (length lower)) limit row no_page low stack.0.held) (stack_lower limit pairs l lower (omega (arith, low)) stack.2)

  -- the nodes of a level stand in other pages than those of lower ones
  levels_apart : (level : ℕ) (row : Row) (end : ℕ) (ns : List ℕ) → HoldsRow (spells of) cells of.width level row end → Each (IsLower level) ns → Each (λ n. Each (λ m. n ≢ m) ns) (numbers row)
  levels_apart level [] end ns held all = tt
  levels_apart level (p ∷ row) end ns held all = (
    each_weaker (IsLower level) (λ m. p.number ≢ m) ns
        (λ m is same.
        let there : HoldsAt (spells of) cells is.own p.number is.next is.entries = subst (λ (n : ℕ). HoldsAt (spells of) cells is.own n is.next is.entries) (sym same) is.holds in
        let level_is : level ≡ is.own = ap (λ (n : NodeView). n.level) (same_view level is.own p.number (link level row end) is.next (stored of.width level p.items) is.entries held.0 there) in
        absurd (omega (arith, level_is, is.low)))
        all,
    levels_apart level row end ns held.1 all,
  )

  children_apart : (lower : Row) → Pairwise (λ p q. p.number ≢ q.number) lower → Pairwise (λ a b. a.child ≢ b.child) (names lower)
  children_apart [] all = tt
  children_apart (p ∷ lower) all = (each_map (λ b. p.number ≢ b.child) name lower all.0, children_apart lower all.1)

  -- the numbers of a row of nodes with entries
  row_distinct : (pairs : List (List ℕ)) (row : Row) (lower : List Row) → 0 < node_least of.width → IsStack (spells of) cells of.width pairs (row ∷ lower) → Each (λ p. 0 < length p.items) row → Pairwise (λ p q. p.number ≢ q.number) row
  row_distinct pairs row [] full stack some = row_apart 0 (λ a b. IsLess a.pair b.pair) row no_page less_apart stack.0.held some (items_rise row stack.1.rises)
  row_distinct pairs row (l ∷ lower) full stack some =
      let below = row_distinct pairs l lower full stack.2 (each_weaker (λ p. node_least of.width ≤ length p.items) (λ p. 0 < length p.items) l (λ p is. omega (arith, is, full)) stack.1.full) in
      row_apart (suc (length lower)) (λ a b. a.child ≢ b.child) row no_page (child_apart (length lower)) stack.0.held some (subst (Pairwise (λ a b. a.child ≢ b.child)) (sym stack.1.names_are) (children_apart l below))

  -- a row without repeats, and those below it
  rows_distinct : (pairs : List (List ℕ)) (row : Row) (lower : List Row) → 0 < node_least of.width → IsStack (spells of) cells of.width pairs (row ∷ lower) → Pairwise (λ p q. p.number ≢ q.number) row → AreDistinct (row ∷ lower)
  rows_distinct pairs row [] full stack own = pairwise_append (λ a b. a ≢ b) (numbers row) [] (pairwise_map (λ (p : Part). p.number) row own) tt (each_none (numbers row))
    where
      each_none : (ns : List ℕ) → Each (λ n. Each (λ m. n ≢ m) []) ns
      each_none [] = tt
      each_none (n ∷ ns) = (tt, each_none ns)
  rows_distinct pairs row (l ∷ lower) full stack own =
      let some = each_weaker (λ p. node_least of.width ≤ length p.items) (λ p. 0 < length p.items) l (λ p is. omega (arith, is, full)) stack.1.full in
      pairwise_append (λ a b. a ≢ b) (numbers row) (pages (l ∷ lower)) (pairwise_map (λ (p : Part). p.number) row own)
      (rows_distinct pairs l lower full stack.2 (row_distinct pairs l lower full stack.2 some))
      (levels_apart (suc (length lower)) row no_page (pages (l ∷ lower)) stack.0.held (stack_lower (suc (length lower)) pairs l lower (omega arith) stack.2))

  -- a tree's pages
  pub tree_distinct : (pairs : List (List ℕ)) (top : Part) (lower : List Row) → 0 < node_least of.width → IsStack (spells of) cells of.width pairs ((top ∷ []) ∷ lower) → AreDistinct ((top ∷ []) ∷ lower)
  tree_distinct pairs top lower full stack = rows_distinct pairs (top ∷ []) lower full stack (tt, tt)
