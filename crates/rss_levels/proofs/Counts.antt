-- How many pages a tree has.
use Rattle.std.proofs.lemmas.Grind.{flat_map-append}
use Rattle.std.proofs.Common.{◌<◌, ◌≤◌, ◌≡◌, zero, ⊎_elim, ℕ, suc, ◌+◌, ◌-◌, ◌*◌, ◌/◌, List, [], ◌∷◌, ◌++◌, length, map, refl, ◌∙◌, ap, subst, arith, length-append}
use Rattle.std.proofs.Math.Nat.{le-div_iff_mul-le, mul-le-mul_left}
use Rattle.std.proofs.lemmas.Bool.{cases_lt}
use Rattle.rss_base.specs.Nodes.{node_least, node_most}
use Rattle.rss_levels.specs.Entries.{Each}
use Rattle.rss_levels.specs.Rows.{Part, Row, Cells, Spell, IsStack, IsTree, items, names, numbers, pages, leaf_entry}
use Rattle.rss_levels.specs.Spots.{HasFull, HasRoom}
use Rattle.rss_levels.proofs.Lists.{each_left, each_right, each_weaker}

-- a row of filled nodes has many entries
row_many : (f : ℕ) (row : Row) → Each (λ p. f ≤ length p.items) row → f * length row ≤ length (items row)
row_many f [] full = omega arith
row_many f (p ∷ row) full = omega (arith, full.0, row_many f row full.1, length-append p.items (items row))

long_names : (row : Row) → length (names row) ≡ length row
long_names [] = refl
long_names (p ∷ row) = ap (λ (n : ℕ). suc n) (long_names row)

long_numbers : (row : Row) → length (numbers row) ≡ length row
long_numbers [] = refl
long_numbers (p ∷ row) = ap (λ (n : ℕ). suc n) (long_numbers row)

long_leaf : (pairs : List (List ℕ)) → length (map leaf_entry pairs) ≡ length pairs
long_leaf [] = refl
long_leaf (p ∷ pairs) = ap (λ (n : ℕ). suc n) (long_leaf pairs)

-- and more, where one of them has no room
row_full : (f width : ℕ) (row : Row) → f + f ≤ node_most width → Each (λ p. f ≤ length p.items) row → HasFull width row → f * (length row + 1) ≤ length (items row)
row_full f width row twice full has =
    let parts = subst (Each (λ p. f ≤ length p.items)) has.is full in
    let left = row_many f has.before (each_left (λ p. f ≤ length p.items) has.before (has.here ∷ has.after) parts) in
    let right = row_many f has.after (each_right (λ p. f ≤ length p.items) has.before (has.here ∷ has.after) parts).1 in
    let long : length row ≡ length has.before + suc (length has.after) = ap length has.is ∙ length-append has.before (has.here ∷ has.after) in
    let all : length (items row) ≡ length (items has.before) + (length has.here.items + length (items has.after)) =
    ap (λ (r : Row). length (items r)) has.is
    ∙ ap length (flat_map-append (λ (p : Part). p.items) has.before (has.here ∷ has.after))
    ∙ length-append (items has.before) (has.here.items ++ items has.after)
    ∙ ap (λ (n : ℕ). length (items has.before) + n) (length-append has.here.items (items has.after)) in
    let times : f * (length row + 1) ≡ f * length has.before + (f * length has.after + (f + f)) = ap (λ (n : ℕ). f * (n + 1)) long ∙ omega arith in
    omega (arith, left, right, all, times, twice, has.full)

step_up : (g r deep below n : ℕ) → (g + 1) * r ≤ below → g * deep + below ≤ n → g * (r + deep) + r ≤ n
step_up g r deep below n one two = omega (arith, one, two)

fits_in : (g pages rows r n spare : ℕ) → g * (pages + rows) + (r + 1) ≤ n → n + 1 < g * (pages + (spare + 1)) + r → rows ≤ spare
fits_in g pages rows r n spare low high = ⊎_elim (λ (lt : spare < rows). let more : g * (pages + (spare + 1)) ≤ g * (pages + rows) = mul-le-mul_left g (omega arith) in absurd (omega (arith, low, high, more))) (λ (le : rows ≤ spare). le) (cases_lt spare rows)

module _ (spell : Spell) (cells : Cells) (width : ℕ) (pairs : List (List ℕ)) (g : ℕ) (least_is : node_least width ≡ g + 1) where
  full_as : (row : Row) → Each (λ p. node_least width ≤ length p.items) row → Each (λ p. g + 1 ≤ length p.items) row
  full_as row full = subst (λ (f : ℕ). Each (λ p. f ≤ length p.items) row) least_is full

  -- rows of filled nodes
  pub stack_pages : (row : Row) (lower : List Row) → Each (λ p. node_least width ≤ length p.items) row → IsStack spell cells width pairs (row ∷ lower) → g * length (pages (row ∷ lower)) + length row ≤ length pairs
  stack_pages row [] full stack =
      let many = row_many (g + 1) row (full_as row full) in
      let all : length (items row) ≡ length pairs = ap length stack.1.pairs_are ∙ long_leaf pairs in
      let count : length (numbers row ++ []) ≡ length row = length-append (numbers row) [] ∙ omega (arith, long_numbers row) in
      omega (arith, many, all, ap (λ (n : ℕ). g * n) count)
  stack_pages row (l ∷ lower) full stack =
      let many = row_many (g + 1) row (full_as row full) in
      let all : length (items row) ≡ length l = ap length stack.1.names_are ∙ long_names l in
      let deep = stack_pages l lower stack.1.full stack.2 in
      let count : length (numbers row ++ pages (l ∷ lower)) ≡ length row + length (pages (l ∷ lower)) = length-append (numbers row) (pages (l ∷ lower)) ∙ omega (arith, long_numbers row) in
      let up = step_up g (length row) (length (pages (l ∷ lower))) (length l) (length pairs) (omega (arith, many, all)) deep in
      omega (arith, up, ap (λ (n : ℕ). g * n) count)

  count_row : (row : Row) (rest : List ℕ) → length (numbers row ++ rest) ≡ length row + length rest
  count_row row rest = length-append (numbers row) rest ∙ ap (λ (n : ℕ). n + length rest) (long_numbers row)

  module _ (twice : (g + 1) + (g + 1) ≤ node_most width) where
    -- rows of filled nodes, in each of which one has no room
    pub full_pages : (row : Row) (lower : List Row) → Each (λ p. node_least width ≤ length p.items) row → IsStack spell cells width pairs (row ∷ lower) → Each (HasFull width) (row ∷ lower) → g * (length (pages (row ∷ lower)) + length (row ∷ lower)) + (length row + 1) ≤ length pairs
    full_pages row [] full stack all =
        let many = row_full (g + 1) width row twice (full_as row full) all.0 in
        let pairs_are : length (items row) ≡ length pairs = ap length stack.1.pairs_are ∙ long_leaf pairs in
        let count : length (pages (row ∷ [])) ≡ length row + 0 = count_row row [] in
        let times : g * (length (pages (row ∷ [])) + 1) ≡ g * length row + g = ap (λ (n : ℕ). g * (n + 1)) count ∙ omega arith in
        omega (arith, many, pairs_are, times)
    full_pages row (l ∷ lower) full stack all =
        let many = row_full (g + 1) width row twice (full_as row full) all.0 in
        let below : length (items row) ≡ length l = ap length stack.1.names_are ∙ long_names l in
        let deep = full_pages l lower stack.1.full stack.2 all.1 in
        let deeper : ℕ = length (pages (l ∷ lower)) in
        let rows : ℕ = length (l ∷ lower) in
        let count : length (pages (row ∷ l ∷ lower)) ≡ length row + deeper = count_row row (pages (l ∷ lower)) in
        let times : g * (length (pages (row ∷ l ∷ lower)) + length (row ∷ l ∷ lower)) ≡ g * (deeper + rows) + (g * length row + g) = ap (λ (n : ℕ). g * (n + length (row ∷ l ∷ lower))) count ∙ omega arith in
        omega (arith, many, below, deep, times)

    -- where so many pages more would be too many for one more pair, there is room
    pub stack_room : (spare : ℕ) (row : Row) (lower : List Row) → Each (λ p. node_least width ≤ length p.items) row → IsStack spell cells width pairs (row ∷ lower) → length pairs + 1 < g * (length (pages (row ∷ lower)) + (spare + 1)) + length row → HasRoom width spare (row ∷ lower)
    stack_room spare row [] full stack much = (fits, tt)
      where
        fits : Each (HasFull width) (row ∷ []) → length (row ∷ []) ≤ spare
        fits all = fits_in g (length (pages (row ∷ []))) (length (row ∷ [])) (length row) (length pairs) spare (full_pages row [] full stack all) much
    stack_room spare row (l ∷ lower) full stack much = (fits, stack_room spare l lower stack.1.full stack.2 deeper)
      where
        fits : Each (HasFull width) (row ∷ l ∷ lower) → length (row ∷ l ∷ lower) ≤ spare
        fits all = fits_in g (length (pages (row ∷ l ∷ lower))) (length (row ∷ l ∷ lower)) (length row) (length pairs) spare (full_pages row (l ∷ lower) full stack all) much

        deeper : length pairs + 1 < g * (length (pages (l ∷ lower)) + (spare + 1)) + length l
        deeper =
            let many = row_many (g + 1) row (full_as row full) in
            let below : length (items row) ≡ length l = ap length stack.1.names_are ∙ long_names l in
            let count : length (pages (row ∷ l ∷ lower)) ≡ length row + length (pages (l ∷ lower)) = count_row row (pages (l ∷ lower)) in
            let times : g * (length (pages (row ∷ l ∷ lower)) + (spare + 1)) ≡ g * (length (pages (l ∷ lower)) + (spare + 1)) + g * length row = ap (λ (n : ℕ). g * (n + (spare + 1))) count ∙ omega arith in
            omega (arith, many, below, times, much)

pub tree_pages : (spell : Spell) (cells : Cells) (width root levels : ℕ) (pairs : List (List ℕ)) (top : Part) (lower : List Row) → IsTree spell cells width root levels pairs top lower → 2 ≤ node_least width → length (pages ((top ∷ []) ∷ lower)) ≤ length pairs / (node_least width - 1) + 2
tree_pages spell cells width root levels pairs top [] tree some = omega arith
tree_pages spell cells width root levels pairs top (l ∷ lower) tree some =
    let g : ℕ = node_least width - 1 in
    let deep = stack_pages spell cells width pairs g (omega arith) l lower tree.stack.1.full tree.stack.2 in
    let few : length (pages (l ∷ lower)) * g ≤ length pairs = omega (arith, deep) in
    let low : length (pages (l ∷ lower)) ≤ length pairs / g = (le-div_iff_mul-le {k = g} {x = length (pages (l ∷ lower))} {y = length pairs} (omega arith)).1 few in
    omega (arith, low)

-- So many pages can be taken as one pair more may need: enough for each row that has a node without room, and for a new root.
pub record TreeRoom (width spare : ℕ) (rows : List Row) : Type 0 where
  pub rows_room : HasRoom width spare rows
  pub root_room : Each (HasFull width) rows → length rows + 1 ≤ spare

pub tree_room : (spell : Spell) (cells : Cells) (width root levels : ℕ) (pairs : List (List ℕ)) (top : Part) (lower : List Row) → IsTree spell cells width root levels pairs top lower → 2 ≤ node_least width → (spare : ℕ) → (length pairs + 1) / (node_least width - 1) + 2 ≤ spare + length (pages ((top ∷ []) ∷ lower)) → TreeRoom width spare ((top ∷ []) ∷ lower)
tree_room spell cells width root levels pairs top lower tree some spare room = record {
  rows_room = (λ all. omega (arith, root_room all), below lower tree.stack room);
  root_room = root_room;
}
  where
    g : ℕ
    g = node_least width - 1

    least_is : node_least width ≡ g + 1
    least_is = omega arith

    twice : (g + 1) + (g + 1) ≤ node_most width
    twice = omega arith

    -- one more page than the bound is too many
    past : (m : ℕ) → (length pairs + 1) / g < m → length pairs + 1 < m * g
    past m over = ⊎_elim (λ (lt : length pairs + 1 < m * g). lt) (λ (le : m * g ≤ length pairs + 1). let within : m ≤ (length pairs + 1) / g = (le-div_iff_mul-le {k = g} {x = m} {y = length pairs + 1} (omega arith)).1 le in absurd (omega (arith, within, over))) (cases_lt (length pairs + 1) (m * g))

    root_room : Each (HasFull width) ((top ∷ []) ∷ lower) → length ((top ∷ []) ∷ lower) + 1 ≤ spare
    root_room all =
        let rows : ℕ = length ((top ∷ []) ∷ lower) in
        let count : ℕ = length (pages ((top ∷ []) ∷ lower)) in
        let filled : Each (λ p. node_least width ≤ length p.items) (top ∷ []) = (only all.0, tt) in
        let much = full_pages spell cells width pairs g least_is twice (top ∷ []) lower filled tree.stack all in
        let within : count + rows ≤ (length pairs + 1) / g = (le-div_iff_mul-le {k = g} {x = count + rows} {y = length pairs + 1} (omega arith)).1 (omega (arith, much)) in
        omega (arith, within, room)
      where
        only : HasFull width (top ∷ []) → node_least width ≤ length top.items
        only has = at has.before has.is has.full
          where
            at : (before : Row) → top ∷ [] ≡ before ++ has.here ∷ has.after → node_most width ≤ length has.here.items → node_least width ≤ length top.items
            at [] is full = let same : top ≡ has.here = cc in let long : length top.items ≡ length has.here.items = ap (λ (p : Part). length p.items) same in omega (arith, long, full)
            at (b ∷ before) is full = let long : 1 ≡ suc (length before + suc (length has.after)) = ap length is ∙ ap (λ (n : ℕ). suc n) (length-append before (has.here ∷ has.after)) in absurd (omega (arith, long))

    below : (rows : List Row) → IsStack spell cells width pairs ((top ∷ []) ∷ rows) → (length pairs + 1) / g + 2 ≤ spare + length (pages ((top ∷ []) ∷ rows)) → HasRoom width spare rows
    below [] stack bound = tt
    below (l ∷ rows) stack bound =
        let deep : ℕ = length (pages (l ∷ rows)) in
        let over = past (deep + (spare + 1)) (omega (arith, bound)) in
        stack_room spell cells width pairs g least_is twice spare l rows stack.1.full stack.2 (omega (arith, over))

-- ---- levels

-- how many pairs there are at least, below so many nodes and so many levels of nodes with fifteen entries each
abbrev pub reach : ℕ → ℕ → ℕ
reach zero m = m
reach (suc levels) m = reach levels (15 * m)

module _ (spell : Spell) (cells : Cells) (width : ℕ) (pairs : List (List ℕ)) (many : 15 ≤ node_least width) where
  wide_row : (m : ℕ) (row : Row) → Each (λ p. node_least width ≤ length p.items) row → m ≤ length row → 15 * m ≤ length (items row)
  wide_row m row full low = let all = row_many 15 row (each_weaker (λ p. node_least width ≤ length p.items) (λ p. 15 ≤ length p.items) row (λ p long. omega (arith, long, many)) full) in omega (arith, all, low)

  stack_reach : (k m : ℕ) (row : Row) (lower : List Row) → k ≤ length (row ∷ lower) → m ≤ length row → Each (λ p. node_least width ≤ length p.items) row → IsStack spell cells width pairs (row ∷ lower) → reach k m ≤ length pairs
  stack_reach zero m row [] deep low full stack =
      let wide = wide_row m row full low in
      omega (arith, wide, ap length stack.1.pairs_are, long_leaf pairs)
  stack_reach zero m row (l ∷ lower) deep low full stack =
      let wide = wide_row m row full low in
      stack_reach zero m l lower (omega arith) (omega (arith, wide, ap length stack.1.names_are, long_names l)) stack.1.full stack.2
  stack_reach (suc zero) m row [] deep low full stack =
      let wide = wide_row m row full low in
      omega (arith, wide, ap length stack.1.pairs_are, long_leaf pairs)
  stack_reach (suc (suc k)) m row [] deep low full stack = absurd (omega (arith, deep))
  stack_reach (suc k) m row (l ∷ lower) deep low full stack =
      let wide = wide_row m row full low in
      stack_reach k (15 * m) l lower (omega (arith, deep)) (omega (arith, wide, ap length stack.1.names_are, long_names l)) stack.1.full stack.2

-- a tree of few pairs has five levels at most
pub tree_levels : (spell : Spell) (cells : Cells) (width root levels : ℕ) (pairs : List (List ℕ)) (top : Part) (lower : List Row) → IsTree spell cells width root levels pairs top lower → 15 ≤ node_least width → length pairs < 1518750 → levels ≤ 5
tree_levels spell cells width root levels pairs top [] tree many few = omega (arith, tree.high)
tree_levels spell cells width root levels pairs top (l ∷ lower) tree many few = ⊎_elim
    (λ (deep : 5 < levels).
    let two = tree.branches (omega arith) in
    let names_are : length (top.items ++ []) ≡ length l = ap length tree.stack.1.names_are ∙ long_names l in
    let whole : length (top.items ++ []) ≡ length top.items + 0 = length-append top.items [] in
    let more : reach 5 2 ≤ length pairs = stack_reach spell cells width pairs many 5 2 l lower (omega (arith, deep, tree.high)) (omega (arith, two, names_are, whole)) tree.stack.1.full tree.stack.2 in
    absurd (omega (arith, more, few)))
    (λ (low : levels ≤ 5). low) (cases_lt 5 levels)
