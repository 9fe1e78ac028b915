-- Pages spell one tree at most.
use Rattle.std.proofs.Common.{◌<◌, ◌≡◌, ℕ, suc, zero, List, [], ◌∷◌, length, map, refl, sym, ◌∙◌, ap, subst, arith, Some}
use Rattle.rss_base.specs.Entries.{Entry, no_page}
use Rattle.rss_levels.specs.Entries.{Each}
use Rattle.rss_levels.specs.Rows.{Part, Row, Cells, Spell, HoldsAt, HoldsRow, IsStack, IsTree, HasHead, Begins, items, names, link, stored, blanked, leaf_entry}

pub record AreSame (rows others : List Row) (pairs more : List (List ℕ)) : Type 0 where
  pub rows_are : rows ≡ others
  pub pairs_are : pairs ≡ more

blanked_one : (width : ℕ) (low : List ℕ) (es ds : List Entry) → Begins low es → Begins low ds → blanked width es ≡ blanked width ds → es ≡ ds
blanked_one width low [] ds one two same = absurd one
blanked_one width low (e ∷ es) [] one two same = absurd two
blanked_one width low (e ∷ es) (d ∷ ds) one two same =
    let pair : e.pair ≡ d.pair = one ∙ sym two in
    let child : e.child ≡ d.child = ap (λ (l : List Entry). first_child l) same in
    let rest : es ≡ ds = cc in
    λ i. record { pair = pair i; child = child i } ∷ rest i
  where
    first_child : List Entry → ℕ
    first_child [] = 0
    first_child (x ∷ xs) = x.child

stored_one : (width level : ℕ) (low : List ℕ) (es ds : List Entry) → (0 < level → Begins low es) → (0 < level → Begins low ds) → stored width level es ≡ stored width level ds → es ≡ ds
stored_one width zero low es ds one two same = same
stored_one width (suc level) low es ds one two same = blanked_one width low es ds (one (omega arith)) (two (omega arith)) same

leaves_one : (pairs more : List (List ℕ)) → map leaf_entry pairs ≡ map leaf_entry more → pairs ≡ more
leaves_one [] [] same = refl
leaves_one [] (m ∷ more) same = absurd (cc)
leaves_one (p ∷ pairs) [] same = absurd (cc)
leaves_one (p ∷ pairs) (m ∷ more) same =
    let first : leaf_entry p ≡ leaf_entry m = cc in
    let rest : map leaf_entry pairs ≡ map leaf_entry more = cc in
    λ i. (ap (λ (e : Entry). e.pair) first) i ∷ leaves_one pairs more rest i

module _ (spell : Spell) (cells : Cells) (width : ℕ) (once : (bytes : List ℕ) (level number next other : ℕ) (es ds : List Entry) → spell bytes level number next es → spell bytes level number other ds → es ≡ ds) where
  held_one : (level number next other : ℕ) (es ds : List Entry) → HoldsAt spell cells level number next es → HoldsAt spell cells level number other ds → es ≡ ds
  held_one level number next other es ds one two =
      let both : Some one.bytes ≡ Some two.bytes = sym one.held ∙ two.held in
      let bytes : one.bytes ≡ two.bytes = cc in
      once two.bytes level number next other es ds (subst (λ (l : List ℕ). spell l level number next es) bytes one.spells) two.spells

  row_one : (level : ℕ) (row others : Row) (end other : ℕ) → names row ≡ names others → (0 < level → Each HasHead row) → (0 < level → Each HasHead others) → HoldsRow spell cells width level row end → HoldsRow spell cells width level others other → row ≡ others
  row_one level [] [] end other same heads more one two = refl
  row_one level [] (q ∷ others) end other same heads more one two = absurd (cc)
  row_one level (p ∷ row) [] end other same heads more one two = absurd (cc)
  row_one level (p ∷ row) (q ∷ others) end other same heads more one two =
      let first : record { pair = p.low; child = p.number } ≡ record { pair = q.low; child = q.number } = cc in
      let low : p.low ≡ q.low = ap (λ (e : Entry). e.pair) first in
      let number : p.number ≡ q.number = ap (λ (e : Entry). e.child) first in
      let rest : names row ≡ names others = cc in
      let there = subst (λ (n : ℕ). HoldsAt spell cells level n (link level others other) (stored width level q.items)) (sym number) two.0 in
      let kept : stored width level p.items ≡ stored width level q.items = held_one level p.number (link level row end) (link level others other) (stored width level p.items) (stored width level q.items) one.0 there in
      let same_items : p.items ≡ q.items = stored_one width level p.low p.items q.items (λ inner. (heads inner).0) (λ inner. subst (λ (l : List ℕ). Begins l q.items) (sym low) (more inner).0) kept in
      let tail : row ≡ others = row_one level row others end other rest (λ inner. (heads inner).1) (λ inner. (more inner).1) one.1 two.1 in
      λ i. record { number = number i; low = low i; items = same_items i } ∷ tail i

  stack_one : (pairs more : List (List ℕ)) (row others : Row) (lower rest : List Row) → length lower ≡ length rest → names row ≡ names others → IsStack spell cells width pairs (row ∷ lower) → IsStack spell cells width more (others ∷ rest) → AreSame (row ∷ lower) (others ∷ rest) pairs more
  stack_one pairs more row others [] [] height same one two =
      let rows : row ≡ others = row_one 0 row others no_page no_page same (λ inner. absurd (omega arith)) (λ inner. absurd (omega arith)) one.0.held two.0.held in
      record { rows_are = ap (λ (r : Row). r ∷ []) rows; pairs_are = leaves_one pairs more (sym one.1.pairs_are ∙ ap items rows ∙ two.1.pairs_are) }
  stack_one pairs more row others [] (l ∷ rest) height same one two = absurd (omega (arith, height))
  stack_one pairs more row others (l ∷ lower) [] height same one two = absurd (omega (arith, height))
  stack_one pairs more row others (l ∷ lower) (m ∷ rest) height same one two =
      let long : length lower ≡ length rest = omega (arith, height) in
      let there = subst (λ (n : ℕ). HoldsRow spell cells width (suc n) others no_page) (sym long) two.0.held in
      let rows : row ≡ others = row_one (suc (length lower)) row others no_page no_page same (λ inner. one.1.heads) (λ inner. two.1.heads) one.0.held there in
      let below = stack_one pairs more l m lower rest long (sym one.1.names_are ∙ ap items rows ∙ two.1.names_are) one.2 two.2 in
      record { rows_are = λ i. rows i ∷ below.rows_are i; pairs_are = below.pairs_are }

  pub tree_one : (root levels : ℕ) (pairs more : List (List ℕ)) (top other : Part) (lower rest : List Row) → IsTree spell cells width root levels pairs top lower → IsTree spell cells width root levels more other rest → AreSame ((top ∷ []) ∷ lower) ((other ∷ []) ∷ rest) pairs more
  tree_one root levels pairs more top other lower rest one two =
      stack_one pairs more (top ∷ []) (other ∷ []) lower rest (omega (arith, one.high, two.high)) (λ i. record { pair = (one.low ∙ sym two.low) i; child = (one.at_root ∙ sym two.at_root) i } ∷ []) one.stack two.stack
