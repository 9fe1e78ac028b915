-- The bounds of a row rise, and so the entries of the row above it.
use Rattle.std.proofs.Common.{ℕ, List, [], ◌∷◌, ◌++◌, map, sym, subst}
use Rattle.rss_base.specs.Entries.{Entry, IsLess}
use Rattle.rss_levels.specs.Entries.{Each, Pairwise}
use Rattle.rss_levels.specs.Rows.{Part, Row, Cells, Spell, Mark, IsBefore, fence, item, marks, name, names, items, HasHead, Begins, IsStack}
use Rattle.rss_levels.proofs.Lists.{each_left, each_right, each_weaker, pairwise_right}
use Rattle.rss_levels.proofs.Order.{less_fences}

abbrev pub IsLower : Part → Part → Type 0
IsLower p q = IsLess p.low q.low

abbrev pub IsLesser : Entry → Entry → Type 0
IsLesser a b = IsLess a.pair b.pair

fences_of : (P : Mark → Type 0) (row : Row) → Each P (marks row) → Each (λ q. P (fence q.low)) row
fences_of P [] all = tt
fences_of P (p ∷ row) all = (all.0, fences_of P row (each_right P (map item p.items) (marks row) all.1))

leaf_lows : (row : Row) → Pairwise IsBefore (marks row) → Pairwise IsLower row
leaf_lows [] all = tt
leaf_lows (p ∷ row) all = (
  each_weaker (λ q. IsBefore (fence p.low) (fence q.low)) (IsLower p) row (λ q is. less_fences p.low q.low is) (fences_of (IsBefore (fence p.low)) row (each_right (IsBefore (fence p.low)) (map item p.items) (marks row) all.0)),
  leaf_lows row (pairwise_right IsBefore (map item p.items) (marks row) all.1),
)

head_of : (P : List ℕ → Type 0) (low : List ℕ) (es : List Entry) → Begins low es → Each (λ d. P d.pair) es → P low
head_of P low [] begins all = absurd begins
head_of P low (e ∷ es) begins all = subst P begins all.0

heads_of : (P : List ℕ → Type 0) (row : Row) → Each HasHead row → Each (λ d. P d.pair) (items row) → Each (λ q. P q.low) row
heads_of P [] heads all = tt
heads_of P (p ∷ row) heads all = (head_of P p.low p.items heads.0 (each_left (λ d. P d.pair) p.items (items row) all), heads_of P row heads.1 (each_right (λ d. P d.pair) p.items (items row) all))

first_of : (row : Row) (low : List ℕ) (es : List Entry) → Begins low es → Pairwise IsLesser (es ++ items row) → Each (λ d. IsLess low d.pair) (items row)
first_of row low [] begins all = absurd begins
first_of row low (e ∷ es) begins all = each_right (λ d. IsLess low d.pair) es (items row) (subst (λ (a : List ℕ). Each (λ d. IsLess a d.pair) (es ++ items row)) begins all.0)

heads_lows : (row : Row) → Each HasHead row → Pairwise IsLesser (items row) → Pairwise IsLower row
heads_lows [] heads all = tt
heads_lows (p ∷ row) heads all = (heads_of (λ a. IsLess p.low a) row heads.1 (first_of row p.low p.items heads.0 all), heads_lows row heads.1 (pairwise_right IsLesser p.items (items row) all))

names_each : (p : Part) (row : Row) → Each (IsLower p) row → Each (IsLesser (name p)) (names row)
names_each p [] all = tt
names_each p (q ∷ row) all = (all.0, names_each p row all.1)

pub names_rise : (row : Row) → Pairwise IsLower row → Pairwise IsLesser (names row)
names_rise [] all = tt
names_rise (p ∷ row) all = (names_each p row all.0, names_rise row all.1)

module _ (spell : Spell) (cells : Cells) (width : ℕ) (pairs : List (List ℕ)) where
  pub lows_rise : (row : Row) (rows : List Row) → IsStack spell cells width pairs (row ∷ rows) → Pairwise IsLower row
  lows_rise row [] stack = leaf_lows row stack.1.rises
  lows_rise row (lower ∷ rows) stack =
      heads_lows row stack.1.heads (subst (Pairwise IsLesser) (sym stack.1.names_are) (names_rise lower (lows_rise lower rows stack.2)))

  pub items_rise : (row lower : Row) (rows : List Row) → IsStack spell cells width pairs (row ∷ lower ∷ rows) → Pairwise IsLesser (items row)
  items_rise row lower rows stack = subst (Pairwise IsLesser) (sym stack.1.names_are) (names_rise lower (lows_rise lower rows stack.2))
