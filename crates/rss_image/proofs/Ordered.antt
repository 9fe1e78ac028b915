-- A leaf before others: its entries rise from its bound on, and end before the next one's.
use Rattle.std.proofs.Common.{List, ℕ, [], ◌∷◌, ◌++◌, map}
use Rattle.rss_base.specs.Entries.{Entry, IsLess}
use Rattle.rss_levels.specs.Entries.{Each, Pairwise}
use Rattle.rss_levels.specs.Rows.{Part, Row, IsBefore, fence, item, marks}
use Rattle.rss_levels.proofs.Lists.{each_append, each_left, each_right, each_map, each_unmap, each_weaker, pairwise_append, pairwise_left, pairwise_right, pairwise_cross}
use Rattle.rss_base.proofs.Entries.{less_never}
use Rattle.rss_levels.proofs.Order.{before_trans, before_less, fence_from, less_fence, less_fences, less_item}
use Rattle.rss_levels.proofs.Rising.{IsLesser}
use Rattle.rss_image.specs.Fitting.{IsUnderLimit, AreBetween}
use Rattle.rss_image.specs.Checking.{first_low}

-- the marks of entries that rise
items_marks : (es : List Entry) → Pairwise IsLesser es → Pairwise IsBefore (map item es)
items_marks [] all = tt
items_marks (e ∷ es) all = (each_map (IsBefore (item e)) item es (each_weaker (IsLesser e) (λ d. IsBefore (item e) (item d)) es (λ d less. before_less less) all.0), items_marks es all.1)

marks_items : (es : List Entry) → Pairwise IsBefore (map item es) → Pairwise IsLesser es
marks_items [] all = tt
marks_items (e ∷ es) all = (each_weaker (λ d. IsBefore (item e) (item d)) (IsLesser e) es (λ d is. less_item e d is) (each_unmap (IsBefore (item e)) item es all.0), marks_items es all.1)

item_row : (e : Entry) (row : Row) → Pairwise IsBefore (marks row) → IsUnderLimit (first_low row) e.pair → Each (IsBefore (item e)) (marks row)
item_row e [] all under = tt
item_row e (p ∷ row) all under =
    let here : IsBefore (item e) (fence p.low) = before_less under in
    (here, each_weaker (IsBefore (fence p.low)) (IsBefore (item e)) (map item p.items ++ marks row) (λ n is. before_trans here is) all.0)

fence_row : (low : List ℕ) (row : Row) → Pairwise IsBefore (marks row) → IsUnderLimit (first_low row) low → Each (IsBefore (fence low)) (marks row)
fence_row low [] all under = tt
fence_row low (p ∷ row) all under =
    let here : IsBefore (fence low) (fence p.low) = before_less under in
    (here, each_weaker (IsBefore (fence p.low)) (IsBefore (fence low)) (map item p.items ++ marks row) (λ n is. before_trans here is) all.0)

pub leaf_rises : (p : Part) (row : Row) → AreBetween p.low p.items (first_low row) → Pairwise IsBefore (marks row) → Pairwise IsBefore (marks (p ∷ row))
leaf_rises p row is all = (
  each_append (IsBefore (fence p.low)) (map item p.items) (marks row)
      (each_map (IsBefore (fence p.low)) item p.items (each_weaker (λ e. IsLess e.pair p.low → ⊥) (λ e. IsBefore (fence p.low) (item e)) p.items (λ e never. fence_from p.low e never) is.above))
      (fence_row p.low row all is.bounds),
  pairwise_append IsBefore (map item p.items) (marks row) (items_marks p.items is.rises) all
      (each_map (λ m. Each (IsBefore m) (marks row)) item p.items (each_weaker (λ e. IsUnderLimit (first_low row) e.pair) (λ e. Each (IsBefore (item e)) (marks row)) p.items (λ e under. item_row e row all under) is.below)),
)

pub leaf_between : (p : Part) (row : Row) → Pairwise IsBefore (marks (p ∷ row)) → AreBetween p.low p.items (first_low row)
leaf_between p row all = record {
  bounds = bound row (each_right (IsBefore (fence p.low)) (map item p.items) (marks row) all.0);
  above = each_weaker (λ e. IsBefore (fence p.low) (item e)) (λ e. IsLess e.pair p.low → ⊥) p.items (λ e is less. from_fence e is less) (each_unmap (IsBefore (fence p.low)) item p.items (each_left (IsBefore (fence p.low)) (map item p.items) (marks row) all.0));
  rises = marks_items p.items (pairwise_left IsBefore (map item p.items) (marks row) all.1);
  below = each_weaker (λ e. Each (IsBefore (item e)) (marks row)) (λ e. IsUnderLimit (first_low row) e.pair) p.items (λ e is. under row e is) (each_unmap (λ m. Each (IsBefore m) (marks row)) item p.items (pairwise_cross IsBefore (map item p.items) (marks row) all.1));
}
  where
    bound : (row : Row) → Each (IsBefore (fence p.low)) (marks row) → IsUnderLimit (first_low row) p.low
    bound [] all = tt
    bound (q ∷ row) all = less_fences p.low q.low all.0

    under : (row : Row) (e : Entry) → Each (IsBefore (item e)) (marks row) → IsUnderLimit (first_low row) e.pair
    under [] e all = tt
    under (q ∷ row) e all = less_fence e q.low all.0

    from_fence : (e : Entry) → IsBefore (fence p.low) (item e) → IsLess e.pair p.low → ⊥
    from_fence e is less = less_never (less_fences p.low p.low (before_trans is (before_less less)))

pub row_behind : (p : Part) (row : Row) → Pairwise IsBefore (marks (p ∷ row)) → Pairwise IsBefore (marks row)
row_behind p row all = pairwise_right IsBefore (map item p.items) (marks row) all.1
