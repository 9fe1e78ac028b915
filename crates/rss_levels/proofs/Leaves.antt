-- The order of a leaf row, where a pair is put or a leaf is split.
use Rattle.std.proofs.Common.{◌≡◌, ℕ, List, [], ◌∷◌, ◌++◌, map, refl, sym, ◌∙◌, ap, subst, append_assoc}
use Rattle.std.proofs.lemmas.Grind.{flat_map-append}
use Rattle.std.proofs.lemmas.List.{map-append}
use Rattle.rss_base.specs.Entries.{Entry, IsLess}
use Rattle.rss_levels.specs.Entries.{Each, Pairwise}
use Rattle.rss_levels.specs.Rows.{Part, Row, Mark, IsBefore, fence, item, marks, marks_of}
use Rattle.rss_levels.proofs.Lists.{each_append, each_right, each_weaker, each_map, pairwise_left, pairwise_right, pairwise_cross, pairwise_before, pairwise_put, pairwise_cut}
use Rattle.rss_levels.proofs.Order.{before_trans, before_less, fence_from, fence_same, less_item}

regroup : (p : List Mark) (f : Mark) (xs ys r : List Mark) → p ++ ((f ∷ (xs ++ ys)) ++ r) ≡ (p ++ f ∷ xs) ++ (ys ++ r)
regroup p f xs ys r = ap (λ (l : List Mark). p ++ (f ∷ l)) (append_assoc xs ys r) ∙ sym (append_assoc p (f ∷ xs) (ys ++ r))

-- the marks of a row, cut at some place of a node
pub marks_cut : (before : Row) (here : Part) (after : Row) (xs ys : List Entry) → here.items ≡ xs ++ ys → marks (before ++ here ∷ after) ≡ (marks before ++ fence here.low ∷ map item xs) ++ (map item ys ++ marks after)
marks_cut before here after xs ys is =
    flat_map-append marks_of before (here ∷ after)
    ∙ ap (λ (l : List Entry). marks before ++ ((fence here.low ∷ map item l) ++ marks after)) is
    ∙ ap (λ (l : List Mark). marks before ++ ((fence here.low ∷ l) ++ marks after)) (map-append item xs ys)
    ∙ regroup (marks before) (fence here.low) (map item xs) (map item ys) (marks after)

above_all : (m : Mark) (ms : List Mark) → Pairwise IsBefore ms → ((n : Mark) (ns : List Mark) → ms ≡ n ∷ ns → IsBefore m n) → Each (IsBefore m) ms
above_all m [] rise first = tt
above_all m (n ∷ ns) rise first = let less = first n ns refl in (less, each_weaker (IsBefore n) (IsBefore m) ns (λ x more. before_trans less more) rise.0)

first_above : (e : Entry) (ys : List Entry) (after : Row) → ((d : Entry) (ds : List Entry) → ys ≡ d ∷ ds → IsLess e.pair d.pair) → Each (λ q. IsLess e.pair q.low) after → (n : Mark) (ns : List Mark) → map item ys ++ marks after ≡ n ∷ ns → IsBefore (item e) n
first_above e (y ∷ ys) after first high n ns is = let same : item y ≡ n = cc in subst (IsBefore (item e)) same (before_less (first y ys refl))
first_above e [] [] first high n ns is = absurd (cc)
first_above e [] (q ∷ after) first high n ns is = let same : fence q.low ≡ n = cc in subst (IsBefore (item e)) same (before_less high.0)

-- an entry is put
pub rises_put : (before : Row) (here now : Part) (after : Row) (xs : List Entry) (e : Entry) (ys : List Entry) → here.items ≡ xs ++ ys → now.low ≡ here.low → now.items ≡ xs ++ e ∷ ys → Pairwise IsBefore (marks (before ++ here ∷ after))
    → Each (λ d. IsLess d.pair e.pair) xs → (IsLess e.pair here.low → ⊥) → ((d : Entry) (ds : List Entry) → ys ≡ d ∷ ds → IsLess e.pair d.pair) → Each (λ q. IsLess e.pair q.low) after
    → Pairwise IsBefore (marks (before ++ now ∷ after))
rises_put before here now after xs e ys old low new rises below from above high =
    let front : List Mark = marks before ++ fence here.low ∷ map item xs in
    let back : List Mark = map item ys ++ marks after in
    let all : Pairwise IsBefore (front ++ back) = subst (Pairwise IsBefore) (marks_cut before here after xs ys old) rises in
    let start : IsBefore (fence here.low) (item e) = fence_from here.low e from in
    let lower : Each (λ m. IsBefore m (item e)) (marks before) = each_weaker (λ m. IsBefore m (fence here.low)) (λ m. IsBefore m (item e)) (marks before) (λ m is. before_trans is start) (pairwise_before IsBefore (marks before) (fence here.low) (map item xs) (pairwise_left IsBefore front back all)) in
    let own : Each (λ m. IsBefore m (item e)) (map item xs) = each_map (λ m. IsBefore m (item e)) item xs (each_weaker (λ d. IsLess d.pair e.pair) (λ d. IsBefore (item d) (item e)) xs (λ d is. before_less is) below) in
    let under : Each (λ m. IsBefore m (item e)) front = each_append (λ m. IsBefore m (item e)) (marks before) (fence here.low ∷ map item xs) lower (start, own) in
    let over : Each (IsBefore (item e)) back = above_all (item e) back (pairwise_right IsBefore front back all) (first_above e ys after above high) in
    let low_now : (marks before ++ fence now.low ∷ map item xs) ≡ front = ap (λ (l : List ℕ). marks before ++ fence l ∷ map item xs) low in
    subst (Pairwise IsBefore) (sym (marks_cut before now after xs (e ∷ ys) new ∙ ap (λ (l : List Mark). l ++ (item e ∷ back)) low_now)) (pairwise_put IsBefore front (item e) back all under over)

-- a leaf is split
pub rises_split : (before : Row) (here left right : Part) (after : Row) (x : Entry) (xs : List Entry) (y : Entry) (ys : List Entry) → here.items ≡ (x ∷ xs) ++ (y ∷ ys) → left.items ≡ x ∷ xs → right.items ≡ y ∷ ys → left.low ≡ here.low → right.low ≡ y.pair → Pairwise IsBefore (marks (before ++ here ∷ after))
    → Pairwise IsBefore (marks (before ++ left ∷ right ∷ after))
rises_split before here left right after x xs y ys all_is left_is right_is low mid rises =
    let front : List Mark = marks before ++ fence here.low ∷ map item (x ∷ xs) in
    let back : List Mark = map item (y ∷ ys) ++ marks after in
    let all : Pairwise IsBefore (front ++ back) = subst (Pairwise IsBefore) (marks_cut before here after (x ∷ xs) (y ∷ ys) all_is) rises in
    let crosses : Each (λ m. IsBefore m (item y)) front = each_weaker (λ m. Each (IsBefore m) back) (λ m. IsBefore m (item y)) front (λ m is. is.0) (pairwise_cross IsBefore front back all) in
    let head : Pairwise IsBefore front = pairwise_left IsBefore front back all in
    let of_items : Each (λ m. IsBefore m (item y)) (map item (x ∷ xs)) = (each_right (λ m. IsBefore m (item y)) (marks before) (fence here.low ∷ map item (x ∷ xs)) crosses).1 in
    let items_low : Each (λ m. IsBefore m (fence y.pair)) (map item (x ∷ xs)) = items_before y (x ∷ xs) of_items in
    let to_x : IsBefore (item x) (fence y.pair) = items_low.0 in
    let below_x : Each (λ m. IsBefore m (item x)) (marks before ++ fence here.low ∷ []) = before_first (marks before) (fence here.low) (item x) (map item xs) head in
    let lower : Each (λ m. IsBefore m (fence y.pair)) (marks before ++ fence here.low ∷ []) = each_weaker (λ m. IsBefore m (item x)) (λ m. IsBefore m (fence y.pair)) (marks before ++ fence here.low ∷ []) (λ m is. before_trans is to_x) below_x in
    let under : Each (λ m. IsBefore m (fence y.pair)) front = subst (Each (λ m. IsBefore m (fence y.pair))) (append_assoc (marks before) (fence here.low ∷ []) (map item (x ∷ xs))) (each_append (λ m. IsBefore m (fence y.pair)) (marks before ++ fence here.low ∷ []) (map item (x ∷ xs)) lower items_low) in
    let first : IsBefore (fence y.pair) (item y) = fence_same y.pair y refl in
    let rest = pairwise_right IsBefore front back all in
    let over : Each (IsBefore (fence y.pair)) back = (first, each_weaker (IsBefore (item y)) (IsBefore (fence y.pair)) (map item ys ++ marks after) (λ m is. before_trans first is) rest.0) in
    let shape : marks (before ++ left ∷ right ∷ after) ≡ front ++ (fence y.pair ∷ back) =
    flat_map-append marks_of before (left ∷ right ∷ after)
    ∙ (λ i. marks before ++ ((fence (low i) ∷ map item (left_is i)) ++ ((fence (mid i) ∷ map item (right_is i)) ++ marks after)))
    ∙ sym (append_assoc (marks before) (fence here.low ∷ map item (x ∷ xs)) (fence y.pair ∷ back)) in
    subst (Pairwise IsBefore) (sym shape) (pairwise_put IsBefore front (fence y.pair) back all under over)
  where
    items_before : (y : Entry) (xs : List Entry) → Each (λ m. IsBefore m (item y)) (map item xs) → Each (λ m. IsBefore m (fence y.pair)) (map item xs)
    items_before y [] all = tt
    items_before y (x ∷ xs) all = (before_less (less_item x y all.0), items_before y xs all.1)

    before_first : (ms : List Mark) (f x : Mark) (rest : List Mark) → Pairwise IsBefore (ms ++ f ∷ x ∷ rest) → Each (λ m. IsBefore m x) (ms ++ f ∷ [])
    before_first ms f x rest all = pairwise_before IsBefore (ms ++ f ∷ []) x rest (subst (Pairwise IsBefore) (sym (append_assoc ms (f ∷ []) (x ∷ rest))) all)

-- an entry is taken away
pub rises_cut : (before : Row) (here now : Part) (after : Row) (xs : List Entry) (e : Entry) (ys : List Entry) → here.items ≡ xs ++ e ∷ ys → now.low ≡ here.low → now.items ≡ xs ++ ys → Pairwise IsBefore (marks (before ++ here ∷ after)) → Pairwise IsBefore (marks (before ++ now ∷ after))
rises_cut before here now after xs e ys old low new rises =
    let front : List Mark = marks before ++ fence here.low ∷ map item xs in
    let back : List Mark = map item ys ++ marks after in
    let all : Pairwise IsBefore (front ++ (item e ∷ back)) = subst (Pairwise IsBefore) (marks_cut before here after xs (e ∷ ys) old) rises in
    let low_now : (marks before ++ fence now.low ∷ map item xs) ≡ front = ap (λ (l : List ℕ). marks before ++ fence l ∷ map item xs) low in
    subst (Pairwise IsBefore) (sym (marks_cut before now after xs ys new ∙ ap (λ (l : List Mark). l ++ back) low_now)) (pairwise_cut IsBefore front (item e) back all)

-- two leaves become one; the other way, and with an entry moved, they are split again by `rises_split`
pub rises_merge : (before : Row) (left right now : Part) (after : Row) → now.low ≡ left.low → now.items ≡ left.items ++ right.items → Pairwise IsBefore (marks (before ++ left ∷ right ∷ after)) → Pairwise IsBefore (marks (before ++ now ∷ after))
rises_merge before left right now after low are rises =
    let front : List Mark = marks before ++ fence left.low ∷ map item left.items in
    let back : List Mark = map item right.items ++ marks after in
    let shape : marks (before ++ left ∷ right ∷ after) ≡ front ++ (fence right.low ∷ back) = flat_map-append marks_of before (left ∷ right ∷ after) ∙ sym (append_assoc (marks before) (fence left.low ∷ map item left.items) (fence right.low ∷ back)) in
    let low_now : (marks before ++ fence now.low ∷ map item left.items) ≡ front = ap (λ (l : List ℕ). marks before ++ fence l ∷ map item left.items) low in
    subst (Pairwise IsBefore) (sym (marks_cut before now after left.items right.items are ∙ ap (λ (l : List Mark). l ++ back) low_now)) (pairwise_cut IsBefore front (fence right.low) back (subst (Pairwise IsBefore) shape rises))
