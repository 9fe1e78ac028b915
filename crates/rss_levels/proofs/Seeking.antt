-- The first pair that a search doesn't pass.
use Rattle.std.proofs.Common.{◌≡◌, ℕ, Bool, true, false, List, [], ◌∷◌, ◌++◌, map, refl, sym, ◌∙◌, ap, subst, Some, None, append_assoc}
use Rattle.std.specs.Ordering.{nat_cmp, is_lt}
use Rattle.std.specs.declared.cmp.Ordering.{Ordering}
use Rattle.std.specs.declared.cmp.Ordering.TheVariants.{Less, Equal, Greater}
use Rattle.std.specs.Cmp.Lexicographic.{slice_cmp}
use Rattle.std.proofs.lemmas.Grind.{flat_map-append}
use Rattle.rss_base.specs.Entries.{Entry, IsLess}
use Rattle.rss_levels.specs.Entries.{Each, Pairwise}
use Rattle.rss_levels.specs.Rows.{Part, Row, IsBefore, fence, item, marks, marks_of, items, leaf_entry}
use Rattle.rss_levels.specs.Sought.{is_passed, first_from, IsPassedBy}
use Rattle.rss_levels.proofs.Lists.{each_append, each_left, each_right, each_weaker, pairwise_cross, pairwise_right}
use Rattle.rss_base.proofs.Entries.{less_trans, less_asym, greater_less}
use Rattle.rss_levels.proofs.Order.{less_fence, less_item, before_trans, before_less}
use Rattle.std.specs.FinMap.{slice_cmp-IsAntisymmetric, nat_cmp-IsAntisymmetric}

not_lt : (o : Ordering) → (o ≡ Less → ⊥) → is_lt o ≡ false
not_lt Less never = absurd (never refl)
not_lt Equal never = refl
not_lt Greater never = refl

-- below what is not above
pub less_upto : (a b c : List ℕ) → IsLess a b → (IsLess c b → ⊥) → IsLess a c
less_upto a b c less above = cases (slice_cmp nat_cmp b c) refl
  where
    cases : (o : Ordering) → slice_cmp nat_cmp b c ≡ o → IsLess a c
    cases Less is = less_trans less (record { is = is })
    cases Equal is = subst (IsLess a) (slice_cmp-IsAntisymmetric nat_cmp-IsAntisymmetric b c is) less
    cases Greater is = absurd (above (greater_less b c is))

pub passed_true : (beyond : Bool) (pair target : List ℕ) → IsPassedBy beyond pair target → is_passed beyond pair target ≡ true
passed_true true pair target is = let test : is_lt (slice_cmp nat_cmp target pair) ≡ false = not_lt (slice_cmp nat_cmp target pair) (λ less. is (record { is = less })) in rw test refl
passed_true false pair target is = ap is_lt is.is

pub passed_false : (beyond : Bool) (pair target : List ℕ) → (IsPassedBy beyond pair target → ⊥) → is_passed beyond pair target ≡ false
passed_false true pair target not = cases (slice_cmp nat_cmp target pair) refl
  where
    cases : (o : Ordering) → slice_cmp nat_cmp target pair ≡ o → is_passed true pair target ≡ false
    cases Less is = let test : is_lt (slice_cmp nat_cmp target pair) ≡ true = ap is_lt is in rw test refl
    cases Equal is = absurd (not (λ less. let never : Equal ≡ Less = sym is ∙ less.is in cc))
    cases Greater is = absurd (not (λ less. let never : Greater ≡ Less = sym is ∙ less.is in cc))
passed_false false pair target not = not_lt (slice_cmp nat_cmp pair target) (λ less. not (record { is = less }))

pub below_passed : (beyond : Bool) (pair target : List ℕ) → IsLess pair target → IsPassedBy beyond pair target
below_passed true pair target less = λ other. less_asym less other
below_passed false pair target less = less

pub above_not : (beyond : Bool) (pair target : List ℕ) → IsLess target pair → IsPassedBy beyond pair target → ⊥
above_not true pair target less passed = passed less
above_not false pair target less passed = less_asym less passed

-- ---- among entries

pub skips : (beyond : Bool) (target : List ℕ) (xs ys : List Entry) → Each (λ d. IsPassedBy beyond d.pair target) xs → first_from beyond target (map (λ d. d.pair) (xs ++ ys)) ≡ first_from beyond target (map (λ d. d.pair) ys)
skips beyond target [] ys all = refl
skips beyond target (x ∷ xs) ys all = let test = passed_true beyond x.pair target all.0 in rw test (skips beyond target xs ys all.1)

pub stops : (beyond : Bool) (target : List ℕ) (y : Entry) (ys : List Entry) → (IsPassedBy beyond y.pair target → ⊥) → first_from beyond target (map (λ d. d.pair) (y ∷ ys)) ≡ Some y.pair
stops beyond target y ys not = let test = passed_false beyond y.pair target not in rw test refl

pub of_pairs : (pairs : List (List ℕ)) → map (λ d. d.pair) (map leaf_entry pairs) ≡ pairs
of_pairs [] = refl
of_pairs (p ∷ pairs) = ap (λ (l : List (List ℕ)). p ∷ l) (of_pairs pairs)

-- ---- in a row of leaves

lower_items : (before : Row) (here : Part) (after : Row) (target : List ℕ) → Pairwise IsBefore (marks (before ++ here ∷ after)) → (IsLess target here.low → ⊥) → Each (λ d. IsLess d.pair target) (items before)
lower_items before here after target rises low =
    let cut : marks (before ++ here ∷ after) ≡ marks before ++ (fence here.low ∷ (map item here.items ++ marks after)) = flat_map-append marks_of before (here ∷ after) in
    let all : Each (λ m. IsBefore m (fence here.low)) (marks before) = each_weaker (λ m. Each (IsBefore m) (fence here.low ∷ (map item here.items ++ marks after))) (λ m. IsBefore m (fence here.low)) (marks before) (λ m is. is.0) (pairwise_cross IsBefore (marks before) (fence here.low ∷ (map item here.items ++ marks after)) (subst (Pairwise IsBefore) cut rises)) in
    of_row before all
  where
    of_items : (es : List Entry) → Each (λ m. IsBefore m (fence here.low)) (map item es) → Each (λ d. IsLess d.pair target) es
    of_items [] all = tt
    of_items (e ∷ es) all = (less_upto e.pair here.low target (less_fence e here.low all.0) low, of_items es all.1)

    of_row : (row : Row) → Each (λ m. IsBefore m (fence here.low)) (marks row) → Each (λ d. IsLess d.pair target) (items row)
    of_row [] all = tt
    of_row (p ∷ row) all =
        each_append (λ d. IsLess d.pair target) p.items (items row)
        (of_items p.items (each_left (λ m. IsBefore m (fence here.low)) (map item p.items) (marks row) all.1))
        (of_row row (each_right (λ m. IsBefore m (fence here.low)) (map item p.items) (marks row) all.1))

module _ (beyond : Bool) (target : List ℕ) (pairs : List (List ℕ)) (before : Row) (here : Part) (after : Row) (are : items (before ++ here ∷ after) ≡ map leaf_entry pairs) (rises : Pairwise IsBefore (marks (before ++ here ∷ after))) (low : IsLess target here.low → ⊥) where
  from_here : first_from beyond target pairs ≡ first_from beyond target (map (λ d. d.pair) (here.items ++ items after))
  from_here =
      sym (ap (first_from beyond target) (ap (map (λ (d : Entry). d.pair)) are ∙ of_pairs pairs))
      ∙ ap (λ (l : List Entry). first_from beyond target (map (λ d. d.pair) l)) (flat_map-append (λ (p : Part). p.items) before (here ∷ after))
      ∙ skips beyond target (items before) (here.items ++ items after) (each_weaker (λ d. IsLess d.pair target) (λ d. IsPassedBy beyond d.pair target) (items before) (λ d less. below_passed beyond d.pair target less) (lower_items before here after target rises low))

  pub found_here : (xs : List Entry) (y : Entry) (ys : List Entry) → here.items ≡ xs ++ y ∷ ys → Each (λ d. IsPassedBy beyond d.pair target) xs → (IsPassedBy beyond y.pair target → ⊥) → first_from beyond target pairs ≡ Some y.pair
  found_here xs y ys has passed not =
      from_here
      ∙ ap (λ (l : List Entry). first_from beyond target (map (λ d. d.pair) l)) (ap (λ (l : List Entry). l ++ items after) has ∙ append_assoc xs (y ∷ ys) (items after))
      ∙ skips beyond target xs (y ∷ (ys ++ items after)) passed
      ∙ stops beyond target y (ys ++ items after) not

  pub found_none : Each (λ d. IsPassedBy beyond d.pair target) here.items → after ≡ [] → first_from beyond target pairs ≡ None
  found_none passed last = from_here ∙ skips beyond target here.items (items after) passed ∙ ap (λ (r : Row). first_from beyond target (map (λ d. d.pair) (items r))) last

  pub found_next : Each (λ d. IsPassedBy beyond d.pair target) here.items → (q : Part) (rest : Row) (d : Entry) (ds : List Entry) → after ≡ q ∷ rest → q.items ≡ d ∷ ds → IsLess target q.low → first_from beyond target pairs ≡ Some d.pair
  found_next passed q rest d ds is has less =
      let behind : Pairwise IsBefore (marks after) = pairwise_right IsBefore (marks_of here) (marks after) (pairwise_right IsBefore (marks before) (marks_of here ++ marks after) (subst (Pairwise IsBefore) (flat_map-append marks_of before (here ∷ after)) rises)) in
      let there : Pairwise IsBefore (fence q.low ∷ (map item (d ∷ ds) ++ marks rest)) = subst (λ (es : List Entry). Pairwise IsBefore (fence q.low ∷ (map item es ++ marks rest))) has (subst (λ (r : Row). Pairwise IsBefore (marks r)) is behind) in
      let above : IsLess target d.pair = less_item (leaf_entry target) d (before_trans (before_less less) there.0.0) in
      from_here
      ∙ skips beyond target here.items (items after) passed
      ∙ ap (λ (r : Row). first_from beyond target (map (λ d. d.pair) (items r))) is
      ∙ ap (λ (es : List Entry). first_from beyond target (map (λ d. d.pair) (es ++ items rest))) has
      ∙ stops beyond target d (ds ++ items rest) (above_not beyond d.pair target above)
