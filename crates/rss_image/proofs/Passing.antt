-- What a binary search passes in a leaf.
use Rattle.std.proofs.Common.{◌≡◌, ⊎_elim, ◌<◌, ◌≤◌, ◌-◌, ℕ, suc, zero, Bool, true, false, List, [], ◌∷◌, ◌++◌, length, map, refl, ◌∙◌, sym, subst, arith}
use Rattle.std.proofs.lemmas.Bool.{cases_lt}
use Rattle.std.proofs.lemmas.Grind.{flat_map-append}
use Rattle.rss_base.specs.Entries.{Entry, IsLess}
use Rattle.rss_levels.specs.Entries.{Each, Pairwise}
use Rattle.rss_levels.specs.Rows.{Row, Cells, HoldsAt, IsStack, IsBefore, item, marks, marks_of}
use Rattle.rss_levels.specs.Spots.{Spot}
use Rattle.rss_levels.proofs.Lists.{pairwise_left, pairwise_right}
use Rattle.rss_base.proofs.Entries.{less_trans}
use Rattle.rss_levels.proofs.Order.{less_item}
use Rattle.rss_levels.proofs.Rising.{IsLesser}
use Rattle.rss_levels.proofs.Spotted.{at_place}
use Rattle.rss_node.specs.Nodes.{NodeView, IsPassed}
use Rattle.rss_node.specs.declared.pair.Nodes.{Nodes}
use Rattle.rss_image.specs.Trees.{spells}
use Rattle.rss_image.proofs.Halves.{stored_leaf}
use Rattle.rss_image.proofs.Insertion.{entries_are}

pub no_rows : (rows : List Row) → length rows ≡ 0 → rows ≡ []
no_rows [] is = refl
no_rows (r ∷ rows) is = absurd (omega arith)

-- the entries of a leaf rise
rising : (es : List Entry) → Pairwise IsBefore (map item es) → Pairwise IsLesser es
rising [] all = tt
rising (e ∷ es) all = (of_one es all.0, rising es all.1)
  where
    of_one : (ds : List Entry) → Each (IsBefore (item e)) (map item ds) → Each (IsLesser e) ds
    of_one [] all = tt
    of_one (d ∷ ds) all = (less_item e d all.0, of_one ds all.1)

pub rising_at : (es : List Entry) → Pairwise IsLesser es → (k j : ℕ) → k < j → j < length es → IsLess (at_place es k).pair (at_place es j).pair
rising_at [] all k j lt low = absurd (omega arith)
rising_at (e ∷ es) all k zero lt low = absurd (omega arith)
rising_at (e ∷ es) all zero (suc j) lt low = first es j all.0 (omega arith)
  where
    first : (ds : List Entry) (i : ℕ) → Each (IsLesser e) ds → i < length ds → IsLess e.pair (at_place ds i).pair
    first [] i every low = absurd (omega arith)
    first (d ∷ ds) zero every low = every.0
    first (d ∷ ds) (suc i) every low = first ds i every.1 (omega arith)
rising_at (e ∷ es) all (suc k) (suc j) lt low = rising_at es all.1 k j (omega arith) (omega arith)

-- what is below a pair that is passed is passed
passed_below : (beyond : Bool) (p q target : List ℕ) → IsLess p q → IsPassed beyond q target → IsPassed beyond p target
passed_below true p q target less is = λ under. is (less_trans under less)
passed_below false p q target less is = less_trans less is

module _ (of : Nodes) (old : Cells) (level number : ℕ) (pair : List ℕ) (pairs : List (List ℕ)) (spot : Spot (spells of) old of.width level number pair pairs) (node : NodeView) (holds : HoldsAt (spells of) old level number node.next node.entries) (is : level ≡ 0) where
  own : node.entries ≡ spot.here.items
  own = entries_are of old level number pair pairs spot node holds ∙ stored_leaf of.width level spot.here.items is

  leaf : IsStack (spells of) old of.width pairs ((spot.before ++ spot.here ∷ spot.after) ∷ [])
  leaf = subst (λ (l : List Row). IsStack (spells of) old of.width pairs ((spot.before ++ spot.here ∷ spot.after) ∷ l)) (no_rows spot.lower (spot.level_is ∙ is)) spot.stack

  pub leaf_rises : Pairwise IsLesser node.entries
  leaf_rises =
      let cut : Pairwise IsBefore (marks_of spot.here ++ marks spot.after) = pairwise_right IsBefore (marks spot.before) (marks_of spot.here ++ marks spot.after) (subst (Pairwise IsBefore) (flat_map-append marks_of spot.before (spot.here ∷ spot.after)) leaf.1.rises) in
      subst (Pairwise IsLesser) (sym own) (rising spot.here.items (pairwise_left IsBefore (marks_of spot.here) (marks spot.after) cut).1)

  -- where the entry before a place is passed, all before it are
  pub leaf_passed : (beyond : Bool) (at : ℕ) → at ≤ length node.entries → (0 < at → IsPassed beyond (at_place node.entries (at - 1)).pair pair) → (k : ℕ) → k < at → IsPassed beyond (at_place node.entries k).pair pair
  leaf_passed beyond at low last k lt = ⊎_elim
      (λ (less : k < at - 1). passed_below beyond (at_place node.entries k).pair (at_place node.entries (at - 1)).pair pair (rising_at node.entries leaf_rises k (at - 1) less (omega arith)) (last (omega arith)))
      (λ (more : at - 1 ≤ k). let same : at - 1 ≡ k = omega arith in subst (λ (n : ℕ). IsPassed beyond (at_place node.entries n).pair pair) same (last (omega arith)))
      (cases_lt k (at - 1))
