-- Where a node of a row stands, by an entry that names it.
use Rattle.std.proofs.Common.{◌≡◌, ◌≢◌, ℕ, List, [], ◌∷◌, ◌++◌, length, refl, sym, ◌∙◌, ap, subst, arith, length-append, append_assoc}
use Rattle.std.proofs.lemmas.Grind.{flat_map-append}
use Rattle.rss_base.specs.Entries.{Entry, IsLess}
use Rattle.rss_levels.specs.Entries.{Each, Pairwise}
use Rattle.rss_levels.specs.Rows.{Part, Row, Cells, Spell, name, names, items, HasHead, Begins, IsStack, AreDistinct, pages, numbers}
use Rattle.rss_levels.specs.Spots.{Spot}
use Rattle.rss_levels.proofs.Lists.{each_right, each_weaker, pairwise_right}
use Rattle.rss_base.proofs.Entries.{less_trans}
use Rattle.rss_levels.proofs.Rising.{IsLesser, items_rise}

pub record SplitsAt (row : Row) (xs : List Entry) (e : Entry) (ys : List Entry) : Type 0 where
  pub before : Row
  pub here : Part
  pub after : Row
  pub is : row ≡ before ++ here ∷ after
  pub before_is : names before ≡ xs
  pub here_is : name here ≡ e
  pub after_is : names after ≡ ys

pub split_names : (row : Row) (xs : List Entry) (e : Entry) (ys : List Entry) → names row ≡ xs ++ e ∷ ys → SplitsAt row xs e ys
split_names [] xs e ys is = let long : length {A = Entry} [] ≡ length (xs ++ e ∷ ys) = ap length is in absurd (omega (arith, long, length-append xs (e ∷ ys)))
split_names (p ∷ row) [] e ys is = record { before = []; here = p; after = row; is = refl; before_is = refl; here_is = cc; after_is = cc }
split_names (p ∷ row) (x ∷ xs) e ys is =
    let one : name p ≡ x = cc in
    let rest = split_names row xs e ys (cc) in
    record { before = p ∷ rest.before; here = rest.here; after = rest.after; is = λ i. p ∷ rest.is i; before_is = λ i. one i ∷ rest.before_is i; here_is = rest.here_is; after_is = rest.after_is }

-- the entries of a row, with one of one of its nodes
pub items_around : (before : Row) (here : Part) (after : Row) (xs : List Entry) (e : Entry) (ys : List Entry) → here.items ≡ xs ++ e ∷ ys → items (before ++ here ∷ after) ≡ (items before ++ xs) ++ e ∷ (ys ++ items after)
items_around before here after xs e ys is =
    flat_map-append (λ (p : Part). p.items) before (here ∷ after)
    ∙ ap (λ (l : List Entry). items before ++ (l ++ items after)) is
    ∙ ap (λ (l : List Entry). items before ++ l) (append_assoc xs (e ∷ ys) (items after))
    ∙ sym (append_assoc (items before) xs (e ∷ (ys ++ items after)))

-- a pair below the first of rising entries is below all
pub below_all : (target : List ℕ) (es : List Entry) → Pairwise IsLesser es → ((d : Entry) (ds : List Entry) → es ≡ d ∷ ds → IsLess target d.pair) → Each (λ d. IsLess target d.pair) es
below_all target [] rise first = tt
below_all target (d ∷ ds) rise first = let less = first d ds refl in (less, each_weaker (IsLesser d) (λ x. IsLess target x.pair) ds (λ x more. less_trans less more) rise.0)

pub first_after : (target : List ℕ) (ys : List Entry) (after : Row) → ((d : Entry) (ds : List Entry) → ys ≡ d ∷ ds → IsLess target d.pair) → Each (λ q. IsLess target q.low) after → Each HasHead after → (d : Entry) (ds : List Entry) → ys ++ items after ≡ d ∷ ds → IsLess target d.pair
first_after target (y ∷ ys) after first high heads d ds is = let same : y ≡ d = cc in subst (λ (x : Entry). IsLess target x.pair) same (first y ys refl)
first_after target [] [] first high heads d ds is = absurd (cc)
first_after target [] (q ∷ after) first high heads d ds is = first_item q.low q.items heads.0 high.0 is
  where
    first_item : (low : List ℕ) (es : List Entry) → Begins low es → IsLess target low → es ++ items after ≡ d ∷ ds → IsLess target d.pair
    first_item low [] begins less is = absurd begins
    first_item low (e ∷ es) begins less is = let same : e ≡ d = cc in subst (λ (x : Entry). IsLess target x.pair) same (subst (IsLess target) (sym begins) less)

pub lows_below : (target : List ℕ) (row : Row) → Each (λ d. IsLess target d.pair) (names row) → Each (λ q. IsLess target q.low) row
lows_below target [] all = tt
lows_below target (q ∷ row) all = (all.0, lows_below target row all.1)

-- the spot of a child
module _ (spell : Spell) (cells : Cells) (width : ℕ) (target : List ℕ) (pairs : List (List ℕ)) (before : Row) (here : Part) (after lrow : Row) (lrows : List Row) (stack : IsStack spell cells width pairs ((before ++ here ∷ after) ∷ lrow ∷ lrows)) (xs : List Entry) (e : Entry) (ys : List Entry) (entries_are : here.items ≡ xs ++ e ∷ ys) where
  pub child_split : SplitsAt lrow (items before ++ xs) e (ys ++ items after)
  child_split = split_names lrow (items before ++ xs) e (ys ++ items after) (sym stack.1.names_are ∙ items_around before here after xs e ys entries_are)

  abbrev pub child_spot : (level : ℕ) → length lrows ≡ level → AreDistinct ((before ++ here ∷ after) ∷ lrow ∷ lrows) → Each (λ q. IsLess target q.low) after → (IsLess target e.pair → ⊥) → ((d : Entry) (ds : List Entry) → ys ≡ d ∷ ds → IsLess target d.pair)
      → Spot spell cells width level e.child target pairs
  child_spot level height distinct high from next =
      let split = child_split in
      let rises : Pairwise IsLesser ((items before ++ xs) ++ e ∷ (ys ++ items after)) = subst (Pairwise IsLesser) (items_around before here after xs e ys entries_are) (items_rise spell cells width pairs (before ++ here ∷ after) lrow lrows stack) in
      let behind : Pairwise IsLesser (ys ++ items after) = (pairwise_right IsLesser (items before ++ xs) (e ∷ (ys ++ items after)) rises).1 in
      let heads : Each HasHead after = (each_right HasHead before (here ∷ after) stack.1.heads).1 in
      let above : Each (λ d. IsLess target d.pair) (ys ++ items after) = below_all target (ys ++ items after) behind (first_after target ys after next high heads) in
      record {
        before = split.before;
        here = split.here;
        after = split.after;
        lower = lrows;
        number_is = ap (λ (d : Entry). d.child) split.here_is;
        level_is = height;
        stack = subst (λ (r : Row). IsStack spell cells width pairs (r ∷ lrows)) split.is stack.2;
        distinct = subst (λ (r : Row). AreDistinct (r ∷ lrows)) split.is (pairwise_right (λ a b. a ≢ b) (numbers (before ++ here ∷ after)) (pages (lrow ∷ lrows)) distinct);
        low = λ less. from (subst (λ (d : Entry). IsLess target d.pair) split.here_is less);
        high = lows_below target split.after (subst (Each (λ d. IsLess target d.pair)) (sym split.after_is) above);
      }
