-- Two neighbours of a row are evened out.
use Rattle.std.proofs.Common.{◌≤◌, ◌≡◌, ◌≢◌, ◌⊎◌, inl, inr, ⊎_elim, ℕ, suc, List, [], ◌∷◌, ◌++◌, length, refl, sym, ◌∙◌, ap, subst, arith, append_assoc}
use Rattle.std.proofs.lemmas.Grind.{flat_map-append}
use Rattle.std.proofs.lemmas.List.{map-append}
use Rattle.rss_base.specs.Entries.{Entry, no_page}
use Rattle.rss_base.specs.Nodes.{node_most}
use Rattle.rss_levels.specs.Entries.{Each, Pairwise, IsIn}
use Rattle.rss_levels.specs.Rows.{Part, Row, Cells, Spell, IsRow, IsStack, AreDistinct, HasHead, Begins, IsBefore, marks, name, names, items, numbers, pages, first}
use Rattle.rss_levels.specs.Removes.{Evens}
use Rattle.rss_levels.proofs.Lists.{each_append, each_left, each_right, each_weaker, each_two, each_unmap, pairwise_right, pairwise_cross, pairwise_cut}
use Rattle.rss_levels.proofs.Held.{held_replaced}
use Rattle.rss_levels.proofs.Leaves.{rises_merge}
use Rattle.rss_levels.proofs.Inserting.{rises_mid, begins_left}
use Rattle.rss_levels.proofs.Pages.{stack_kept}

-- ---- numbers

pub numbers_at : (xs ys : Row) (more : List ℕ) → numbers (xs ++ ys) ++ more ≡ numbers xs ++ (numbers ys ++ more)
numbers_at xs ys more = ap (λ (l : List ℕ). l ++ more) (map-append (λ (p : Part). p.number) xs ys) ∙ append_assoc (numbers xs) (numbers ys) more

-- the others are none of two
pub two_off : (ns : List ℕ) (a b : ℕ) (ms : List ℕ) → Pairwise (λ a b. a ≢ b) (ns ++ a ∷ b ∷ ms) → Each (λ n. IsIn (a ∷ b ∷ []) n → ⊥) ns × Each (λ n. IsIn (a ∷ b ∷ []) n → ⊥) ms
two_off ns a b ms distinct =
    let right = pairwise_right (λ a b. a ≢ b) ns (a ∷ b ∷ ms) distinct in (
      each_weaker (λ n. Each (λ m. n ≢ m) (a ∷ b ∷ ms)) (λ n. IsIn (a ∷ b ∷ []) n → ⊥) ns (λ n off is. ⊎_elim (λ (same : a ≡ n). off.0 (sym same)) (λ (more : IsIn (b ∷ []) n). ⊎_elim (λ (same : b ≡ n). off.1.0 (sym same)) (λ (none : ⊥). none) more) is) (pairwise_cross (λ a b. a ≢ b) ns (a ∷ b ∷ ms) distinct),
      each_two (λ n. a ≢ n) (λ n. b ≢ n) (λ n. IsIn (a ∷ b ∷ []) n → ⊥) ms (λ n one two is. ⊎_elim (λ (same : a ≡ n). one same) (λ (more : IsIn (b ∷ []) n). ⊎_elim (λ (same : b ≡ n). two same) (λ (none : ⊥). none) more) is) right.0.1 right.1.0,
    )

-- in place of two neighbours stand one or two, with their pages
pub each_less : (P : ℕ → Type 0) (ns : List ℕ) (a b : ℕ) (ms : List ℕ) (extra : Row) → length extra ≤ 1 → Each (λ p. p.number ≡ b) extra → Each P (ns ++ a ∷ b ∷ ms) → Each P (ns ++ a ∷ (numbers extra ++ ms))
each_less P ns a b ms [] few same all = let right = each_right P ns (a ∷ b ∷ ms) all in each_append P ns (a ∷ ms) (each_left P ns (a ∷ b ∷ ms) all) (right.0, right.1.1)
each_less P ns a b ms (q ∷ []) few same all = subst (λ (n : ℕ). Each P (ns ++ a ∷ n ∷ ms)) (sym same.0) all
each_less P ns a b ms (q ∷ r ∷ extra) few same all = absurd (omega arith)

pub distinct_less : (ns : List ℕ) (a b : ℕ) (ms : List ℕ) (extra : Row) → length extra ≤ 1 → Each (λ p. p.number ≡ b) extra → Pairwise (λ a b. a ≢ b) (ns ++ a ∷ b ∷ ms) → Pairwise (λ a b. a ≢ b) (ns ++ a ∷ (numbers extra ++ ms))
distinct_less ns a b ms [] few same all =
    let one : Pairwise (λ a b. a ≢ b) ((ns ++ a ∷ []) ++ b ∷ ms) = subst (Pairwise (λ a b. a ≢ b)) (sym (append_assoc ns (a ∷ []) (b ∷ ms))) all in
    subst (Pairwise (λ a b. a ≢ b)) (append_assoc ns (a ∷ []) ms) (pairwise_cut (λ a b. a ≢ b) (ns ++ a ∷ []) b ms one)
distinct_less ns a b ms (q ∷ []) few same all = subst (λ (n : ℕ). Pairwise (λ a b. a ≢ b) (ns ++ a ∷ n ∷ ms)) (sym same.0) all
distinct_less ns a b ms (q ∷ r ∷ extra) few same all = absurd (omega arith)

pub begins_more : (low : List ℕ) (es more : List Entry) → Begins low es → Begins low (es ++ more)
begins_more low [] more is = absurd is
begins_more low (e ∷ es) more is = is

-- ---- a row in which two neighbours are evened out

module _ (spell : Spell) (old new : Cells) (width : ℕ) (pairs : List (List ℕ)) (before : Row) (left right : Part) (after : Row) (rest : List Row) (head : Part) (extra : Row) where
  abbrev was : Row
  was = before ++ left ∷ right ∷ after

  abbrev now : Row
  now = before ++ head ∷ (extra ++ after)

  pub was_numbers : (more : List ℕ) → numbers was ++ more ≡ numbers before ++ left.number ∷ right.number ∷ (numbers after ++ more)
  was_numbers more = numbers_at before (left ∷ right ∷ after) more

  now_numbers : (more : List ℕ) → head.number ≡ left.number → numbers now ++ more ≡ numbers before ++ left.number ∷ (numbers extra ++ (numbers after ++ more))
  now_numbers more same = numbers_at before (head ∷ (extra ++ after)) more ∙ (λ i. numbers before ++ (same i ∷ numbers_at extra after more i))

  module _ (ev : Evens spell old new width (length rest) left right (first after no_page) head extra) where
    items_same : items now ≡ items was
    items_same =
        flat_map-append (λ (p : Part). p.items) before ((head ∷ extra) ++ after)
        ∙ ap (λ (l : List Entry). items before ++ l) (flat_map-append (λ (p : Part). p.items) (head ∷ extra) after)
        ∙ ap (λ (l : List Entry). items before ++ (l ++ items after)) ev.entries_are
        ∙ ap (λ (l : List Entry). items before ++ l) (append_assoc left.items right.items (items after))
        ∙ sym (flat_map-append (λ (p : Part). p.items) before (left ∷ right ∷ after))

    each_now : (P : Part → Type 0) → Each P before → Each P after → Each P (head ∷ extra) → Each P now
    each_now P one two mid = each_append P before (head ∷ (extra ++ after)) one (mid.0, each_append P extra after mid.1 two)

    each_was : (P : Part → Type 0) → Each P was → Each P before × Each P after
    each_was P all = (each_left P before (left ∷ right ∷ after) all, (each_right P before (left ∷ right ∷ after) all).1.1)

    pub even_own : (P : ℕ → Type 0) → Each P (pages (was ∷ rest)) → Each P (pages (now ∷ rest))
    even_own P all = subst (Each P) (sym (now_numbers (pages rest) ev.number_is)) (each_less P (numbers before) left.number right.number (numbers after ++ pages rest) extra ev.few_extra ev.extra_number (subst (Each P) (was_numbers (pages rest)) all))

    pub even_distinct : AreDistinct (was ∷ rest) → AreDistinct (now ∷ rest)
    even_distinct all = subst (Pairwise (λ a b. a ≢ b)) (sym (now_numbers (pages rest) ev.number_is)) (distinct_less (numbers before) left.number right.number (numbers after ++ pages rest) extra ev.few_extra ev.extra_number (subst (Pairwise (λ a b. a ≢ b)) (was_numbers (pages rest)) all))

    even_off : AreDistinct (was ∷ rest) → Each (λ n. IsIn (left.number ∷ right.number ∷ []) n → ⊥) (numbers before) × Each (λ n. IsIn (left.number ∷ right.number ∷ []) n → ⊥) (numbers after ++ pages rest)
    even_off all = two_off (numbers before) left.number right.number (numbers after ++ pages rest) (subst (Pairwise (λ a b. a ≢ b)) (was_numbers (pages rest)) all)

    even_row : AreDistinct (was ∷ rest) → IsRow spell old width (length rest) was → IsRow spell new width (length rest) now
    even_row distinct row =
        let off = even_off distinct in
        let off_after = each_left (λ n. IsIn (left.number ∷ right.number ∷ []) n → ⊥) (numbers after) (pages rest) off.1 in
        let few = each_was (λ p. length p.items ≤ node_most width) row.few in
        record {
          held = held_replaced spell width (length rest) old new (left.number ∷ right.number ∷ []) before (left ∷ right ∷ []) (head ∷ extra) after no_page ev.keeps
              (each_unmap (λ n. IsIn (left.number ∷ right.number ∷ []) n → ⊥) (λ (p : Part). p.number) before off.0)
              (each_unmap (λ n. IsIn (left.number ∷ right.number ∷ []) n → ⊥) (λ (p : Part). p.number) after off_after)
              (sym ev.number_is) row.held ev.held;
          few = each_now (λ p. length p.items ≤ node_most width) few.0 few.1 ev.few;
        }

    even_rises : Pairwise IsBefore (marks was) → Pairwise IsBefore (marks now)
    even_rises rises = rises_mid before left head extra after (left.items ++ right.items) ev.entries_are ev.low_is ev.some ev.heads ev.few_extra (λ one low are. rises_merge before left right one after low are rises)

    even_heads : Each HasHead was → Each HasHead now
    even_heads all =
        let parts = each_was HasHead all in
        let mine : Begins left.low left.items = (each_right HasHead before (left ∷ right ∷ after) all).0 in
        let whole : Begins left.low (items (head ∷ extra)) = subst (Begins left.low) (sym ev.entries_are) (begins_more left.low left.items right.items mine) in
        each_now HasHead parts.0 parts.1 (subst (λ (l : List ℕ). Begins l head.items) (sym ev.low_is) (begins_left left.low head.items (items extra) ev.some whole), ev.heads)

pub even_stack : (spell : Spell) (old new : Cells) (width : ℕ) (pairs : List (List ℕ)) (before : Row) (left right : Part) (after : Row) (rest : List Row) (head : Part) (extra : Row) → Evens spell old new width (length rest) left right (first after no_page) head extra → AreDistinct ((before ++ left ∷ right ∷ after) ∷ rest)
    → IsStack spell old width pairs ((before ++ left ∷ right ∷ after) ∷ rest) → IsStack spell new width pairs ((before ++ head ∷ (extra ++ after)) ∷ rest)
even_stack spell old new width pairs before left right after [] head extra ev distinct stack = (
  even_row spell old new width pairs before left right after [] head extra ev distinct stack.0,
  record {
    pairs_are = items_same spell old new width pairs before left right after [] head extra ev ∙ stack.1.pairs_are;
    rises = even_rises spell old new width pairs before left right after [] head extra ev stack.1.rises;
  },
)
even_stack spell old new width pairs before left right after (l ∷ ls) head extra ev distinct stack =
    let off = even_off spell old new width pairs before left right after (l ∷ ls) head extra ev distinct in (
      even_row spell old new width pairs before left right after (l ∷ ls) head extra ev distinct stack.0,
      record {
        heads = even_heads spell old new width pairs before left right after (l ∷ ls) head extra ev stack.1.heads;
        names_are = items_same spell old new width pairs before left right after (l ∷ ls) head extra ev ∙ stack.1.names_are;
        full = stack.1.full;
      },
      stack_kept spell width old new (left.number ∷ right.number ∷ []) pairs l ls ev.keeps (each_right (λ n. IsIn (left.number ∷ right.number ∷ []) n → ⊥) (numbers after) (pages (l ∷ ls)) off.1) stack.2,
    )

-- ---- two neighbours by their names

pub record SplitsTwo (row : Row) (xs : List Entry) (a b : Entry) (ys : List Entry) : Type 0 where
  pub before : Row
  pub left : Part
  pub right : Part
  pub after : Row
  pub is : row ≡ before ++ left ∷ right ∷ after
  pub before_is : names before ≡ xs
  pub left_is : name left ≡ a
  pub right_is : name right ≡ b
  pub after_is : names after ≡ ys

pub split_two : (row : Row) (xs : List Entry) (a b : Entry) (ys : List Entry) → names row ≡ xs ++ a ∷ b ∷ ys → SplitsTwo row xs a b ys
split_two [] [] a b ys is = absurd (cc)
split_two [] (x ∷ xs) a b ys is = absurd (cc)
split_two (p ∷ []) [] a b ys is = absurd (cc)
split_two (p ∷ q ∷ row) [] a b ys is = record { before = []; left = p; right = q; after = row; is = refl; before_is = refl; left_is = cc; right_is = cc; after_is = cc }
split_two (p ∷ row) (x ∷ xs) a b ys is =
    let one : name p ≡ x = cc in
    let rest = split_two row xs a b ys (cc) in
    record { before = p ∷ rest.before; left = rest.left; right = rest.right; after = rest.after; is = λ i. p ∷ rest.is i; before_is = λ i. one i ∷ rest.before_is i; left_is = rest.left_is; right_is = rest.right_is; after_is = rest.after_is }

-- what holds of all but one of a row, which is one of two neighbours
pub record AllBut (P : Part → Type 0) (before : Row) (left right : Part) (after : Row) : Type 0 where
  pub all_before : Each P before
  pub all_after : Each P after
  pub one : P left ⊎ P right

pub all_but : (P : Part → Type 0) (us : Row) (h : Part) (vs before : Row) (left right : Part) (after : Row) → us ++ h ∷ vs ≡ before ++ left ∷ right ∷ after → (length us ≡ length before) ⊎ (length us ≡ suc (length before)) → Each P us → Each P vs → AllBut P before left right after
all_but P [] h vs [] left right after is place one two =
    let tail : vs ≡ right ∷ after = cc in
    let all : Each P (right ∷ after) = subst (Each P) tail two in
    record { all_before = tt; all_after = all.1; one = inr all.0 }
all_but P [] h vs (b ∷ before) left right after is place one two = absurd (⊎_elim (λ (same : 0 ≡ suc (length before)). omega (arith, same)) (λ (same : 0 ≡ suc (suc (length before))). omega (arith, same)) place)
all_but P (u ∷ []) h vs [] left right after is place one two =
    let first : u ≡ left = cc in
    let tail : vs ≡ after = cc in
    record { all_before = tt; all_after = subst (Each P) tail two; one = inl (subst P first one.0) }
all_but P (u ∷ w ∷ us) h vs [] left right after is place one two = absurd (⊎_elim (λ (same : suc (suc (length us)) ≡ 0). omega (arith, same)) (λ (same : suc (suc (length us)) ≡ 1). omega (arith, same)) place)
all_but P (u ∷ us) h vs (b ∷ before) left right after is place one two =
    let first : u ≡ b = cc in
    let rest = all_but P us h vs before left right after (cc) (⊎_elim (λ (same : suc (length us) ≡ suc (length before)). inl (omega (arith, same))) (λ (same : suc (length us) ≡ suc (suc (length before))). inr (omega (arith, same))) place) one.1 two in
    record { all_before = (subst P first one.0, rest.all_before); all_after = rest.all_after; one = rest.one }
