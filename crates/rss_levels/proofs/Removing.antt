-- A pair is taken from under a node, from what was done to the node below and to this one.
use Rattle.std.proofs.Common.{◌<◌, ◌≤◌, ◌≡◌, ◌≢◌, ◌⊎◌, inl, inr, ⊎_elim, ℕ, suc, zero, ◌+◌, true, false, List, [], ◌∷◌, ◌++◌, length, map, refl, sym, ◌∙◌, ap, subst, arith, append_assoc, length-append}
use Rattle.std.specs.FinMap.{slice_cmp-IsAntisymmetric, nat_cmp-IsAntisymmetric}
use Rattle.std.specs.List.{Contains}
use Rattle.std.specs.Prelude.{slice_index_or}
use Rattle.std.specs.Ordering.{nat_cmp, is_eq}
use Rattle.std.specs.declared.cmp.Ordering.{Ordering}
use Rattle.std.specs.declared.cmp.Ordering.TheVariants.{Less, Equal, Greater}
use Rattle.std.specs.Cmp.Lexicographic.{slice_cmp}
use Rattle.std.proofs.lemmas.Cmp.{nat_list_cmp_total, tied_itself}
use Rattle.std.proofs.lemmas.Grind.{flat_map-append}
use Rattle.std.proofs.lemmas.List.{map-append, length-map}
use Rattle.rss_base.specs.Entries.{Entry, IsLess, no_page}
use Rattle.rss_base.specs.Nodes.{node_least, node_most}
use Rattle.rss_levels.specs.Entries.{Each, Pairwise, IsIn}
use Rattle.rss_levels.specs.Rows.{Part, Row, Cells, Spell, HoldsAt, HoldsRow, IsStack, AreDistinct, HasHead, Begins, IsBefore, fence, item, marks, marks_of, name, names, items, numbers, pages, first, leaf_entry, stored}
use Rattle.rss_levels.specs.Spots.{Keeps, IsOwn, LosesNone, IsMade, AreMade, Spot, rows_at}
use Rattle.rss_levels.specs.Removes.{without_pair, Removes, Neighbours, Evens, Lowered, Filled}
use Rattle.rss_levels.proofs.Lists.{each_append, each_left, each_right, each_weaker, each_unmap, pairwise_left, pairwise_right, pairwise_cross}
use Rattle.rss_base.proofs.Entries.{less_never}
use Rattle.rss_levels.proofs.Order.{less_fence, less_item, before_trans, before_less}
use Rattle.rss_levels.proofs.Held.{held_replaced, held_kept, held_left, held_right}
use Rattle.rss_levels.proofs.Names.{child_split, items_around}
use Rattle.rss_levels.proofs.Made.{IsGood, made_parts, made_names, made_between, made_here}
use Rattle.rss_levels.proofs.Leaves.{rises_cut}
use Rattle.rss_levels.proofs.Pages.{IsHeld, in_left, in_right, not_in, each_in, apart_each, distinct_join, keeps_then, loses_both, loses_between, row_held, stack_kept}
use Rattle.rss_levels.proofs.Inserting.{numbers_around, others, row_loses, each_row, each_at, stack_is, below}
use Rattle.rss_levels.proofs.Evening.{SplitsTwo, split_two, AllBut, all_but, even_stack, even_own, even_distinct, was_numbers, numbers_at}
use Rattle.rss_levels.proofs.Spotted.{stack_row}

-- ---- the pairs of a leaf row

not_equal : (t p : List ℕ) → t ≢ p → is_eq (slice_cmp nat_cmp t p) ≡ false
not_equal t p other = cases (slice_cmp nat_cmp t p) refl
  where
    cases : (o : Ordering) → slice_cmp nat_cmp t p ≡ o → is_eq o ≡ false
    cases Less is = refl
    cases Equal is = absurd (other (slice_cmp-IsAntisymmetric nat_cmp-IsAntisymmetric t p is))
    cases Greater is = refl

cut_pairs : (t : List ℕ) (pairs : List (List ℕ)) (us : List Entry) (e : Entry) (vs : List Entry) → us ++ e ∷ vs ≡ map leaf_entry pairs → Each (λ d. t ≢ d.pair) us → e.pair ≡ t → us ++ vs ≡ map leaf_entry (without_pair t pairs)
cut_pairs t [] [] e vs is off same = absurd (cc)
cut_pairs t [] (u ∷ us) e vs is off same = absurd (cc)
cut_pairs t (p ∷ ps) [] e vs is off same =
    let one : e ≡ leaf_entry p = cc in
    let tail : vs ≡ map leaf_entry ps = cc in
    let there : p ≡ t = sym (ap (λ (d : Entry). d.pair) one) ∙ same in
    let test : is_eq (slice_cmp nat_cmp t p) ≡ true = ap (λ (q : List ℕ). is_eq (slice_cmp nat_cmp t q)) there ∙ ap is_eq (tied_itself nat_list_cmp_total t) in
    rw test tail
cut_pairs t (p ∷ ps) (u ∷ us) e vs is off same =
    let one : u ≡ leaf_entry p = cc in
    let tail : us ++ e ∷ vs ≡ map leaf_entry ps = cc in
    let test : is_eq (slice_cmp nat_cmp t p) ≡ false = not_equal t p (λ eq. off.0 (eq ∙ sym (ap (λ (d : Entry). d.pair) one))) in
    let rest = cut_pairs t ps us e vs tail off.1 same in
    rw test (λ i. one i ∷ rest i)

-- the entries left of a node are below its bound
lows_here : (before : Row) (here : Part) (after : Row) → Pairwise IsBefore (marks (before ++ here ∷ after)) → Each (λ d. IsLess d.pair here.low) (items before)
lows_here before here after rises =
    let cut : marks (before ++ here ∷ after) ≡ marks before ++ (fence here.low ∷ (map item here.items ++ marks after)) = flat_map-append marks_of before (here ∷ after) in
    let all : Each (λ m. IsBefore m (fence here.low)) (marks before) = each_weaker (λ m. Each (IsBefore m) (fence here.low ∷ (map item here.items ++ marks after))) (λ m. IsBefore m (fence here.low)) (marks before) (λ m is. is.0) (pairwise_cross IsBefore (marks before) (fence here.low ∷ (map item here.items ++ marks after)) (subst (Pairwise IsBefore) cut rises)) in
    of_row before all
  where
    of_items : (es : List Entry) → Each (λ m. IsBefore m (fence here.low)) (map item es) → Each (λ d. IsLess d.pair here.low) es
    of_items [] all = tt
    of_items (e ∷ es) all = (less_fence e here.low all.0, of_items es all.1)

    of_row : (row : Row) → Each (λ m. IsBefore m (fence here.low)) (marks row) → Each (λ d. IsLess d.pair here.low) (items row)
    of_row [] all = tt
    of_row (p ∷ row) all =
        each_append (λ d. IsLess d.pair here.low) p.items (items row)
        (of_items p.items (each_left (λ m. IsBefore m (fence here.low)) (map item p.items) (marks row) all.1))
        (of_row row (each_right (λ m. IsBefore m (fence here.low)) (map item p.items) (marks row) all.1))

-- the entries right of a node are above what is below their bounds
highs_after : (target : List ℕ) (row : Row) → Each (λ q. IsLess target q.low) row → Pairwise IsBefore (marks row) → Each (λ d. IsLess target d.pair) (items row)
highs_after target [] high rises = tt
highs_after target (q ∷ row) high rises =
    each_append (λ d. IsLess target d.pair) q.items (items row)
    (of_items q.items (each_left (IsBefore (fence q.low)) (map item q.items) (marks row) rises.0))
    (highs_after target row high.1 (pairwise_right IsBefore (map item q.items) (marks row) rises.1))
  where
    of_items : (es : List Entry) → Each (λ m. IsBefore (fence q.low) m) (map item es) → Each (λ d. IsLess target d.pair) es
    of_items [] all = tt
    of_items (e ∷ es) all = (less_item (leaf_entry target) e (before_trans (before_less high.0) all.0), of_items es all.1)

not_contained : (t : List ℕ) (pairs : List (List ℕ)) → Each (λ p. p ≢ t) pairs → Contains pairs t → ⊥
not_contained t pairs off has = at pairs has.0 off has.1 has.2
  where
    at : (ps : List (List ℕ)) (k : ℕ) → Each (λ p. p ≢ t) ps → k < length ps → slice_index_or ps k t ≡ t → ⊥
    at [] k off low is = omega arith
    at (p ∷ ps) zero off low is = off.0 is
    at (p ∷ ps) (suc k) off low is = at ps k off.1 (omega arith) is

-- ---- a leaf

same_numbers : (before : Row) (here head : Part) (after : Row) → head.number ≡ here.number → numbers (before ++ here ∷ after) ≡ numbers (before ++ head ∷ after)
same_numbers before here head after same = numbers_around before here after ∙ ap (λ (n : ℕ). numbers before ++ n ∷ numbers after) (sym same) ∙ sym (numbers_around before head after)

module _ (spell : Spell) (old : Cells) (width level number : ℕ) (target : List ℕ) (pairs : List (List ℕ)) (spot : Spot spell old width level number target pairs) where
  flat_stack : spot.lower ≡ [] → IsStack spell old width pairs ((spot.before ++ spot.here ∷ spot.after) ∷ [])
  flat_stack is = subst (λ (l : List Row). IsStack spell old width pairs ((spot.before ++ spot.here ∷ spot.after) ∷ l)) is spot.stack

  -- where no entry of the leaf has the pair, it isn't in the tree
  pub leaf_lacks : spot.lower ≡ [] → Each (λ d. d.pair ≢ target) spot.here.items → Contains pairs target → ⊥
  leaf_lacks is none has =
      let before : Row = spot.before in
      let here : Part = spot.here in
      let after : Row = spot.after in
      let leaves = (flat_stack is).1 in
      let behind : Pairwise IsBefore (marks after) = pairwise_right IsBefore (marks_of here) (marks after) (pairwise_right IsBefore (marks before) (marks_of here ++ marks after) (subst (Pairwise IsBefore) (flat_map-append marks_of before (here ∷ after)) leaves.rises)) in
      let left : Each (λ d. d.pair ≢ target) (items before) = each_weaker (λ d. IsLess d.pair here.low) (λ d. d.pair ≢ target) (items before) (λ d less same. spot.low (subst (λ (p : List ℕ). IsLess p here.low) same less)) (lows_here before here after leaves.rises) in
      let right : Each (λ d. d.pair ≢ target) (items after) = each_weaker (λ d. IsLess target d.pair) (λ d. d.pair ≢ target) (items after) (λ d less same. less_never (subst (IsLess target) same less)) (highs_after target after spot.high behind) in
      let all : Each (λ d. d.pair ≢ target) (items (before ++ here ∷ after)) = subst (Each (λ d. d.pair ≢ target)) (sym (flat_map-append (λ (p : Part). p.items) before (here ∷ after))) (each_append (λ d. d.pair ≢ target) (items before) (here.items ++ items after) left (each_append (λ d. d.pair ≢ target) here.items (items after) none right)) in
      not_contained target pairs (each_unmap (λ d. d.pair ≢ target) leaf_entry pairs (subst (Each (λ d. d.pair ≢ target)) leaves.pairs_are all)) has

  own_here : (head : Part) → head.number ≡ spot.here.number → Each (IsIn (pages (rows_at spot))) (numbers (spot.before ++ head ∷ spot.after))
  own_here head same =
      let row : Row = spot.before ++ spot.here ∷ spot.after in
      subst (Each (IsIn (pages (rows_at spot)))) (same_numbers spot.before spot.here head spot.after same) (each_weaker (IsIn (numbers row)) (IsIn (numbers row ++ pages spot.lower)) (numbers row) (λ n there. in_left (numbers row) (pages spot.lower) n there) (each_in (numbers row)))

  own_one : (n : ℕ) → IsIn (spot.here.number ∷ []) n → IsIn (pages (rows_at spot)) n
  own_one n there = in_left (numbers (spot.before ++ spot.here ∷ spot.after)) (pages spot.lower) n (subst (λ (l : List ℕ). IsIn l n) (sym (numbers_around spot.before spot.here spot.after)) (in_right (numbers spot.before) (spot.here.number ∷ numbers spot.after) n (⊎_elim (λ (same : spot.here.number ≡ n). inl same) (λ (none : ⊥). absurd none) there)))

  pub leaf_removes : (new : Cells) → spot.lower ≡ [] → (xs : List Entry) (e : Entry) (ys : List Entry) → spot.here.items ≡ xs ++ e ∷ ys → e.pair ≡ target → Each (λ d. IsLess d.pair target) xs
      → HoldsAt spell new 0 spot.here.number (first spot.after no_page) (xs ++ ys) → Keeps (spot.here.number ∷ []) old new → LosesNone (spot.here.number ∷ []) (spot.here.number ∷ []) old new → length (xs ++ ys) ≤ node_most width → Removes spot new (length (xs ++ ys))
  leaf_removes new is xs e ys has same below held keeps loses room =
      let before : Row = spot.before in
      let here : Part = spot.here in
      let after : Row = spot.after in
      let row : Row = before ++ here ∷ after in
      let head : Part = record { number = here.number; low = here.low; items = xs ++ ys } in
      let now : Row = before ++ head ∷ after in
      let stack = flat_stack is in
      let distinct : Pairwise (λ a b. a ≢ b) (numbers row ++ []) = subst (λ (l : List Row). AreDistinct (row ∷ l)) is spot.distinct in
      let off = others before here after (pairwise_left (λ a b. a ≢ b) (numbers row) [] distinct) in
      let rises = stack.1.rises in
      let left : Each (λ d. target ≢ d.pair) (items before) = each_weaker (λ d. IsLess d.pair here.low) (λ d. target ≢ d.pair) (items before) (λ d less eq. spot.low (subst (λ (p : List ℕ). IsLess p here.low) (sym eq) less)) (lows_here before here after rises) in
      let own : Each (λ d. target ≢ d.pair) xs = each_weaker (λ d. IsLess d.pair target) (λ d. target ≢ d.pair) xs (λ d less eq. less_never (subst (λ (p : List ℕ). IsLess p target) (sym eq) less)) below in
      let old_pairs : (items before ++ xs) ++ e ∷ (ys ++ items after) ≡ map leaf_entry pairs = sym (items_around before here after xs e ys has) ∙ stack.1.pairs_are in
      let new_pairs : items now ≡ map leaf_entry (without_pair target pairs) =
      flat_map-append (λ (p : Part). p.items) before (head ∷ after)
      ∙ ap (λ (l : List Entry). items before ++ l) (append_assoc xs ys (items after))
      ∙ sym (append_assoc (items before) xs (ys ++ items after))
      ∙ cut_pairs target pairs (items before ++ xs) e (ys ++ items after) old_pairs (each_append (λ d. target ≢ d.pair) (items before) xs left own) same in
      record {
        head = head;
        rest = [];
        head_number = refl;
        head_low = refl;
        count_is = refl;
        lacks_one = omega (arith, ap length has, length-append xs (e ∷ ys), length-append xs ys);
        same_height = sym (ap (λ (l : List Row). length l) is);
        stack_now = (
          record {
            held = held_replaced spell width 0 old new (here.number ∷ []) before (here ∷ []) (head ∷ []) after no_page keeps off.0 off.1 refl stack.0.held (held, tt);
            few = each_row (λ p. length p.items ≤ node_most width) before here head [] after stack.0.few (room, tt);
          },
          record { pairs_are = new_pairs; rises = rises_cut before here head after xs e ys has refl refl rises },
        );
        distinct_now = subst (λ (l : List ℕ). Pairwise (λ a b. a ≢ b) (l ++ [])) (same_numbers before here head after refl) distinct;
        own = each_append (IsIn (pages (rows_at spot))) (numbers now) [] (own_here head refl) tt;
        keeps = record { same = λ n bytes off was. keeps.same n bytes (λ there. off (own_one n there)) was };
        loses_none = subst (λ (l : List Row). LosesNone (numbers row ++ pages l) (numbers now ++ []) old new) (sym is) (loses_both [] [] (numbers row) (numbers now) old old new (λ n mine. mine) (row_loses old new before here head [] after loses));
        made = λ good all.
            let mine = made_here good before here after all.0 in
            let parts : Each (IsGood good) (xs ++ e ∷ ys) = subst (Each (IsGood good)) has mine.1 in
            let kept : Each (IsGood good) (xs ++ ys) = each_append (IsGood good) xs ys (each_left (IsGood good) xs (e ∷ ys) parts) (each_right (IsGood good) xs (e ∷ ys) parts).1 in
            (made_between good before here after (head ∷ []) all.0 ((mine.0, kept), tt), tt);
      }

-- ---- the rows below a node

module _ (spell : Spell) (old mid : Cells) (width : ℕ) (pairs : List (List ℕ)) (front back : List Entry) (lower : List Row) (entries : List Entry) (place : ℕ) (lw : Lowered spell old mid width pairs front back lower entries place) where
  abbrev row_of : Row
  row_of = lw.before ++ lw.here ∷ lw.after

  pub lowered_full : node_least width ≤ length lw.here.items → Filled spell old mid width pairs front back lower entries
  lowered_full long = record {
    row = row_of;
    rest = lw.rest;
    same_height = lw.same_height;
    stack = lw.stack;
    distinct = lw.distinct;
    names_are = lw.names_are;
    full = each_append (λ p. node_least width ≤ length p.items) lw.before (lw.here ∷ lw.after) lw.full_before (long, lw.full_after);
    own = lw.own;
    keeps = lw.keeps;
    loses_none = lw.loses_none;
    made = lw.made;
  }

  module _ (us : List Entry) (a b : Entry) (vs : List Entry) (are : entries ≡ us ++ a ∷ b ∷ vs) (near : (place ≡ length us) ⊎ (place ≡ suc (length us))) (many : 0 < node_least width) where
    names_two : names row_of ≡ (front ++ us) ++ a ∷ b ∷ (vs ++ back)
    names_two = lw.names_are ∙ ap (λ (l : List Entry). front ++ (l ++ back)) are ∙ ap (λ (l : List Entry). front ++ l) (append_assoc us (a ∷ b ∷ vs) back) ∙ sym (append_assoc front us (a ∷ b ∷ (vs ++ back)))

    pub two_of : SplitsTwo row_of (front ++ us) a b (vs ++ back)
    two_of = split_two row_of (front ++ us) a b (vs ++ back) names_two

    abbrev was_two : Row
    was_two = two_of.before ++ two_of.left ∷ two_of.right ∷ two_of.after

    long_two : length two_of.before ≡ length front + length us
    long_two = sym (length-map two_of.before name) ∙ ap (λ (l : List Entry). length l) two_of.before_is ∙ length-append front us

    near_two : (length lw.before ≡ length two_of.before) ⊎ (length lw.before ≡ suc (length two_of.before))
    near_two = ⊎_elim (λ (same : place ≡ length us). inl (omega (arith, same, long_two, lw.place_is))) (λ (same : place ≡ suc (length us)). inr (omega (arith, same, long_two, lw.place_is))) near

    but_full : AllBut (λ p. node_least width ≤ length p.items) two_of.before two_of.left two_of.right two_of.after
    but_full = all_but (λ p. node_least width ≤ length p.items) lw.before lw.here lw.after two_of.before two_of.left two_of.right two_of.after two_of.is near_two lw.full_before lw.full_after

    stack_two : IsStack spell mid width pairs (was_two ∷ lw.rest)
    stack_two = subst (λ (r : Row). IsStack spell mid width pairs (r ∷ lw.rest)) two_of.is lw.stack

    distinct_two : AreDistinct (was_two ∷ lw.rest)
    distinct_two = subst (λ (r : Row). AreDistinct (r ∷ lw.rest)) two_of.is lw.distinct

    own_two : Each (IsIn (pages lower)) (pages (was_two ∷ lw.rest))
    own_two = subst (λ (r : Row). Each (IsIn (pages lower)) (pages (r ∷ lw.rest))) two_of.is lw.own

    abbrev numbers_two : List ℕ
    numbers_two = numbers two_of.before ++ two_of.left.number ∷ two_of.right.number ∷ (numbers two_of.after ++ pages lw.rest)

    pub list_two : pages (was_two ∷ lw.rest) ≡ numbers_two
    list_two = was_numbers spell mid mid width pairs two_of.before two_of.left two_of.right two_of.after lw.rest two_of.left [] (pages lw.rest)

    some_two : Each (λ p. 0 < length p.items) was_two
    some_two = subst (Each (λ p. 0 < length p.items)) two_of.is (each_append (λ p. 0 < length p.items) lw.before (lw.here ∷ lw.after)
        (each_weaker (λ p. node_least width ≤ length p.items) (λ p. 0 < length p.items) lw.before (λ p long. omega (arith, long, many)) lw.full_before)
        (lw.some, each_weaker (λ p. node_least width ≤ length p.items) (λ p. 0 < length p.items) lw.after (λ p long. omega (arith, long, many)) lw.full_after))

    pub neighbours_of : Neighbours spell mid width (length lw.rest) two_of.left two_of.right (first two_of.after no_page)
    neighbours_of =
        let some = each_right (λ p. 0 < length p.items) two_of.before (two_of.left ∷ two_of.right ∷ two_of.after) some_two in
        let far = pairwise_right (λ a b. a ≢ b) (numbers two_of.before) (two_of.left.number ∷ two_of.right.number ∷ (numbers two_of.after ++ pages lw.rest)) (subst (Pairwise (λ a b. a ≢ b)) list_two distinct_two) in
        let row = stack_row spell mid width pairs was_two lw.rest stack_two in
        record {
          held = held_left spell width (length lw.rest) mid (two_of.left ∷ two_of.right ∷ []) two_of.after no_page (held_right spell width (length lw.rest) mid two_of.before (two_of.left ∷ two_of.right ∷ two_of.after) no_page row.held);
          left_some = some.0;
          right_some = some.1.0;
          head = λ inner. heads lw.rest stack_two inner;
          apart = far.0.0;
        }
      where
        heads : (rest : List Row) → IsStack spell mid width pairs (was_two ∷ rest) → 0 < length rest → HasHead two_of.right
        heads [] stack inner = absurd (omega arith)
        heads (l ∷ ls) stack inner = (each_right HasHead two_of.before (two_of.left ∷ two_of.right ∷ two_of.after) stack.1.heads).1.0

    pub lowered_even : (new : Cells) (head : Part) (extra : Row) → Evens spell mid new width (length lw.rest) two_of.left two_of.right (first two_of.after no_page) head extra → Filled spell old new width pairs front back lower (us ++ a ∷ (names extra ++ vs))
    lowered_even new head extra ev =
        let now : Row = two_of.before ++ head ∷ (extra ++ two_of.after) in
        let name_head : name head ≡ a = (λ i. record { pair = ev.low_is i; child = ev.number_is i }) ∙ two_of.left_is in
        let mid_full = ev.full but_full.one in
        let mine = each_right (IsIn (pages lower)) (numbers two_of.before) (two_of.left.number ∷ two_of.right.number ∷ (numbers two_of.after ++ pages lw.rest)) (subst (Each (IsIn (pages lower))) list_two own_two) in
        record {
          row = now;
          rest = lw.rest;
          same_height = lw.same_height;
          stack = even_stack spell mid new width pairs two_of.before two_of.left two_of.right two_of.after lw.rest head extra ev distinct_two stack_two;
          distinct = even_distinct spell mid new width pairs two_of.before two_of.left two_of.right two_of.after lw.rest head extra ev distinct_two;
          names_are =
              map-append name two_of.before (head ∷ (extra ++ two_of.after))
              ∙ ap (λ (l : List Entry). names two_of.before ++ (name head ∷ l)) (map-append name extra two_of.after)
              ∙ (λ i. two_of.before_is i ++ (name_head i ∷ (names extra ++ two_of.after_is i)))
              ∙ ap (λ (l : List Entry). (front ++ us) ++ (a ∷ l)) (sym (append_assoc (names extra) vs back))
              ∙ append_assoc front us (a ∷ ((names extra ++ vs) ++ back))
              ∙ ap (λ (l : List Entry). front ++ l) (sym (append_assoc us (a ∷ (names extra ++ vs)) back));
          full = each_append (λ p. node_least width ≤ length p.items) two_of.before (head ∷ (extra ++ two_of.after)) but_full.all_before (mid_full.0, each_append (λ p. node_least width ≤ length p.items) extra two_of.after mid_full.1 but_full.all_after);
          own = even_own spell mid new width pairs two_of.before two_of.left two_of.right two_of.after lw.rest head extra ev (IsIn (pages lower)) own_two;
          keeps = keeps_then (pages lower) (two_of.left.number ∷ two_of.right.number ∷ []) (pages lower) old mid new (λ n is. is) (λ n is. ⊎_elim (λ (same : two_of.left.number ≡ n). subst (IsIn (pages lower)) same mine.0) (λ (more : IsIn (two_of.right.number ∷ []) n). ⊎_elim (λ (same : two_of.right.number ≡ n). subst (IsIn (pages lower)) same mine.1.0) (λ (none : ⊥). absurd none) more) is) lw.keeps ev.keeps;
          loses_none = λ n is. step_two n (lost_two n is);
          made = λ good all.
              let rows = lw.made good all in
              let row : Each (IsMade good) was_two = subst (Each (IsMade good)) two_of.is rows.0 in
              let right = each_right (IsMade good) two_of.before (two_of.left ∷ two_of.right ∷ two_of.after) row in
              let entries_made : Each (IsGood good) (two_of.left.items ++ two_of.right.items) = each_append (IsGood good) two_of.left.items two_of.right.items right.0.1 right.1.0.1 in
              let parts = made_parts good head extra (two_of.left.items ++ two_of.right.items) (ap good ev.low_is ∙ right.0.0) ev.heads ev.entries_are entries_made in
              (each_append (IsMade good) two_of.before (head ∷ (extra ++ two_of.after)) (each_left (IsMade good) two_of.before (two_of.left ∷ two_of.right ∷ two_of.after) row) (parts.0, each_append (IsMade good) extra two_of.after parts.1 right.1.1), rows.1);
        }
      where
        lost_two : LosesNone (pages lower) numbers_two old mid
        lost_two = subst (λ (l : List ℕ). LosesNone (pages lower) l old mid) (ap (λ (r : Row). pages (r ∷ lw.rest)) two_of.is ∙ list_two) lw.loses_none

        numbers_now : numbers two_of.before ++ (numbers (head ∷ extra) ++ (numbers two_of.after ++ pages lw.rest)) ≡ pages ((two_of.before ++ head ∷ (extra ++ two_of.after)) ∷ lw.rest)
        numbers_now = sym (numbers_at two_of.before (head ∷ (extra ++ two_of.after)) (pages lw.rest) ∙ ap (λ (l : List ℕ). numbers two_of.before ++ head.number ∷ l) (numbers_at extra two_of.after (pages lw.rest)))

        step_two : LosesNone numbers_two (pages ((two_of.before ++ head ∷ (extra ++ two_of.after)) ∷ lw.rest)) mid new
        step_two = subst (λ (l : List ℕ). LosesNone numbers_two l mid new) numbers_now (loses_between (numbers two_of.before) (two_of.left.number ∷ two_of.right.number ∷ []) (numbers (head ∷ extra)) (numbers two_of.after ++ pages lw.rest) mid new ev.loses_none)

-- ---- an inner node

module _ (spell : Spell) (old : Cells) (width level number : ℕ) (target : List ℕ) (pairs : List (List ℕ)) (spot : Spot spell old width level number target pairs) (lrow : Row) (lrows : List Row) (is : spot.lower ≡ lrow ∷ lrows) where
  -- what a removal below the child of an entry makes of the rows below
  pub lowered : (xs : List Entry) (e : Entry) (ys : List Entry) (has : spot.here.items ≡ xs ++ e ∷ ys) (mid : Cells) (child : ℕ) (height : length lrows ≡ child) (from : IsLess target e.pair → ⊥) (next : (d : Entry) (ds : List Entry) → ys ≡ d ∷ ds → IsLess target d.pair) (count : ℕ)
      → Removes (below spell old width level number target pairs spot lrow lrows is xs e ys has child height from next) mid count → 2 ≤ node_least width
      → Lowered spell old mid width (without_pair target pairs) (items spot.before) (items spot.after) (lrow ∷ lrows) spot.here.items (length xs)
  lowered xs e ys has mid child height from next count rem many =
      let stack = stack_is spell old width level number target pairs spot lrow lrows is xs e ys has in
      let cut = child_split spell old width target pairs spot.before spot.here spot.after lrow lrows stack xs e ys has in
      let name_head : name rem.head ≡ e = (λ i. record { pair = rem.head_low i; child = rem.head_number i }) ∙ cut.here_is in
      let full_old : Each (λ p. node_least width ≤ length p.items) (cut.before ++ cut.here ∷ cut.after) = subst (Each (λ p. node_least width ≤ length p.items)) cut.is stack.1.full in
      let full_right = each_right (λ p. node_least width ≤ length p.items) cut.before (cut.here ∷ cut.after) full_old in
      let touched_is : pages ((cut.before ++ cut.here ∷ cut.after) ∷ lrows) ≡ pages (lrow ∷ lrows) = ap (λ (r : Row). pages (r ∷ lrows)) (sym cut.is) in
      record {
        before = cut.before;
        here = rem.head;
        after = cut.after;
        rest = rem.rest;
        same_height = ap (λ (n : ℕ). suc n) rem.same_height;
        stack = rem.stack_now;
        distinct = rem.distinct_now;
        names_are =
            map-append name cut.before (rem.head ∷ cut.after)
            ∙ (λ i. cut.before_is i ++ (name_head i ∷ cut.after_is i))
            ∙ append_assoc (items spot.before) xs (e ∷ (ys ++ items spot.after))
            ∙ ap (λ (l : List Entry). items spot.before ++ l) (sym (append_assoc xs (e ∷ ys) (items spot.after)))
            ∙ ap (λ (l : List Entry). items spot.before ++ (l ++ items spot.after)) (sym has);
        place_is = sym (length-map cut.before name) ∙ ap (λ (l : List Entry). length l) cut.before_is ∙ length-append (items spot.before) xs;
        some = omega (arith, rem.lacks_one, full_right.0, many);
        full_before = each_left (λ p. node_least width ≤ length p.items) cut.before (cut.here ∷ cut.after) full_old;
        full_after = full_right.1;
        own = subst (λ (l : List ℕ). Each (IsIn l) (pages ((cut.before ++ rem.head ∷ cut.after) ∷ rem.rest))) touched_is rem.own;
        keeps = subst (λ (l : List ℕ). Keeps l old mid) touched_is rem.keeps;
        loses_none = subst (λ (l : List ℕ). LosesNone l (pages ((cut.before ++ rem.head ∷ cut.after) ∷ rem.rest)) old mid) touched_is rem.loses_none;
        made = λ good all. rem.made good (subst (λ (r : Row). AreMade good (r ∷ lrows)) cut.is all);
      }

  pub filled_lowered : (xs : List Entry) (e : Entry) (ys : List Entry) (has : spot.here.items ≡ xs ++ e ∷ ys) (mid : Cells) (child : ℕ) (height : length lrows ≡ child) (from : IsLess target e.pair → ⊥) (next : (d : Entry) (ds : List Entry) → ys ≡ d ∷ ds → IsLess target d.pair) (count : ℕ)
      → Removes (below spell old width level number target pairs spot lrow lrows is xs e ys has child height from next) mid count → 2 ≤ node_least width → node_least width ≤ count
      → Filled spell old mid width (without_pair target pairs) (items spot.before) (items spot.after) (lrow ∷ lrows) spot.here.items
  unfolding lowered
  filled_lowered xs e ys has mid child height from next count rem many long =
      lowered_full spell old mid width (without_pair target pairs) (items spot.before) (items spot.after) (lrow ∷ lrows) spot.here.items (length xs) (lowered xs e ys has mid child height from next count rem many) (omega (arith, rem.count_is, long))

  wider : (n : ℕ) → IsIn (pages (lrow ∷ lrows)) n → IsIn (pages (rows_at spot)) n
  wider n there = in_right (numbers (spot.before ++ spot.here ∷ spot.after)) (pages spot.lower) n (subst (λ (l : List Row). IsIn (pages l) n) (sym is) there)

  pub inner_removes : (mid new : Cells) (entries : List Entry) → Filled spell old mid width (without_pair target pairs) (items spot.before) (items spot.after) (lrow ∷ lrows) entries → Begins spot.here.low entries → length spot.here.items ≤ length entries + 1 → length entries ≤ node_most width
      → HoldsAt spell new (suc (length lrows)) spot.here.number no_page (stored width (suc (length lrows)) entries) → Keeps (spot.here.number ∷ []) mid new → LosesNone (spot.here.number ∷ []) (spot.here.number ∷ []) mid new → Removes spot new (length entries)
  inner_removes mid new entries fl begins lacks room written keeps loses =
      let before : Row = spot.before in
      let here : Part = spot.here in
      let after : Row = spot.after in
      let row : Row = before ++ here ∷ after in
      let stack : IsStack spell old width pairs (row ∷ lrow ∷ lrows) = subst (λ (l : List Row). IsStack spell old width pairs (row ∷ l)) is spot.stack in
      let distinct : AreDistinct (row ∷ lrow ∷ lrows) = subst (λ (l : List Row). AreDistinct (row ∷ l)) is spot.distinct in
      let head : Part = record { number = here.number; low = here.low; items = entries } in
      let now : Row = before ++ head ∷ after in
      let nrow : List ℕ = numbers row in
      let lower : List ℕ = pages (lrow ∷ lrows) in
      let lower_now : List ℕ = pages (fl.row ∷ fl.rest) in
      let own_l : Each (IsOwn lower old) lower_now = each_weaker (IsIn lower) (IsOwn lower old) lower_now (λ n there. inl there) fl.own in
      let held_row : Each (IsHeld old) nrow = row_held spell width old (suc (length lrows)) row no_page stack.0.held in
      let row_distinct : Pairwise (λ a b. a ≢ b) nrow = pairwise_left (λ a b. a ≢ b) nrow lower distinct in
      let row_off : Each (λ n. IsIn lower n → ⊥) nrow = each_weaker (λ n. Each (λ m. n ≢ m) lower) (λ n. IsIn lower n → ⊥) nrow (λ n off. not_in lower n off) (pairwise_cross (λ a b. a ≢ b) nrow lower distinct) in
      let both : Pairwise (λ a b. a ≢ b) (nrow ++ lower_now) = distinct_join lower old nrow lower_now row_distinct fl.distinct held_row row_off own_l in
      let off = others before here after row_distinct in
      let row_mid : HoldsRow spell mid width (suc (length lrows)) row no_page = held_kept spell width (suc (length lrows)) old mid lower row no_page fl.keeps (each_unmap (λ n. IsIn lower n → ⊥) (λ (p : Part). p.number) row row_off) stack.0.held in
      let row_now : HoldsRow spell new width (suc (length lrows)) now no_page = held_replaced spell width (suc (length lrows)) mid new (here.number ∷ []) before (here ∷ []) (head ∷ []) after no_page keeps off.0 off.1 refl row_mid (written, tt) in
      let height_now : length lrows ≡ length fl.rest = omega (arith, fl.same_height) in
      let here_off : Each (λ n. IsIn (here.number ∷ []) n → ⊥) lower_now = each_weaker (λ n. here.number ≢ n) (λ n. IsIn (here.number ∷ []) n → ⊥) lower_now (λ n far there. ⊎_elim (λ (same : here.number ≡ n). far same) (λ (none : ⊥). none) there)
      (apart_each lower old here.number lower_now (each_at (λ (p : Part). IsHeld old p.number) before here after (each_unmap (IsHeld old) (λ (p : Part). p.number) row held_row)) (each_at (λ (p : Part). IsIn lower p.number → ⊥) before here after (each_unmap (λ n. IsIn lower n → ⊥) (λ (p : Part). p.number) row row_off)) own_l) in
      record {
        head = head;
        rest = fl.row ∷ fl.rest;
        head_number = refl;
        head_low = refl;
        count_is = refl;
        lacks_one = lacks;
        same_height = fl.same_height ∙ sym (ap (λ (l : List Row). length l) is);
        stack_now = (
          record {
            held = subst (λ (n : ℕ). HoldsRow spell new width (suc n) now no_page) height_now row_now;
            few = each_row (λ p. length p.items ≤ node_most width) before here head [] after stack.0.few (room, tt);
          },
          record {
            heads = each_row HasHead before here head [] after stack.1.heads (begins, tt);
            names_are = flat_map-append (λ (p : Part). p.items) before (head ∷ after) ∙ sym fl.names_are;
            full = fl.full;
          },
          stack_kept spell width mid new (here.number ∷ []) (without_pair target pairs) fl.row fl.rest keeps here_off fl.stack,
        );
        distinct_now = subst (λ (l : List ℕ). Pairwise (λ a b. a ≢ b) (l ++ lower_now)) (same_numbers before here head after refl) both;
        own = each_append (IsIn (pages (rows_at spot))) (numbers now) lower_now (own_here spell old width level number target pairs spot head refl) (each_weaker (IsIn lower) (IsIn (pages (rows_at spot))) lower_now (λ n there. wider n there) fl.own);
        keeps = keeps_then lower (here.number ∷ []) (pages (rows_at spot)) old mid new wider (own_one spell old width level number target pairs spot) fl.keeps keeps;
        loses_none = subst (λ (l : List Row). LosesNone (nrow ++ pages l) (numbers now ++ lower_now) old new) (sym is) (loses_both lower lower_now nrow (numbers now) old mid new fl.loses_none (row_loses mid new before here head [] after loses));
        made = λ good all.
            let mine = made_here good before here after all.0 in
            let lower_made : AreMade good (fl.row ∷ fl.rest) = fl.made good (subst (AreMade good) is all.1) in
            let named : Each (IsGood good) (items before ++ (entries ++ items after)) = subst (Each (IsGood good)) fl.names_are (made_names good fl.row lower_made.0) in
            let own_made : Each (IsGood good) entries = each_left (IsGood good) entries (items after) (each_right (IsGood good) (items before) (entries ++ items after) named) in
            (made_between good before here after (head ∷ []) all.0 ((mine.0, own_made), tt), lower_made);
      }
