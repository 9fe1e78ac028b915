-- A pair is put under a node, from what was put into the node below and into this one.
use Rattle.std.proofs.Common.{◌<◌, ◌≤◌, ◌≡◌, ◌≢◌, inl, inr, ⊎_elim, ℕ, suc, true, false, List, [], ◌∷◌, ◌++◌, length, map, refl, sym, ◌∙◌, ap, subst, arith, None, append_assoc, length-append, ◌+◌}
use Rattle.std.specs.Ordering.{nat_cmp, is_lt}
use Rattle.std.specs.declared.cmp.Ordering.{Ordering}
use Rattle.std.specs.declared.cmp.Ordering.TheVariants.{Less, Equal, Greater}
use Rattle.std.specs.Cmp.Lexicographic.{slice_cmp}
use Rattle.std.proofs.lemmas.Grind.{flat_map-append}
use Rattle.std.proofs.lemmas.List.{map-append, append-nil, length-map}
use Rattle.rss_base.specs.Entries.{Entry, IsLess, no_page}
use Rattle.rss_base.specs.Nodes.{node_least, node_most}
use Rattle.rss_levels.specs.Entries.{Each, Pairwise, IsIn}
use Rattle.rss_levels.specs.Rows.{Part, Row, Cells, Spell, HoldsRow, IsStack, AreDistinct, HasHead, Begins, IsBefore, fence, item, marks, marks_of, name, names, items, numbers, pages, first, leaf_entry}
use Rattle.rss_levels.proofs.Replacing.{Replaces}
use Rattle.rss_levels.specs.Spots.{Keeps, IsOwn, LosesNone, HasFull, IsMade, AreMade, Spot, rows_at, Inserts, with_pair}
use Rattle.rss_levels.proofs.Lists.{each_append, each_left, each_right, each_weaker, each_map, each_unmap, pairwise_left, pairwise_right, pairwise_cross, pairwise_put}
use Rattle.rss_base.proofs.Entries.{less_asym, less_trans}
use Rattle.rss_levels.proofs.Order.{less_fence, less_item, before_trans, before_less}
use Rattle.rss_levels.proofs.Held.{held_replaced, held_kept}
use Rattle.rss_levels.proofs.Made.{IsGood, made_parts, made_names, made_between, made_here}
use Rattle.rss_levels.proofs.Names.{child_split, child_spot}
use Rattle.rss_levels.proofs.Leaves.{rises_put, rises_split}
use Rattle.rss_levels.proofs.Pages.{IsHeld, in_left, in_right, not_in, each_in, apart_each, distinct_join, fresh_before, fresh_behind, own_back, own_wider, keeps_then, loses_both, loses_between, held_still, row_held, stack_held, stack_kept}

-- ---- the numbers of a row

pub numbers_around : (before : Row) (here : Part) (after : Row) → numbers (before ++ here ∷ after) ≡ numbers before ++ here.number ∷ numbers after
numbers_around before here after = map-append (λ (p : Part). p.number) before (here ∷ after)

-- a row in which a node keeps its page and has perhaps another one behind it: the numbers, as one list with that of the other one put in
pub record IsWithNumber (old now : List ℕ) (extra : Row) : Type 0 where
  pub front : List ℕ
  pub back : List ℕ
  pub old_is : old ≡ front ++ back
  pub now_is : now ≡ front ++ (numbers extra ++ back)

with_number : (before : Row) (here head : Part) (extra after : Row) (more : List ℕ) → head.number ≡ here.number → IsWithNumber (numbers (before ++ here ∷ after) ++ more) (numbers (before ++ head ∷ (extra ++ after)) ++ more) extra
with_number before here head extra after more same = record {
  front = numbers before ++ here.number ∷ [];
  back = numbers after ++ more;
  old_is =
      ap (λ (l : List ℕ). l ++ more) (numbers_around before here after)
      ∙ append_assoc (numbers before) (here.number ∷ numbers after) more
      ∙ sym (append_assoc (numbers before) (here.number ∷ []) (numbers after ++ more));
  now_is =
      ap (λ (l : List ℕ). l ++ more) (numbers_around before head (extra ++ after))
      ∙ append_assoc (numbers before) (head.number ∷ numbers (extra ++ after)) more
      ∙ ap (λ (n : ℕ). numbers before ++ (n ∷ (numbers (extra ++ after) ++ more))) same
      ∙ ap (λ (l : List ℕ). numbers before ++ (here.number ∷ (l ++ more))) (map-append (λ (p : Part). p.number) extra after)
      ∙ ap (λ (l : List ℕ). numbers before ++ (here.number ∷ l)) (append_assoc (numbers extra) (numbers after) more)
      ∙ sym (append_assoc (numbers before) (here.number ∷ []) (numbers extra ++ (numbers after ++ more)));
}

-- one more page that wasn't held, among those that are
put_number : (cells : Cells) (old now : List ℕ) (extra : Row) → IsWithNumber old now extra → length extra ≤ 1 → Each (λ p. cells p.number ≡ None) extra → Each (IsHeld cells) old → Pairwise (λ a b. a ≢ b) old → Pairwise (λ a b. a ≢ b) now
put_number cells old now [] with few fresh held distinct = subst (Pairwise (λ a b. a ≢ b)) (with.old_is ∙ sym with.now_is) distinct
put_number cells old now (q ∷ []) with few fresh held distinct =
    let each : Each (IsHeld cells) (with.front ++ with.back) = subst (Each (IsHeld cells)) with.old_is held in
    subst (Pairwise (λ a b. a ≢ b)) (sym with.now_is)
    (pairwise_put (λ a b. a ≢ b) with.front q.number with.back (subst (Pairwise (λ a b. a ≢ b)) with.old_is distinct)
    (fresh_before cells q.number with.front fresh.0 (each_left (IsHeld cells) with.front with.back each))
    (fresh_behind cells q.number with.back fresh.0 (each_right (IsHeld cells) with.front with.back each)))
put_number cells old now (q ∷ r ∷ extra) with few fresh held distinct = absurd (omega arith)

own_number : (P : ℕ → Type 0) (old now : List ℕ) (extra : Row) → IsWithNumber old now extra → Each P old → Each (λ p. P p.number) extra → Each P now
own_number P old now extra with all more =
    let each : Each P (with.front ++ with.back) = subst (Each P) with.old_is all in
    subst (Each P) (sym with.now_is) (each_append P with.front (numbers extra ++ with.back) (each_left P with.front with.back each) (each_append P (numbers extra) with.back (each_map P (λ (p : Part). p.number) extra more) (each_right P with.front with.back each)))

-- a row in which some nodes stand in place of one
pub row_loses : (old new : Cells) (before : Row) (here head : Part) (extra after : Row) → LosesNone (here.number ∷ []) (numbers (head ∷ extra)) old new → LosesNone (numbers (before ++ here ∷ after)) (numbers (before ++ head ∷ (extra ++ after))) old new
row_loses old new before here head extra after step =
    let was : numbers before ++ ((here.number ∷ []) ++ numbers after) ≡ numbers (before ++ here ∷ after) = sym (numbers_around before here after) in
    let now : numbers before ++ (numbers (head ∷ extra) ++ numbers after) ≡ numbers (before ++ head ∷ (extra ++ after)) = sym (numbers_around before head (extra ++ after) ∙ ap (λ (l : List ℕ). numbers before ++ head.number ∷ l) (map-append (λ (p : Part). p.number) extra after)) in
    subst (λ (l : List ℕ). LosesNone l (numbers (before ++ head ∷ (extra ++ after))) old new) was
    (subst (λ (l : List ℕ). LosesNone (numbers before ++ ((here.number ∷ []) ++ numbers after)) l old new) now
    (loses_between (numbers before) (here.number ∷ []) (numbers (head ∷ extra)) (numbers after) old new step))

-- a node without room that became two
pub has_full : (width : ℕ) (before : Row) (here : Part) (after : Row) → node_most width ≤ length here.items → HasFull width (before ++ here ∷ after)
has_full width before here after full = record { before = before; here = here; after = after; is = refl; full = full }

-- the parts of a row at which something holds
pub each_row : (P : Part → Type 0) (before : Row) (here head : Part) (extra after : Row) → Each P (before ++ here ∷ after) → Each P (head ∷ extra) → Each P (before ++ head ∷ (extra ++ after))
each_row P before here head extra after all mid =
    each_append P before (head ∷ (extra ++ after)) (each_left P before (here ∷ after) all)
    (mid.0, each_append P extra after mid.1 (each_right P before (here ∷ after) all).1)

-- the other nodes of a row have other pages
pub others : (before : Row) (here : Part) (after : Row) → Pairwise (λ a b. a ≢ b) (numbers (before ++ here ∷ after)) → Each (λ p. IsIn (here.number ∷ []) p.number → ⊥) before × Each (λ p. IsIn (here.number ∷ []) p.number → ⊥) after
others before here after distinct =
    let all : Pairwise (λ a b. a ≢ b) (numbers before ++ here.number ∷ numbers after) = subst (Pairwise (λ a b. a ≢ b)) (numbers_around before here after) distinct in
    let left : Each (λ n. n ≢ here.number) (numbers before) = each_weaker (λ n. Each (λ m. n ≢ m) (here.number ∷ numbers after)) (λ n. n ≢ here.number) (numbers before) (λ n is. is.0) (pairwise_cross (λ a b. a ≢ b) (numbers before) (here.number ∷ numbers after) all) in
    let right : Each (λ n. here.number ≢ n) (numbers after) = (pairwise_right (λ a b. a ≢ b) (numbers before) (here.number ∷ numbers after) all).0 in (
      each_unmap (λ n. IsIn (here.number ∷ []) n → ⊥) (λ (p : Part). p.number) before (each_weaker (λ n. n ≢ here.number) (λ n. IsIn (here.number ∷ []) n → ⊥) (numbers before) (λ n off is. ⊎_elim (λ (same : here.number ≡ n). off (sym same)) (λ (none : ⊥). none) is) left),
      each_unmap (λ n. IsIn (here.number ∷ []) n → ⊥) (λ (p : Part). p.number) after (each_weaker (λ n. here.number ≢ n) (λ n. IsIn (here.number ∷ []) n → ⊥) (numbers after) (λ n off is. ⊎_elim (λ (same : here.number ≡ n). off same) (λ (none : ⊥). none) is) right),
    )

-- ---- the pairs of a leaf row

not_less : (o : Ordering) → (o ≡ Less → ⊥) → is_lt o ≡ false
not_less Less never = absurd (never refl)
not_less Equal never = refl
not_less Greater never = refl

pub put_pairs : (t : List ℕ) (pairs : List (List ℕ)) (us vs : List Entry) → us ++ vs ≡ map leaf_entry pairs → Each (λ d. IsLess t d.pair → ⊥) us → ((d : Entry) (ds : List Entry) → vs ≡ d ∷ ds → IsLess t d.pair) → us ++ leaf_entry t ∷ vs ≡ map leaf_entry (with_pair t pairs)
put_pairs t [] [] vs is below above = λ i. leaf_entry t ∷ is i
put_pairs t (p ∷ ps) [] [] is below above = absurd (cc)
put_pairs t (p ∷ ps) [] (v ∷ vs) is below above =
    let same : v ≡ leaf_entry p = cc in
    let less : IsLess t p = subst (λ (d : Entry). IsLess t d.pair) same (above v vs refl) in
    let test : is_lt (slice_cmp nat_cmp t p) ≡ true = ap is_lt less.is in
    rw test (λ i. leaf_entry t ∷ is i)
put_pairs t [] (u ∷ us) vs is below above = absurd (cc)
put_pairs t (p ∷ ps) (u ∷ us) vs is below above =
    let same : u ≡ leaf_entry p = cc in
    let tail : us ++ vs ≡ map leaf_entry ps = cc in
    let test : is_lt (slice_cmp nat_cmp t p) ≡ false = not_less (slice_cmp nat_cmp t p) (λ is. below.0 (subst (λ (d : Entry). IsLess t d.pair) (sym same) (record { is = is }))) in
    let rest = put_pairs t ps us vs tail below.1 above in
    rw test (λ i. same i ∷ rest i)

-- ---- a leaf

split_cases : (before : Row) (here left right : Part) (after : Row) (ls rs : List Entry) → here.items ≡ ls ++ rs → left.items ≡ ls → right.items ≡ rs → left.low ≡ here.low → 0 < length ls → Begins right.low rs → Pairwise IsBefore (marks (before ++ here ∷ after)) → Pairwise IsBefore (marks (before ++ left ∷ right ∷ after))
split_cases before here left right after [] rs all l r low some begins rises = absurd (omega arith)
split_cases before here left right after (x ∷ xs) [] all l r low some begins rises = absurd begins
split_cases before here left right after (x ∷ xs) (y ∷ ys) all l r low some begins rises = rises_split before here left right after x xs y ys all l r low (sym begins) rises

pub rises_mid : (before : Row) (here head : Part) (extra after : Row) (entries : List Entry) → items (head ∷ extra) ≡ entries → head.low ≡ here.low → 0 < length head.items → Each HasHead extra → length extra ≤ 1
    → ((now : Part) → now.low ≡ here.low → now.items ≡ entries → Pairwise IsBefore (marks (before ++ now ∷ after))) → Pairwise IsBefore (marks (before ++ head ∷ (extra ++ after)))
rises_mid before here head [] after entries are low some heads few whole = whole head low (sym (append-nil head.items) ∙ are)
rises_mid before here head (q ∷ []) after entries are low some heads few whole =
    let now : Part = record { number = here.number; low = here.low; items = entries } in
    split_cases before now head q after head.items q.items (sym are ∙ ap (λ (l : List Entry). head.items ++ l) (append-nil q.items)) refl refl low some heads.0 (whole now refl refl)
rises_mid before here head (q ∷ r ∷ extra) after entries are low some heads few whole = absurd (omega arith)

-- the entries left of a place, by the bound of the node
below_here : (before : Row) (here : Part) (after : Row) (target : List ℕ) → Pairwise IsBefore (marks (before ++ here ∷ after)) → (IsLess target here.low → ⊥) → Each (λ d. IsLess target d.pair → ⊥) (items before)
below_here before here after target rises low =
    let cut : marks (before ++ here ∷ after) ≡ marks before ++ (fence here.low ∷ (map item here.items ++ marks after)) = flat_map-append marks_of before (here ∷ after) in
    let all : Each (λ m. IsBefore m (fence here.low)) (marks before) = each_weaker (λ m. Each (IsBefore m) (fence here.low ∷ (map item here.items ++ marks after))) (λ m. IsBefore m (fence here.low)) (marks before) (λ m is. is.0) (pairwise_cross IsBefore (marks before) (fence here.low ∷ (map item here.items ++ marks after)) (subst (Pairwise IsBefore) cut rises)) in
    of_row before all
  where
    of_items : (es : List Entry) → Each (λ m. IsBefore m (fence here.low)) (map item es) → Each (λ d. IsLess target d.pair → ⊥) es
    of_items [] all = tt
    of_items (e ∷ es) all = ((λ less. low (less_trans less (less_fence e here.low all.0))), of_items es all.1)

    of_row : (row : Row) → Each (λ m. IsBefore m (fence here.low)) (marks row) → Each (λ d. IsLess target d.pair → ⊥) (items row)
    of_row [] all = tt
    of_row (p ∷ row) all =
        each_append (λ d. IsLess target d.pair → ⊥) p.items (items row)
        (of_items p.items (each_left (λ m. IsBefore m (fence here.low)) (map item p.items) (marks row) all.1))
        (of_row row (each_right (λ m. IsBefore m (fence here.low)) (map item p.items) (marks row) all.1))

-- the first entry behind a place
first_behind : (target : List ℕ) (ys : List Entry) (after : Row) → ((d : Entry) (ds : List Entry) → ys ≡ d ∷ ds → IsLess target d.pair) → Each (λ q. IsLess target q.low) after → Pairwise IsBefore (marks after) → (d : Entry) (ds : List Entry) → ys ++ items after ≡ d ∷ ds → IsLess target d.pair
first_behind target (y ∷ ys) after first high rises d ds is = let same : y ≡ d = cc in subst (λ (x : Entry). IsLess target x.pair) same (first y ys refl)
first_behind target [] after first high rises d ds is = behind after high rises is
  where
    from_first : (q : Part) (es : List Entry) (rest : Row) → q.items ≡ es → IsLess target q.low → Pairwise IsBefore (fence q.low ∷ (map item es ++ marks rest)) → (Each (λ q. IsLess target q.low) rest → Pairwise IsBefore (marks rest) → items rest ≡ d ∷ ds → IsLess target d.pair) → Each (λ q. IsLess target q.low) rest → es ++ items rest ≡ d ∷ ds → IsLess target d.pair
    from_first q [] rest has less rises next high is = next high rises.1 is
    from_first q (e ∷ es) rest has less rises next high is =
        let same : e ≡ d = cc in
        subst (λ (x : Entry). IsLess target x.pair) same (less_item (leaf_entry target) e (before_trans (before_less less) rises.0.0))

    behind : (row : Row) → Each (λ q. IsLess target q.low) row → Pairwise IsBefore (marks row) → items row ≡ d ∷ ds → IsLess target d.pair
    behind [] high rises is = absurd (cc)
    behind (q ∷ row) high rises is = from_first q q.items row refl high.0 rises (behind row) high.1 is

module _ (spell : Spell) (old new : Cells) (width level number : ℕ) (target : List ℕ) (pairs : List (List ℕ)) (spot : Spot spell old width level number target pairs) where
  pub leaf_inserts : spot.lower ≡ [] → (xs ys : List Entry) → spot.here.items ≡ xs ++ ys → Each (λ d. IsLess d.pair target) xs → ((d : Entry) (ds : List Entry) → ys ≡ d ∷ ds → IsLess target d.pair)
      → (head : Part) (extra : Row) → Replaces spell old new width 0 spot.here (first spot.after no_page) (xs ++ leaf_entry target ∷ ys) head extra → Inserts spot new (names extra)
  leaf_inserts is xs ys has below above head extra rep =
      let before : Row = spot.before in
      let here : Part = spot.here in
      let after : Row = spot.after in
      let row : Row = before ++ here ∷ after in
      let e : Entry = leaf_entry target in
      let now : Row = before ++ head ∷ (extra ++ after) in
      let stack : IsStack spell old width pairs (row ∷ []) = subst (λ (l : List Row). IsStack spell old width pairs (row ∷ l)) is spot.stack in
      let distinct : Pairwise (λ a b. a ≢ b) (numbers row ++ []) = subst (λ (l : List Row). AreDistinct (row ∷ l)) is spot.distinct in
      let held : Each (IsHeld old) (numbers row ++ []) = stack_held spell width old pairs row [] stack in
      let with = with_number before here head extra after [] rep.number_is in
      let off = others before here after (pairwise_left (λ a b. a ≢ b) (numbers row) [] distinct) in
      let rises = stack.1.rises in
      let behind : Pairwise IsBefore (marks after) = pairwise_right IsBefore (marks_of here) (marks after) (pairwise_right IsBefore (marks before) (marks_of here ++ marks after) (subst (Pairwise IsBefore) (flat_map-append marks_of before (here ∷ after)) rises)) in
      let rises_now : Pairwise IsBefore (marks now) = rises_mid before here head extra after (xs ++ e ∷ ys) rep.entries_are rep.low_is rep.some rep.heads rep.few_extra (λ v low are. rises_put before here v after xs e ys has low are rises below spot.low above spot.high) in
      let lefts : Each (λ d. IsLess target d.pair → ⊥) (items before ++ xs) = each_append (λ d. IsLess target d.pair → ⊥) (items before) xs (below_here before here after target rises spot.low) (each_weaker (λ d. IsLess d.pair target) (λ d. IsLess target d.pair → ⊥) xs (λ d less. less_asym less) below) in
      let old_pairs : (items before ++ xs) ++ (ys ++ items after) ≡ map leaf_entry pairs =
      append_assoc (items before) xs (ys ++ items after)
      ∙ ap (λ (l : List Entry). items before ++ l) (sym (append_assoc xs ys (items after)))
      ∙ ap (λ (l : List Entry). items before ++ (l ++ items after)) (sym has)
      ∙ sym (flat_map-append (λ (p : Part). p.items) before (here ∷ after))
      ∙ stack.1.pairs_are in
      let new_pairs : items now ≡ map leaf_entry (with_pair target pairs) =
      flat_map-append (λ (p : Part). p.items) before ((head ∷ extra) ++ after)
      ∙ ap (λ (l : List Entry). items before ++ l) (flat_map-append (λ (p : Part). p.items) (head ∷ extra) after)
      ∙ ap (λ (l : List Entry). items before ++ (l ++ items after)) rep.entries_are
      ∙ ap (λ (l : List Entry). items before ++ l) (append_assoc xs (e ∷ ys) (items after))
      ∙ sym (append_assoc (items before) xs (e ∷ (ys ++ items after)))
      ∙ put_pairs target pairs (items before ++ xs) (ys ++ items after) old_pairs lefts (first_behind target ys after above spot.high behind) in
      let own_old : Each (IsOwn (pages (rows_at spot)) old) (numbers row ++ []) = subst (λ (l : List Row). Each (IsOwn (numbers row ++ pages spot.lower) old) (numbers row ++ pages l)) is (each_weaker (IsIn (numbers row ++ pages spot.lower)) (IsOwn (numbers row ++ pages spot.lower) old) (numbers row ++ pages spot.lower) (λ n there. inl there) (each_in (numbers row ++ pages spot.lower))) in
      record {
        head = head;
        extra = extra;
        rest = [];
        names_are = refl;
        few_extra = rep.few_extra;
        head_number = rep.number_is;
        head_low = rep.low_is;
        same_height = sym (ap (λ (l : List Row). length l) is);
        stack_now = (
          record {
            held = held_replaced spell width 0 old new (here.number ∷ []) before (here ∷ []) (head ∷ extra) after no_page rep.keeps off.0 off.1 (sym rep.number_is) stack.0.held rep.held;
            few = each_row (λ p. length p.items ≤ node_most width) before here head extra after stack.0.few rep.few;
          },
          record { pairs_are = new_pairs; rises = rises_now },
        );
        distinct_now = put_number old (numbers row ++ []) (numbers now ++ []) extra with rep.few_extra rep.fresh held distinct;
        full = rep.full;
        own = own_number (IsOwn (pages (rows_at spot)) old) (numbers row ++ []) (numbers now ++ []) extra with own_old (each_weaker (λ p. old p.number ≡ None) (λ p. IsOwn (pages (rows_at spot)) old p.number) extra (λ p none. inr none) rep.fresh);
        loses_none = subst (λ (l : List Row). LosesNone (numbers row ++ pages l) (numbers now ++ []) old new) (sym is) (loses_both [] [] (numbers row) (numbers now) old old new (λ n own. own) (row_loses old new before here head extra after rep.loses_none));
        full_rows = λ more.
            let all : length (xs ++ e ∷ ys) ≡ suc (length here.items) = length-append xs (e ∷ ys) ∙ omega (arith, length-append xs ys, ap length has) in
            let only : Each (HasFull width) (row ∷ []) = (has_full width before here after (omega (arith, all, rep.split_full more)), tt) in
            subst (λ (l : List Row). Each (HasFull width) (row ∷ l)) (sym is) only;
        made = λ good there all.
            let mine = made_here good before here after all.0 in
            let parts : Each (IsGood good) (xs ++ ys) = subst (Each (IsGood good)) has mine.1 in
            let new_entries : Each (IsGood good) (xs ++ e ∷ ys) = each_append (IsGood good) xs (e ∷ ys) (each_left (IsGood good) xs ys parts) (there, each_right (IsGood good) xs ys parts) in
            (made_between good before here after (head ∷ extra) all.0 (made_parts good head extra (xs ++ e ∷ ys) (ap good rep.low_is ∙ mine.0) rep.heads rep.entries_are new_entries), tt);
        keeps = record { same = λ n bytes off was. rep.keeps.same n bytes (λ there. off (in_left (numbers row) (pages spot.lower) n (subst (λ (l : List ℕ). IsIn l n) (sym (numbers_around before here after)) (in_right (numbers before) (here.number ∷ numbers after) n (⊎_elim (λ (same : here.number ≡ n). inl same) (λ (none : ⊥). absurd none) there))))) was };
      }

-- ---- an inner node

begins_same : (low : List ℕ) (xs : List Entry) (e : Entry) (ys zs : List Entry) → Begins low (xs ++ e ∷ ys) → Begins low (xs ++ e ∷ zs)
begins_same low [] e ys zs is = is
begins_same low (x ∷ xs) e ys zs is = is

pub begins_left : (low : List ℕ) (es more : List Entry) → 0 < length es → Begins low (es ++ more) → Begins low es
begins_left low [] more some is = absurd (omega arith)
begins_left low (e ∷ es) more some is = is

pub each_at : (P : Part → Type 0) (before : Row) (here : Part) (after : Row) → Each P (before ++ here ∷ after) → P here
each_at P before here after all = (each_right P before (here ∷ after) all).0

module _ (spell : Spell) (old : Cells) (width level number : ℕ) (target : List ℕ) (pairs : List (List ℕ)) (spot : Spot spell old width level number target pairs) (lrow : Row) (lrows : List Row) (is : spot.lower ≡ lrow ∷ lrows) (xs : List Entry) (e : Entry) (ys : List Entry) (has : spot.here.items ≡ xs ++ e ∷ ys) where
  abbrev row : Row
  row = spot.before ++ spot.here ∷ spot.after

  pub stack_is : IsStack spell old width pairs (row ∷ lrow ∷ lrows)
  stack_is = subst (λ (l : List Row). IsStack spell old width pairs (row ∷ l)) is spot.stack

  pub distinct_is : AreDistinct (row ∷ lrow ∷ lrows)
  distinct_is = subst (λ (l : List Row). AreDistinct (row ∷ l)) is spot.distinct

  -- the spot of the child
  abbrev pub below : (child : ℕ) → length lrows ≡ child → (IsLess target e.pair → ⊥) → ((d : Entry) (ds : List Entry) → ys ≡ d ∷ ds → IsLess target d.pair) → Spot spell old width child e.child target pairs
  below child height from next = child_spot spell old width target pairs spot.before spot.here spot.after lrow lrows stack_is xs e ys has child height distinct_is spot.high from next

  -- the row, after a step that touched the pages of the rows below it alone
  pub row_after : (mid : Cells) → Keeps (pages (lrow ∷ lrows)) old mid → HoldsRow spell mid width (suc (length lrows)) row no_page
  row_after mid keeps =
      let nrow : List ℕ = numbers row in
      let lower : List ℕ = pages (lrow ∷ lrows) in
      let row_off : Each (λ n. IsIn lower n → ⊥) nrow = each_weaker (λ n. Each (λ m. n ≢ m) lower) (λ n. IsIn lower n → ⊥) nrow (λ n off. not_in lower n off) (pairwise_cross (λ a b. a ≢ b) nrow lower distinct_is) in
      held_kept spell width (suc (length lrows)) old mid lower row no_page keeps (each_unmap (λ n. IsIn lower n → ⊥) (λ (p : Part). p.number) row row_off) stack_is.0.held

  pub keeps_lower : (mid : Cells) (child : ℕ) (height : length lrows ≡ child) (from : IsLess target e.pair → ⊥) (next : (d : Entry) (ds : List Entry) → ys ≡ d ∷ ds → IsLess target d.pair) (more : List Entry) → Inserts (below child height from next) mid more → Keeps (pages (lrow ∷ lrows)) old mid
  keeps_lower mid child height from next more ins =
      let cut = child_split spell old width target pairs spot.before spot.here spot.after lrow lrows stack_is xs e ys has in
      subst (λ (r : Row). Keeps (pages (r ∷ lrows)) old mid) (sym cut.is) ins.keeps

  pub inner_inserts : (mid new : Cells) (child : ℕ) (height : length lrows ≡ child) (from : IsLess target e.pair → ⊥) (next : (d : Entry) (ds : List Entry) → ys ≡ d ∷ ds → IsLess target d.pair)
      → (more : List Entry) (ins : Inserts (below child height from next) mid more) (head : Part) (extra : Row) → Replaces spell mid new width (suc (length lrows)) spot.here (first spot.after no_page) (xs ++ e ∷ (more ++ ys)) head extra → Inserts spot new (names extra)
  inner_inserts mid new child height from next more ins head extra rep =
      let before : Row = spot.before in
      let here : Part = spot.here in
      let after : Row = spot.after in
      let cut = child_split spell old width target pairs before here after lrow lrows stack_is xs e ys has in
      let lnow : Row = cut.before ++ ins.head ∷ (ins.extra ++ cut.after) in
      let now : Row = before ++ head ∷ (extra ++ after) in
      let nrow : List ℕ = numbers row in
      let lower : List ℕ = pages (lrow ∷ lrows) in
      let lower_now : List ℕ = pages (lnow ∷ ins.rest) in
      let touched : List ℕ = pages ((cut.before ++ cut.here ∷ cut.after) ∷ lrows) in
      let touched_is : touched ≡ lower = ap (λ (r : Row). pages (r ∷ lrows)) (sym cut.is) in
      let keeps_l : Keeps lower old mid = subst (λ (l : List ℕ). Keeps l old mid) touched_is ins.keeps in
      let own_l : Each (IsOwn lower old) lower_now = subst (λ (l : List ℕ). Each (IsOwn l old) lower_now) touched_is ins.own in
      let held_row : Each (IsHeld old) nrow = row_held spell width old (suc (length lrows)) row no_page stack_is.0.held in
      let row_distinct : Pairwise (λ a b. a ≢ b) nrow = pairwise_left (λ a b. a ≢ b) nrow lower distinct_is in
      let row_off : Each (λ n. IsIn lower n → ⊥) nrow = each_weaker (λ n. Each (λ m. n ≢ m) lower) (λ n. IsIn lower n → ⊥) nrow (λ n off. not_in lower n off) (pairwise_cross (λ a b. a ≢ b) nrow lower distinct_is) in
      let held_mid : Each (IsHeld mid) nrow = held_still lower old mid nrow keeps_l row_off held_row in
      let both : Pairwise (λ a b. a ≢ b) (nrow ++ lower_now) = distinct_join lower old nrow lower_now row_distinct ins.distinct_now held_row row_off own_l in
      let held_both : Each (IsHeld mid) (nrow ++ lower_now) = each_append (IsHeld mid) nrow lower_now held_mid (stack_held spell width mid (with_pair target pairs) lnow ins.rest ins.stack_now) in
      let with = with_number before here head extra after lower_now rep.number_is in
      let off = others before here after row_distinct in
      let row_mid : HoldsRow spell mid width (suc (length lrows)) row no_page = held_kept spell width (suc (length lrows)) old mid lower row no_page keeps_l (each_unmap (λ n. IsIn lower n → ⊥) (λ (p : Part). p.number) row row_off) stack_is.0.held in
      let row_now : HoldsRow spell new width (suc (length lrows)) now no_page = held_replaced spell width (suc (length lrows)) mid new (here.number ∷ []) before (here ∷ []) (head ∷ extra) after no_page rep.keeps off.0 off.1 (sym rep.number_is) row_mid rep.held in
      let height_now : length lrows ≡ length ins.rest = sym ins.same_height in
      let here_off : Each (λ n. IsIn (here.number ∷ []) n → ⊥) lower_now = each_weaker (λ n. here.number ≢ n) (λ n. IsIn (here.number ∷ []) n → ⊥) lower_now (λ n far there. ⊎_elim (λ (same : here.number ≡ n). far same) (λ (none : ⊥). none) there)
      (apart_each lower old here.number lower_now (each_at (λ (p : Part). IsHeld old p.number) before here after (each_unmap (IsHeld old) (λ (p : Part). p.number) row held_row)) (each_at (λ (p : Part). IsIn lower p.number → ⊥) before here after (each_unmap (λ n. IsIn lower n → ⊥) (λ (p : Part). p.number) row row_off)) own_l) in
      let stack_lower : IsStack spell new width (with_pair target pairs) (lnow ∷ ins.rest) = stack_kept spell width mid new (here.number ∷ []) (with_pair target pairs) lnow ins.rest rep.keeps here_off ins.stack_now in
      let head_here : Begins here.low here.items = each_at HasHead before here after stack_is.1.heads in
      let head_mid : Begins here.low (xs ++ e ∷ (more ++ ys)) = begins_same here.low xs e ys (more ++ ys) (subst (Begins here.low) has head_here) in
      let head_now : HasHead head = subst (λ (l : List ℕ). Begins l head.items) (sym rep.low_is) (begins_left here.low head.items (items extra) rep.some (subst (Begins here.low) (sym rep.entries_are) head_mid)) in
      let name_head : name ins.head ≡ e = (λ i. record { pair = ins.head_low i; child = ins.head_number i }) ∙ cut.here_is in
      let lower_names : names lnow ≡ (items before ++ xs) ++ (e ∷ (more ++ (ys ++ items after))) =
      map-append name cut.before (ins.head ∷ (ins.extra ++ cut.after))
      ∙ ap (λ (l : List Entry). names cut.before ++ (name ins.head ∷ l)) (map-append name ins.extra cut.after)
      ∙ (λ i. cut.before_is i ++ (name_head i ∷ (ins.names_are i ++ cut.after_is i))) in
      let names_now : items now ≡ names lnow =
      flat_map-append (λ (p : Part). p.items) before ((head ∷ extra) ++ after)
      ∙ ap (λ (l : List Entry). items before ++ l) (flat_map-append (λ (p : Part). p.items) (head ∷ extra) after)
      ∙ ap (λ (l : List Entry). items before ++ (l ++ items after)) rep.entries_are
      ∙ ap (λ (l : List Entry). items before ++ l) (append_assoc xs (e ∷ (more ++ ys)) (items after))
      ∙ sym (append_assoc (items before) xs (e ∷ ((more ++ ys) ++ items after)))
      ∙ ap (λ (l : List Entry). (items before ++ xs) ++ (e ∷ l)) (append_assoc more ys (items after))
      ∙ sym lower_names in
      let full_old : Each (λ p. node_least width ≤ length p.items) (cut.before ++ cut.here ∷ cut.after) = subst (Each (λ p. node_least width ≤ length p.items)) cut.is stack_is.1.full in
      let full_here = each_at (λ p. node_least width ≤ length p.items) cut.before cut.here cut.after full_old in
      let own_all : Each (IsOwn (pages (rows_at spot)) old) (nrow ++ lower_now) =
      each_append (IsOwn (pages (rows_at spot)) old) nrow lower_now
      (each_weaker (IsIn nrow) (IsOwn (pages (rows_at spot)) old) nrow (λ n there. inl (in_left nrow (pages spot.lower) n there)) (each_in nrow))
      (own_wider lower (pages (rows_at spot)) old lower_now wider own_l) in
      let own_extra : Each (λ p. IsOwn (pages (rows_at spot)) old p.number) extra = each_weaker (λ p. mid p.number ≡ None) (λ p. IsOwn (pages (rows_at spot)) old p.number) extra (λ p none. ⊎_elim (λ (there : IsIn lower p.number). inl (wider p.number there)) (λ (was : old p.number ≡ None). inr was) (own_back lower old mid keeps_l p.number none)) rep.fresh in
      record {
        head = head;
        extra = extra;
        rest = lnow ∷ ins.rest;
        names_are = refl;
        few_extra = rep.few_extra;
        head_number = rep.number_is;
        head_low = rep.low_is;
        same_height = ap (λ (n : ℕ). suc n) ins.same_height ∙ sym (ap (λ (l : List Row). length l) is);
        stack_now = (
          record {
            held = subst (λ (n : ℕ). HoldsRow spell new width (suc n) now no_page) height_now row_now;
            few = each_row (λ p. length p.items ≤ node_most width) before here head extra after stack_is.0.few rep.few;
          },
          record {
            heads = each_row HasHead before here head extra after stack_is.1.heads (head_now, rep.heads);
            names_are = names_now;
            full = each_row (λ p. node_least width ≤ length p.items) cut.before cut.here ins.head ins.extra cut.after full_old (ins.full (node_least width) (omega arith) (inl full_here));
          },
          stack_lower,
        );
        distinct_now = put_number mid (nrow ++ lower_now) (numbers now ++ lower_now) extra with rep.few_extra rep.fresh held_both both;
        full = rep.full;
        own = own_number (IsOwn (pages (rows_at spot)) old) (nrow ++ lower_now) (numbers now ++ lower_now) extra with own_all own_extra;
        loses_none =
            let below_step : LosesNone lower lower_now old mid = subst (λ (l : List ℕ). LosesNone l lower_now old mid) touched_is ins.loses_none in
            subst (λ (l : List Row). LosesNone (nrow ++ pages l) (numbers now ++ lower_now) old new) (sym is)
            (loses_both lower lower_now nrow (numbers now) old mid new below_step (row_loses mid new before here head extra after rep.loses_none));
        full_rows = λ more_than.
            let few_here : length here.items ≤ node_most width = each_at (λ p. length p.items ≤ node_most width) before here after stack_is.0.few in
            let mine : length here.items ≡ length xs + suc (length ys) = ap length has ∙ length-append xs (e ∷ ys) in
            let all : length (xs ++ e ∷ (more ++ ys)) ≡ length xs + suc (length more + length ys) = length-append xs (e ∷ (more ++ ys)) ∙ ap (λ (n : ℕ). length xs + suc n) (length-append more ys) in
            let named : length more ≡ length ins.extra = sym (ap (λ (l : List Entry). length l) ins.names_are) ∙ length-map ins.extra name in
            let split = rep.split_full more_than in
            let below_full : Each (HasFull width) ((cut.before ++ cut.here ∷ cut.after) ∷ lrows) = ins.full_rows (omega (arith, few_here, mine, all, named, split)) in
            let lower_full : Each (HasFull width) (lrow ∷ lrows) = subst (λ (r : Row). Each (HasFull width) (r ∷ lrows)) (sym cut.is) below_full in
            let whole : Each (HasFull width) (row ∷ lrow ∷ lrows) = (has_full width before here after (omega (arith, mine, all, named, split, ins.few_extra)), lower_full) in
            subst (λ (l : List Row). Each (HasFull width) (row ∷ l)) (sym is) whole;
        made = λ good there all.
            let mine = made_here good before here after all.0 in
            let parts : Each (IsGood good) (xs ++ e ∷ ys) = subst (Each (IsGood good)) has mine.1 in
            let right = each_right (IsGood good) xs (e ∷ ys) parts in
            let deeper : AreMade good (lrow ∷ lrows) = subst (AreMade good) is all.1 in
            let lower_made : AreMade good (lnow ∷ ins.rest) = ins.made good there (subst (λ (r : Row). AreMade good (r ∷ lrows)) cut.is deeper) in
            let named : Each (IsGood good) (names ins.extra) = made_names good ins.extra (each_left (IsMade good) ins.extra cut.after (each_right (IsMade good) cut.before (ins.head ∷ (ins.extra ++ cut.after)) lower_made.0).1) in
            let more_made : Each (IsGood good) more = subst (Each (IsGood good)) ins.names_are named in
            let new_entries : Each (IsGood good) (xs ++ e ∷ (more ++ ys)) = each_append (IsGood good) xs (e ∷ (more ++ ys)) (each_left (IsGood good) xs (e ∷ ys) parts) (right.0, each_append (IsGood good) more ys more_made right.1) in
            (made_between good before here after (head ∷ extra) all.0 (made_parts good head extra (xs ++ e ∷ (more ++ ys)) (ap good rep.low_is ∙ mine.0) rep.heads rep.entries_are new_entries), lower_made);
        keeps = keeps_then lower (here.number ∷ []) (pages (rows_at spot)) old mid new wider (λ n there. in_left nrow (pages spot.lower) n (subst (λ (l : List ℕ). IsIn l n) (sym (numbers_around before here after)) (in_right (numbers before) (here.number ∷ numbers after) n (⊎_elim (λ (same : here.number ≡ n). inl same) (λ (none : ⊥). absurd none) there)))) keeps_l rep.keeps;
      }
    where
      wider : (n : ℕ) → IsIn (pages (lrow ∷ lrows)) n → IsIn (pages (rows_at spot)) n
      wider n there = in_right (numbers row) (pages spot.lower) n (subst (λ (l : List Row). IsIn (pages l) n) (sym is) there)
