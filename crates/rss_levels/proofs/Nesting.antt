-- The rows of a tree as nodes with those under them.
use Rattle.std.proofs.Common.{◌≡◌, ◌≢◌, ◌⊎◌, inl, inr, ⊎_elim, ℕ, suc, ◌≤◌, List, [], ◌∷◌, ◌++◌, length, refl, sym, ◌∙◌, ap, subst, append_assoc}
use Rattle.std.proofs.lemmas.List.{append-nil}
use Rattle.rss_base.specs.Entries.{Entry, no_page}
use Rattle.rss_base.specs.Nodes.{node_least}
use Rattle.rss_levels.specs.Entries.{Each, Pairwise, IsIn}
use Rattle.rss_levels.specs.Rows.{Part, Row, Cells, Spell, HoldsAt, HoldsRow, HasHead, stored, IsStack, IsLeaves, first, name, names, items, numbers, pages}
use Rattle.rss_levels.specs.Spots.{Keeps}
use Rattle.rss_levels.specs.Nested.{IsUnder, AreUnder, AreSameNumbers, leaf_under, inner_under, none_under, more_under}
use Rattle.rss_levels.proofs.Lists.{each_append, each_left, each_right, each_weaker, pairwise_append, pairwise_left, pairwise_right, pairwise_cross}
use Rattle.rss_levels.proofs.Held.{first_append}
use Rattle.rss_levels.proofs.Pages.{in_left, in_right, in_append}

-- ---- numbers

pub turned : (xs ys : List ℕ) → Each (λ x. Each (λ y. x ≢ y) ys) xs → Each (λ y. Each (λ x. y ≢ x) xs) ys
turned xs [] all = tt
turned xs (y ∷ ys) all = (each_weaker (λ x. Each (λ z. x ≢ z) (y ∷ ys)) (λ x. y ≢ x) xs (λ x far is. far.0 (sym is)) all, turned xs ys (each_weaker (λ x. Each (λ z. x ≢ z) (y ∷ ys)) (λ x. Each (λ z. x ≢ z) ys) xs (λ x far. far.1) all))

pub each_among : (P : ℕ → Type 0) (ns ms : List ℕ) → ((n : ℕ) → IsIn ns n → IsIn ms n) → Each P ms → Each P ns
each_among P [] ms among all = tt
each_among P (n ∷ ns) ms among all = (one_of ms n (among n (inl refl)) all, each_among P ns ms (λ m is. among m (inr is)) all)
  where
    one_of : (ks : List ℕ) (k : ℕ) → IsIn ks k → Each P ks → P k
    one_of [] k is every = absurd is
    one_of (x ∷ ks) k is every = ⊎_elim (λ (same : x ≡ k). subst P same every.0) (λ (more : IsIn ks k). one_of ks k more every.1) is

-- a number, some numbers of one part, and those of the rest, in the order of nodes and in that of rows
same_nested : (number : ℕ) (row one rest more : List ℕ) → AreSameNumbers more (row ++ rest) → AreSameNumbers ((number ∷ one) ++ more) ((number ∷ row) ++ (one ++ rest))
same_nested number row one rest more same = record {
  into = λ n is. ⊎_elim (λ (here : number ≡ n). inl here) (λ (there : IsIn (one ++ more) n). inr (⊎_elim
      (λ (left : IsIn one n). in_right row (one ++ rest) n (in_left one rest n left))
      (λ (right : IsIn more n). spread n (in_append row rest n (same.into n right)))
      (in_append one more n there))) is;
  back = λ n is. ⊎_elim (λ (here : number ≡ n). inl here) (λ (there : IsIn (row ++ (one ++ rest)) n). inr (⊎_elim
      (λ (left : IsIn row n). in_right one more n (same.back n (in_left row rest n left)))
      (λ (right : IsIn (one ++ rest) n). ⊎_elim (λ (mine : IsIn one n). in_left one more n mine) (λ (last : IsIn rest n). in_right one more n (same.back n (in_right row rest n last))) (in_append one rest n right))
      (in_append row (one ++ rest) n there))) is;
  distinct = λ all.
      let tail = all.1 in
      let right = pairwise_right (λ a b. a ≢ b) row (one ++ rest) tail in
      let cross = pairwise_cross (λ a b. a ≢ b) row (one ++ rest) tail in
      let others : Pairwise (λ a b. a ≢ b) (row ++ rest) = pairwise_append (λ a b. a ≢ b) row rest (pairwise_left (λ a b. a ≢ b) row (one ++ rest) tail) (pairwise_right (λ a b. a ≢ b) one rest right) (each_weaker (λ x. Each (λ y. x ≢ y) (one ++ rest)) (λ x. Each (λ y. x ≢ y) rest) row (λ x far. each_right (λ y. x ≢ y) one rest far) cross) in
      let mine = pairwise_left (λ a b. a ≢ b) one rest right in
      let apart_rest = pairwise_cross (λ a b. a ≢ b) one rest right in
      let apart_row : Each (λ x. Each (λ y. x ≢ y) row) one = turned row one (each_weaker (λ x. Each (λ y. x ≢ y) (one ++ rest)) (λ x. Each (λ y. x ≢ y) one) row (λ x far. each_left (λ y. x ≢ y) one rest far) cross) in
      let apart : Each (λ x. Each (λ y. x ≢ y) more) one = both one apart_row apart_rest in
      let first : Each (λ y. number ≢ y) (one ++ more) = each_append (λ y. number ≢ y) one more (each_left (λ y. number ≢ y) one rest (each_right (λ y. number ≢ y) row (one ++ rest) all.0))
      (each_among (λ y. number ≢ y) more (row ++ rest) same.into (each_append (λ y. number ≢ y) row rest (each_left (λ y. number ≢ y) row (one ++ rest) all.0) (each_right (λ y. number ≢ y) one rest (each_right (λ y. number ≢ y) row (one ++ rest) all.0)))) in
      (first, pairwise_append (λ a b. a ≢ b) one more mine (same.distinct others) apart);
}
  where
    spread : (n : ℕ) → IsIn row n ⊎ IsIn rest n → IsIn (row ++ (one ++ rest)) n
    spread n is = ⊎_elim (λ (left : IsIn row n). in_left row (one ++ rest) n left) (λ (right : IsIn rest n). in_right row (one ++ rest) n (in_right one rest n right)) is

    both : (xs : List ℕ) → Each (λ x. Each (λ y. x ≢ y) row) xs → Each (λ x. Each (λ y. x ≢ y) rest) xs → Each (λ x. Each (λ y. x ≢ y) more) xs
    both [] far near = tt
    both (x ∷ xs) far near = (each_among (λ y. x ≢ y) more (row ++ rest) same.into (each_append (λ y. x ≢ y) row rest far.0 near.0), both xs far.1 near.1)

-- ---- nodes side by side

-- a row in two parts, by the names of its nodes
pub record SplitsNames (row : Row) (xs ys : List Entry) : Type 0 where
  pub one : Row
  pub two : Row
  pub is : row ≡ one ++ two
  pub one_is : names one ≡ xs
  pub two_is : names two ≡ ys

pub split_names : (xs ys : List Entry) (row : Row) → names row ≡ xs ++ ys → SplitsNames row xs ys
split_names [] ys row is = record { one = []; two = row; is = refl; one_is = refl; two_is = is }
split_names (x ∷ xs) ys [] is = absurd (cc)
split_names (x ∷ xs) ys (p ∷ row) is =
    let here : name p ≡ x = cc in
    let rest = split_names xs ys row (cc) in
    record { one = p ∷ rest.one; two = rest.two; is = λ i. p ∷ rest.is i; one_is = λ i. here i ∷ rest.one_is i; two_is = rest.two_is }

module _ (spell : Spell) (cells : Cells) (width : ℕ) where
  pub record SplitsUnder (level : ℕ) (one two : Row) (ns : List ℕ) (leaves : Row) (end : ℕ) : Type 0 where
    pub ns_one : List ℕ
    pub ns_two : List ℕ
    pub leaves_one : Row
    pub leaves_two : Row
    pub ns_is : ns ≡ ns_one ++ ns_two
    pub leaves_is : leaves ≡ leaves_one ++ leaves_two
    pub under_one : AreUnder spell cells width level one ns_one leaves_one (first leaves_two end)
    pub under_two : AreUnder spell cells width level two ns_two leaves_two end

  pub split_under : (level : ℕ) (one two : Row) (ns : List ℕ) (leaves : Row) (end : ℕ) → AreUnder spell cells width level (one ++ two) ns leaves end → SplitsUnder level one two ns leaves end
  split_under level [] two ns leaves end under = record { ns_one = []; ns_two = ns; leaves_one = []; leaves_two = leaves; ns_is = refl; leaves_is = refl; under_one = none_under; under_two = under }
  split_under level (p ∷ one) two _ _ end (more_under {ns = ns} {ms = ms} {leaves = leaves} {more = more} here rest) =
      let parts = split_under level one two ms more end rest in
      record {
        ns_one = ns ++ parts.ns_one;
        ns_two = parts.ns_two;
        leaves_one = leaves ++ parts.leaves_one;
        leaves_two = parts.leaves_two;
        ns_is = ap (λ (l : List ℕ). ns ++ l) parts.ns_is ∙ sym (append_assoc ns parts.ns_one parts.ns_two);
        leaves_is = ap (λ (l : Row). leaves ++ l) parts.leaves_is ∙ sym (append_assoc leaves parts.leaves_one parts.leaves_two);
        under_one = more_under (subst (λ (n : ℕ). IsUnder spell cells width level p ns leaves n) (ap (λ (l : Row). first l end) parts.leaves_is ∙ first_append parts.leaves_one parts.leaves_two end) here) parts.under_one;
        under_two = parts.under_two;
      }

  -- a row, with what stands under it
  pub record RowUnder (level : ℕ) (row leaves : Row) (end : ℕ) (all : List ℕ) : Type 0 where
    pub ns : List ℕ
    pub under : AreUnder spell cells width level row ns leaves end
    pub same : AreSameNumbers ns all

  group : (level : ℕ) (row lower : Row) (ns : List ℕ) (leaves : Row) (end next : ℕ) → HoldsRow spell cells width (suc level) row next → Each HasHead row → items row ≡ names lower → Each (λ p. node_least width ≤ length p.items) lower → AreUnder spell cells width level lower ns leaves end → RowUnder (suc level) row leaves end (numbers row ++ ns)
  group level [] [] _ _ end next held heads are full none_under = record { ns = []; under = none_under; same = record { into = λ n is. is; back = λ n is. is; distinct = λ all. all } }
  group level [] (q ∷ lower) ns leaves end next held heads are full under = absurd (cc)
  group level (p ∷ row) lower ns leaves end next held heads are full under =
      let cut = split_names p.items (items row) lower (sym are) in
      let parts = split_under level cut.one cut.two ns leaves end (subst (λ (r : Row). AreUnder spell cells width level r ns leaves end) cut.is under) in
      let filled = subst (Each (λ q. node_least width ≤ length q.items)) cut.is full in
      let rest = group level row cut.two parts.ns_two parts.leaves_two end next held.1 heads.1 (sym cut.two_is) (each_right (λ q. node_least width ≤ length q.items) cut.one cut.two filled) parts.under_two in
      let here = inner_under held.0 heads.0 (sym cut.one_is) (each_left (λ q. node_least width ≤ length q.items) cut.one cut.two filled) parts.under_one in
      let same = same_nested p.number (numbers row) parts.ns_one parts.ns_two rest.ns rest.same in
      record {
        ns = (p.number ∷ parts.ns_one) ++ rest.ns;
        under = subst (λ (l : Row). AreUnder spell cells width (suc level) (p ∷ row) ((p.number ∷ parts.ns_one) ++ rest.ns) l end) (sym parts.leaves_is) (more_under here rest.under);
        same = subst (λ (l : List ℕ). AreSameNumbers ((p.number ∷ parts.ns_one) ++ rest.ns) ((p.number ∷ numbers row) ++ l)) (sym parts.ns_is) same;
      }

  leaves_under : (row : Row) (end : ℕ) → HoldsRow spell cells width 0 row end → AreUnder spell cells width 0 row (numbers row) row end
  leaves_under [] end held = none_under
  leaves_under (p ∷ row) end held = more_under (leaf_under held.0) (leaves_under row end held.1)

  -- the rows of a tree, as nodes with what stands under them
  pub record StackUnder (pairs : List (List ℕ)) (row : Row) (lower : List Row) : Type 0 where
    pub leaves : Row
    pub leaves_are : IsLeaves pairs leaves
    pub whole : RowUnder (length lower) row leaves no_page (pages (row ∷ lower))

  pub stack_under : (pairs : List (List ℕ)) (row : Row) (lower : List Row) → IsStack spell cells width pairs (row ∷ lower) → StackUnder pairs row lower
  stack_under pairs row [] stack = record {
    leaves = row;
    leaves_are = stack.1;
    whole = record { ns = numbers row; under = leaves_under row no_page stack.0.held; same = subst (AreSameNumbers (numbers row)) (sym (append-nil (numbers row))) (record { into = λ n is. is; back = λ n is. is; distinct = λ all. all }) };
  }
  stack_under pairs row (l ∷ lower) stack =
      let below = stack_under pairs l lower stack.2 in
      let made = group (length lower) row l below.whole.ns below.leaves no_page no_page stack.0.held stack.1.heads stack.1.names_are stack.1.full below.whole.under in
      record {
        leaves = below.leaves;
        leaves_are = below.leaves_are;
        whole = record {
          ns = made.ns;
          under = made.under;
          same = record {
            into = λ n is. wider row l lower below.whole.ns below.whole.same.into n (made.same.into n is);
            back = λ n is. made.same.back n (wider_back row l lower below.whole.ns below.whole.same.back n is);
            distinct = λ all. made.same.distinct (pairwise_append (λ a b. a ≢ b) (numbers row) below.whole.ns (pairwise_left (λ a b. a ≢ b) (numbers row) (pages (l ∷ lower)) all) (below.whole.same.distinct (pairwise_right (λ a b. a ≢ b) (numbers row) (pages (l ∷ lower)) all))
                (each_weaker (λ x. Each (λ y. x ≢ y) (pages (l ∷ lower))) (λ x. Each (λ y. x ≢ y) below.whole.ns) (numbers row) (λ x far. each_among (λ y. x ≢ y) below.whole.ns (pages (l ∷ lower)) below.whole.same.into far) (pairwise_cross (λ a b. a ≢ b) (numbers row) (pages (l ∷ lower)) all)));
          };
        };
      }
    where
      wider : (row l : Row) (lower : List Row) (ns : List ℕ) → ((n : ℕ) → IsIn ns n → IsIn (pages (l ∷ lower)) n) → (n : ℕ) → IsIn (numbers row ++ ns) n → IsIn (pages (row ∷ l ∷ lower)) n
      wider row l lower ns among n is = ⊎_elim (λ (left : IsIn (numbers row) n). in_left (numbers row) (pages (l ∷ lower)) n left) (λ (right : IsIn ns n). in_right (numbers row) (pages (l ∷ lower)) n (among n right)) (in_append (numbers row) ns n is)

      wider_back : (row l : Row) (lower : List Row) (ns : List ℕ) → ((n : ℕ) → IsIn (pages (l ∷ lower)) n → IsIn ns n) → (n : ℕ) → IsIn (pages (row ∷ l ∷ lower)) n → IsIn (numbers row ++ ns) n
      wider_back row l lower ns among n is = ⊎_elim (λ (left : IsIn (numbers row) n). in_left (numbers row) ns n left) (λ (right : IsIn (pages (l ∷ lower)) n). in_right (numbers row) ns n (among n right)) (in_append (numbers row) (pages (l ∷ lower)) n is)

-- ---- nodes that no step touched

module _ (spell : Spell) (old new : Cells) (width : ℕ) (touched : List ℕ) (keeps : Keeps touched old new) where
  still : (level number next : ℕ) (es : List Entry) → (IsIn touched number → ⊥) → HoldsAt spell old level number next es → HoldsAt spell new level number next es
  still level number next es off held = record { bytes = held.bytes; held = keeps.same number held.bytes off held.held; spells = held.spells }

  mutual
    pub kept_under : (level : ℕ) (p : Part) (ns : List ℕ) (leaves : Row) (end : ℕ) → IsUnder spell old width level p ns leaves end → Each (λ n. IsIn touched n → ⊥) ns → IsUnder spell new width level p ns leaves end
    kept_under _ p _ _ end (leaf_under held) off = leaf_under (still 0 p.number end p.items off.0 held)
    kept_under _ p _ leaves end (inner_under {level = level} {row = row} {ns = ns} held head are full under) off = inner_under (still (suc level) p.number no_page (stored width (suc level) p.items) off.0 held) head are full (kept_row level row ns leaves end under off.1)

    pub kept_row : (level : ℕ) (row : Row) (ns : List ℕ) (leaves : Row) (end : ℕ) → AreUnder spell old width level row ns leaves end → Each (λ n. IsIn touched n → ⊥) ns → AreUnder spell new width level row ns leaves end
    kept_row level [] _ _ end none_under off = none_under
    kept_row level (p ∷ row) _ _ end (more_under {ns = ns} {ms = ms} {leaves = leaves} {more = more} here rest) off =
        more_under (kept_under level p ns leaves (first more end) here (each_left (λ n. IsIn touched n → ⊥) ns ms off)) (kept_row level row ms more end rest (each_right (λ n. IsIn touched n → ⊥) ns ms off))
