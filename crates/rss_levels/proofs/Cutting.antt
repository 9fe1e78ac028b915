-- A pair is taken out of a whole tree.
use Rattle.std.proofs.Common.{◌<◌, ◌≤◌, ◌≡◌, ◌≢◌, ⊎_elim, ℕ, suc, ◌+◌, ◌-◌, List, [], ◌∷◌, length, refl, sym, ◌∙◌, ap, subst, arith}
use Rattle.std.proofs.lemmas.List.{append-nil}
use Rattle.rss_base.specs.Entries.{Entry}
use Rattle.rss_base.specs.Nodes.{node_least}
use Rattle.rss_levels.specs.Entries.{Each, IsIn}
use Rattle.rss_levels.specs.Rows.{Part, Row, Cells, Spell, IsStack, IsTree, AreDistinct, Begins, name, names, pages}
use Rattle.rss_levels.specs.Spots.{Keeps, Spot}
use Rattle.rss_levels.specs.Removes.{Removes, without_pair}
use Rattle.rss_levels.proofs.Lists.{each_weaker}
use Rattle.rss_levels.proofs.Pages.{stack_kept}
use Rattle.rss_levels.proofs.Trees.{root_spot}

-- a tree of which the root names one node becomes that node
pub record Collapses (spell : Spell) (new : Cells) (width levels : ℕ) (pairs : List (List ℕ)) (entries : List Entry) (rows : List Row) : Type 0 where
  pub entry : Entry
  pub top : Part
  pub lower : List Row
  pub entry_is : entries ≡ entry ∷ []
  pub rows_are : rows ≡ (top ∷ []) ∷ lower
  pub tree : IsTree spell new width entry.child (levels - 1) pairs top lower

record NamesOne (row : Row) (es : List Entry) : Type 0 where
  entry : Entry
  part : Part
  es_is : es ≡ entry ∷ []
  row_is : row ≡ part ∷ []
  name_is : name part ≡ entry

names_one : (row : Row) (es : List Entry) → es ≡ names row → length es ≡ 1 → NamesOne row es
names_one [] es is one = absurd (omega (arith, one, ap length is))
names_one (p ∷ []) es is one = record { entry = name p; part = p; es_is = is; row_is = refl; name_is = refl }
names_one (p ∷ q ∷ row) es is one = let long : length es ≡ suc (suc (length (names row))) = ap length is in absurd (omega (arith, one, long))

module _ (spell : Spell) (old : Cells) (width root levels : ℕ) (target : List ℕ) (pairs : List (List ℕ)) (top : Part) (lower : List Row) (tree : IsTree spell old width root levels pairs top lower) (long : length target ≡ width + 6) (many : 2 ≤ node_least width) where
  abbrev spot : Spot spell old width (levels - 1) root target pairs
  spot = root_spot spell old width root levels target pairs top lower tree long

  pub tree_cut : (new : Cells) (count : ℕ) (rem : Removes spot new count) → (1 < levels → 2 ≤ count) → IsTree spell new width root levels (without_pair target pairs) rem.head rem.rest
  tree_cut new count rem more = record {
    stack = rem.stack_now;
    at_root = rem.head_number ∙ tree.at_root;
    low = rem.head_low ∙ tree.low;
    high = tree.high ∙ ap (λ (n : ℕ). suc n) (sym rem.same_height);
    branches = λ some. let two = more (omega (arith, some, rem.same_height, tree.high)) in omega (arith, two, rem.count_is);
    distinct = rem.distinct_now;
  }

  pub tree_collapses : (mid new : Cells) (count : ℕ) (rem : Removes spot mid count) → 1 < levels → count ≡ 1 → Keeps (root ∷ []) mid new → Collapses spell new width levels (without_pair target pairs) rem.head.items rem.rest
  tree_collapses mid new count rem high one keeps = go rem.rest refl
    where
      collapse : (r : Row) (rs : List Row) → IsStack spell mid width (without_pair target pairs) ((rem.head ∷ []) ∷ r ∷ rs) → AreDistinct ((rem.head ∷ []) ∷ r ∷ rs) → length rem.rest ≡ suc (length rs) → Collapses spell new width levels (without_pair target pairs) rem.head.items (r ∷ rs)
      collapse r rs stack distinct height =
          let are : rem.head.items ≡ names r = sym (append-nil rem.head.items) ∙ stack.1.names_are in
          let only = names_one r rem.head.items are (omega (arith, one, rem.count_is)) in
          let off : Each (λ n. IsIn (root ∷ []) n → ⊥) (pages (r ∷ rs)) = each_weaker (λ n. rem.head.number ≢ n) (λ n. IsIn (root ∷ []) n → ⊥) (pages (r ∷ rs)) (λ n far there. ⊎_elim (λ (same : root ≡ n). far (rem.head_number ∙ tree.at_root ∙ same)) (λ (none : ⊥). none) there) distinct.0 in
          let kept = stack_kept spell width mid new (root ∷ []) (without_pair target pairs) r rs keeps off stack.2 in
          let begins : Begins rem.head.low (only.entry ∷ []) = subst (Begins rem.head.low) only.es_is stack.1.heads.0 in
          record {
            entry = only.entry;
            top = only.part;
            lower = rs;
            entry_is = only.es_is;
            rows_are = ap (λ (l : Row). l ∷ rs) only.row_is;
            tree = record {
              stack = subst (λ (l : Row). IsStack spell new width (without_pair target pairs) (l ∷ rs)) only.row_is kept;
              at_root = ap (λ (e : Entry). e.child) only.name_is;
              low = ap (λ (e : Entry). e.pair) only.name_is ∙ begins ∙ rem.head_low ∙ tree.low;
              high = omega (arith, tree.high, height, rem.same_height);
              branches = λ some. let full = (subst (Each (λ p. node_least width ≤ length p.items)) only.row_is stack.1.full).0 in omega (arith, full, many);
              distinct = subst (λ (l : Row). AreDistinct (l ∷ rs)) only.row_is distinct.1;
            };
          }

      go : (rows : List Row) → rem.rest ≡ rows → Collapses spell new width levels (without_pair target pairs) rem.head.items rem.rest
      go [] is = absurd (omega (arith, ap (λ (l : List Row). length l) is, rem.same_height, tree.high, high))
      go (r ∷ rs) is =
          subst (λ (l : List Row). Collapses spell new width levels (without_pair target pairs) rem.head.items l) (sym is)
          (collapse r rs (subst (λ (l : List Row). IsStack spell mid width (without_pair target pairs) ((rem.head ∷ []) ∷ l)) is rem.stack_now) (subst (λ (l : List Row). AreDistinct ((rem.head ∷ []) ∷ l)) is rem.distinct_now) (ap (λ (l : List Row). length l) is))
