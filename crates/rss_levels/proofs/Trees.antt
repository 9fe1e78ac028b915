-- Whole trees.
use Rattle.std.proofs.Common.{◌<◌, ◌≤◌, ◌≡◌, inl, inr, ℕ, suc, ◌+◌, ◌-◌, List, [], ◌∷◌, ◌++◌, length, refl, sym, ◌∙◌, ap, subst, arith, None}
use Rattle.std.proofs.lemmas.List.{append-nil}
use Rattle.rss_base.specs.Entries.{Entry, IsLess, no_page}
use Rattle.rss_base.specs.Nodes.{node_least, node_most}
use Rattle.rss_levels.specs.Entries.{Each, IsIn, zeros}
use Rattle.rss_levels.specs.Rows.{Part, Row, Cells, Spell, HoldsAt, IsStack, IsTree, AreDistinct, names, pages}
use Rattle.rss_levels.specs.Spots.{Keeps, Spot, Inserts, with_pair}
use Rattle.rss_levels.proofs.Order.{zeros_least}
use Rattle.rss_levels.proofs.Pages.{stack_held, stack_kept, fresh_behind}

pub level_of : (levels n : ℕ) → levels ≡ suc n → n ≡ levels - 1
level_of levels n is = omega arith

-- the spot of any pair, under the root
abbrev pub root_spot : (spell : Spell) (cells : Cells) (width root levels : ℕ) (target : List ℕ) (pairs : List (List ℕ)) (top : Part) (lower : List Row) → IsTree spell cells width root levels pairs top lower → length target ≡ width + 6 → Spot spell cells width (levels - 1) root target pairs
root_spot spell cells width root levels target pairs top lower tree long = record {
  before = [];
  here = top;
  after = [];
  lower = lower;
  number_is = tree.at_root;
  level_is = level_of levels (length lower) tree.high;
  stack = tree.stack;
  distinct = tree.distinct;
  low = λ less. zeros_least target (width + 6) long (subst (IsLess target) tree.low less);
  high = tt;
}

module _ (spell : Spell) (old : Cells) (width root levels : ℕ) (target : List ℕ) (pairs : List (List ℕ)) (top : Part) (lower : List Row) (tree : IsTree spell old width root levels pairs top lower) (long : length target ≡ width + 6) (many : 2 ≤ node_least width) where
  abbrev spot : Spot spell old width (levels - 1) root target pairs
  spot = root_spot spell old width root levels target pairs top lower tree long

  -- the root stays one node
  pub tree_whole : (new : Cells) (ins : Inserts spot new []) → IsTree spell new width root levels (with_pair target pairs) ins.head ins.rest
  tree_whole new ins =
      let alone : ins.extra ≡ [] = no_names ins.extra ins.names_are in
      let row : ins.head ∷ (ins.extra ++ []) ≡ ins.head ∷ [] = ap (λ (r : Row). ins.head ∷ r) (append-nil ins.extra ∙ alone) in
      record {
        stack = subst (λ (r : Row). IsStack spell new width (with_pair target pairs) (r ∷ ins.rest)) row ins.stack_now;
        at_root = ins.head_number ∙ tree.at_root;
        low = ins.head_low ∙ tree.low;
        high = tree.high ∙ ap (λ (n : ℕ). suc n) (sym ins.same_height);
        branches = λ some. (ins.full 2 many (inl (tree.branches (omega (arith, some, ins.same_height))))).0;
        distinct = subst (λ (r : Row). AreDistinct (r ∷ ins.rest)) row ins.distinct_now;
      }
    where
      no_names : (row : Row) → names row ≡ [] → row ≡ []
      no_names [] is = refl
      no_names (p ∷ row) is = absurd (cc)

  -- the root is split, and a new root names the two nodes
  pub tree_split : (mid new : Cells) (e : Entry) (ins : Inserts spot mid (e ∷ [])) (number : ℕ) → HoldsAt spell new levels number no_page (record { pair = zeros width; child = root } ∷ e ∷ []) → mid number ≡ None → Keeps [] mid new → 2 ≤ node_most width
      → IsTree spell new width number (suc levels) (with_pair target pairs) (record { number = number; low = zeros width; items = record { pair = zeros width; child = root } ∷ e ∷ [] }) ((ins.head ∷ (ins.extra ++ [])) ∷ ins.rest)
  tree_split mid new e ins number held fresh keeps room =
      let row : Row = ins.head ∷ (ins.extra ++ []) in
      let whole : row ≡ ins.head ∷ ins.extra = ap (λ (r : Row). ins.head ∷ r) (append-nil ins.extra) in
      let height : levels ≡ suc (length ins.rest) = tree.high ∙ ap (λ (n : ℕ). suc n) (sym ins.same_height) in
      let kept = stack_kept spell width mid new [] (with_pair target pairs) row ins.rest keeps (none_touched (pages (row ∷ ins.rest))) ins.stack_now in
      let held_all = stack_held spell width mid (with_pair target pairs) row ins.rest ins.stack_now in
      let name_head : record { pair = zeros width; child = root } ≡ record { pair = ins.head.low; child = ins.head.number } = λ i. record { pair = sym (ins.head_low ∙ tree.low) i; child = sym (ins.head_number ∙ tree.at_root) i } in
      record {
        stack = (
          record { held = (subst (λ (n : ℕ). HoldsAt spell new n number no_page (record { pair = zeros width; child = root } ∷ e ∷ [])) height held, tt); few = (room, tt) },
          record {
            heads = (refl, tt);
            names_are = (λ i. name_head i ∷ sym ins.names_are i) ∙ ap names (sym whole);
            full = subst (Each (λ p. node_least width ≤ length p.items)) (sym whole) (ins.full (node_least width) (omega arith) (inr (extra_some ins.extra ins.names_are)));
          },
          kept,
        );
        at_root = refl;
        low = refl;
        high = ap (λ (n : ℕ). suc n) height;
        branches = λ some. omega arith;
        distinct = (fresh_behind mid number (pages (row ∷ ins.rest)) fresh held_all, ins.distinct_now);
      }
    where
      none_touched : (ns : List ℕ) → Each (λ n. IsIn [] n → ⊥) ns
      none_touched [] = tt
      none_touched (n ∷ ns) = ((λ is. is), none_touched ns)

      extra_some : (extra : Row) → names extra ≡ e ∷ [] → 0 < length extra
      extra_some [] is = absurd (cc)
      extra_some (p ∷ extra) is = omega arith
