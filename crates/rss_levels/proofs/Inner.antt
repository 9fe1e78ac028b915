-- A step down from an inner node, and what it does to it.
use Rattle.std.proofs.Common.{◌<◌, ◌≤◌, ◌≡◌, ◌⊎◌, inl, inr, ⊎_elim, ℕ, suc, zero, ◌-◌, List, [], ◌∷◌, ◌++◌, length, take, drop, refl, sym, ◌∙◌, ap, subst, arith}
use Rattle.rss_base.specs.Entries.{Entry, IsLess, no_page}
use Rattle.rss_levels.specs.Entries.{Each}
use Rattle.rss_levels.specs.Rows.{Part, Row, Cells, Spell, HoldsAt, HasHead, Begins, names, first, link, stored}
use Rattle.rss_levels.proofs.Replacing.{Replaces}
use Rattle.rss_levels.specs.Spots.{Spot, Inserts, HasFull, HasRoom, rows_at}
use Rattle.rss_levels.proofs.Lists.{each_right, each_weaker}
use Rattle.rss_levels.proofs.Order.{not_not_less}
use Rattle.rss_base.specs.Nodes.{node_least, node_most}
use Rattle.rss_levels.proofs.Names.{child_split}
use Rattle.rss_levels.proofs.Inserting.{stack_is, below, row_after, keeps_lower, inner_inserts, has_full}
use Rattle.rss_levels.proofs.Spotted.{at_place, first_drop, split_place, stored_pair, begins_place, here_of}

pub record IsCons (rows : List Row) : Type 0 where
  pub row : Row
  pub rest : List Row
  pub is : rows ≡ row ∷ rest

pub cons_of : (rows : List Row) → 0 < length rows → IsCons rows
cons_of [] some = absurd (omega arith)
cons_of (row ∷ rest) some = record { row = row; rest = rest; is = refl }

one_or_more : (at : ℕ) → 0 < at → (at - 1 ≡ 0) ⊎ (0 < at - 1)
one_or_more zero some = absurd (omega arith)
one_or_more (suc zero) some = inl (omega arith)
one_or_more (suc (suc n)) some = inr (omega arith)

module _ (spell : Spell) (old : Cells) (width level number : ℕ) (target : List ℕ) (pairs : List (List ℕ)) (spot : Spot spell old width level number target pairs) (at : ℕ) (inner : 0 < level) (some : 0 < at) (low : at ≤ length spot.here.items)
    (passed : IsLess target (at_place (stored width level spot.here.items) (at - 1)).pair → ⊥) (above : at < length spot.here.items → (IsLess target (at_place (stored width level spot.here.items) at).pair → ⊥) → ⊥) where
  pub cons : IsCons spot.lower
  cons = cons_of spot.lower (omega (arith, spot.level_is))

  abbrev pub before_at : List Entry
  before_at = take (at - 1) spot.here.items

  abbrev pub at_entry : Entry
  at_entry = at_place spot.here.items (at - 1)

  abbrev pub behind_at : List Entry
  behind_at = drop at spot.here.items

  pub has_at : spot.here.items ≡ before_at ++ at_entry ∷ behind_at
  has_at = let next : suc (at - 1) ≡ at = omega arith in split_place spot.here.items (at - 1) (omega arith) ∙ ap (λ (n : ℕ). before_at ++ at_entry ∷ drop n spot.here.items) next

  pub height : length cons.rest ≡ level - 1
  height = let long = ap (λ (l : List Row). length l) cons.is in omega (arith, long, spot.level_is)

  pub from_at : IsLess target at_entry.pair → ⊥
  from_at less = ⊎_elim
      (λ (is : at - 1 ≡ 0).
      let stack = stack_is spell old width level number target pairs spot cons.row cons.rest cons.is before_at at_entry behind_at has_at in
      let heads : Begins spot.here.low spot.here.items = (each_right HasHead spot.before (spot.here ∷ spot.after) stack.1.heads).0 in
      let head = begins_place spot.here.low spot.here.items heads in
      spot.low (subst (IsLess target) (ap (λ (n : ℕ). (at_place spot.here.items n).pair) is ∙ head.1) less))
      (λ (more : 0 < at - 1). passed (subst (IsLess target) (sym (stored_pair width level spot.here.items (at - 1) (λ l. more))) less))
      (one_or_more at some)

  pub next_at : (d : Entry) (ds : List Entry) → behind_at ≡ d ∷ ds → IsLess target d.pair
  next_at d ds is =
      let there = first_drop spot.here.items at d ds is in
      let less : IsLess target (at_place (stored width level spot.here.items) at).pair = not_not_less target (at_place (stored width level spot.here.items) at).pair (above there.0) in
      subst (IsLess target) (stored_pair width level spot.here.items at (λ l. some) ∙ sym (ap (λ (x : Entry). x.pair) there.1)) less

  abbrev pub child_at : Spot spell old width (level - 1) at_entry.child target pairs
  child_at = below spell old width level number target pairs spot cons.row cons.rest cons.is before_at at_entry behind_at has_at (level - 1) height from_at next_at

  level_back : suc (length cons.rest) ≡ level
  level_back = omega (arith, height, inner)

  -- the node stays as it is while something is put below
  pub here_still : (mid : Cells) (more : List Entry) → Inserts child_at mid more → HoldsAt spell mid level number (link level [] (first spot.after no_page)) (stored width level spot.here.items)
  here_still mid more ins =
      let keeps = keeps_lower spell old width level number target pairs spot cons.row cons.rest cons.is before_at at_entry behind_at has_at mid (level - 1) height from_at next_at more ins in
      let held = here_of spell mid width (suc (length cons.rest)) spot.before spot.here spot.after (row_after spell old width level number target pairs spot cons.row cons.rest cons.is before_at at_entry behind_at has_at mid keeps) in
      subst (λ (l : ℕ). HoldsAt spell mid l number (link l [] (first spot.after no_page)) (stored width l spot.here.items)) level_back
      (subst (λ (n : ℕ). HoldsAt spell mid (suc (length cons.rest)) n no_page (stored width (suc (length cons.rest)) spot.here.items)) spot.number_is held)

  pub inner_done : (mid new : Cells) (more : List Entry) → Inserts child_at mid more → (head : Part) (extra : Row) → Replaces spell mid new width level spot.here (first spot.after no_page) (before_at ++ at_entry ∷ (more ++ behind_at)) head extra → Inserts spot new (names extra)
  inner_done mid new more ins head extra rep =
      inner_inserts spell old width level number target pairs spot cons.row cons.rest cons.is before_at at_entry behind_at has_at mid new (level - 1) height from_at next_at more ins head extra
      (subst (λ (l : ℕ). Replaces spell mid new width l spot.here (first spot.after no_page) (before_at ++ at_entry ∷ (more ++ behind_at)) head extra) (sym level_back) rep)

  row_is : cons.row ≡ child_at.before ++ child_at.here ∷ child_at.after
  row_is = (child_split spell old width target pairs spot.before spot.here spot.after cons.row cons.rest (stack_is spell old width level number target pairs spot cons.row cons.rest cons.is before_at at_entry behind_at has_at) before_at at_entry behind_at has_at).is

  lower_is : spot.lower ≡ rows_at child_at
  lower_is = cons.is ∙ ap (λ (r : Row). r ∷ cons.rest) row_is

  -- room in these rows is room in those of the child
  pub room_below : (spare : ℕ) → HasRoom width spare (rows_at spot) → HasRoom width spare (rows_at child_at)
  room_below spare room = subst (HasRoom width spare) lower_is room.1

  -- where a node below was split and this one has no room, all rows have such nodes
  pub all_full : (mid : Cells) (more : List Entry) (ins : Inserts child_at mid more) → 0 < length ins.extra → node_most width ≤ length spot.here.items → Each (HasFull width) (rows_at spot)
  all_full mid more ins split full =
      let deeper : Each (HasFull width) spot.lower = subst (Each (HasFull width)) (sym lower_is) (ins.full_rows split) in
      (has_full width spot.before spot.here spot.after full, deeper)

  -- the nodes to the right of the child have entries
  pub child_filled : 0 < node_least width → Each (λ p. 0 < length p.items) child_at.after
  child_filled few =
      let stack = stack_is spell old width level number target pairs spot cons.row cons.rest cons.is before_at at_entry behind_at has_at in
      let split = child_split spell old width target pairs spot.before spot.here spot.after cons.row cons.rest stack before_at at_entry behind_at has_at in
      let full : Each (λ p. node_least width ≤ length p.items) (split.before ++ split.here ∷ split.after) = subst (Each (λ p. node_least width ≤ length p.items)) split.is stack.1.full in
      each_weaker (λ p. node_least width ≤ length p.items) (λ p. 0 < length p.items) split.after (λ p long. omega (arith, few, long)) (each_right (λ p. node_least width ≤ length p.items) split.before (split.here ∷ split.after) full).1
