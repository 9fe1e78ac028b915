-- What is known of the node at a spot.
use Rattle.std.proofs.Common.{◌<◌, ◌≤◌, ◌≡◌, ℕ, suc, zero, List, [], ◌∷◌, ◌++◌, length, map, take, drop, refl, sym, ap, subst, arith}
use Rattle.std.specs.Prelude.{slice_index_or}
use Rattle.rss_base.specs.Entries.{Entry, no_page}
use Rattle.rss_base.specs.Nodes.{node_most}
use Rattle.rss_levels.specs.Entries.{Each, zeros}
use Rattle.rss_levels.specs.Rows.{Part, Row, Cells, Spell, HoldsAt, HoldsRow, IsRow, IsStack, HasHead, Begins, items, first, link, leaf_entry, stored}
use Rattle.rss_levels.specs.Spots.{Spot}
use Rattle.rss_levels.proofs.Lists.{each_left, each_right, each_map}
use Rattle.rss_levels.proofs.Held.{held_right, link_append}
use Rattle.std.proofs.lemmas.Grind.{flat_map-append}

module _ (spell : Spell) (cells : Cells) (width : ℕ) where
  pub stack_row : (pairs : List (List ℕ)) (row : Row) (lower : List Row) → IsStack spell cells width pairs (row ∷ lower) → IsRow spell cells width (length lower) row
  stack_row pairs row [] stack = stack.0
  stack_row pairs row (l ∷ lower) stack = stack.0

  pub here_of : (level : ℕ) (before : Row) (here : Part) (after : Row) → HoldsRow spell cells width level (before ++ here ∷ after) no_page → HoldsAt spell cells level here.number (link level [] (first after no_page)) (stored width level here.items)
  here_of level before here after held = subst (λ (n : ℕ). HoldsAt spell cells level here.number n (stored width level here.items)) (link_append level [] after no_page) (held_right spell width level cells before (here ∷ after) no_page held).0

  pub spot_holds : (level number : ℕ) (target : List ℕ) (pairs : List (List ℕ)) (spot : Spot spell cells width level number target pairs) → HoldsAt spell cells level number (link level [] (first spot.after no_page)) (stored width level spot.here.items)
  spot_holds level number target pairs spot =
      let row = stack_row pairs (spot.before ++ spot.here ∷ spot.after) spot.lower spot.stack in
      let held = here_of (length spot.lower) spot.before spot.here spot.after row.held in
      subst (λ (l : ℕ). HoldsAt spell cells l number (link l [] (first spot.after no_page)) (stored width l spot.here.items)) spot.level_is
      (subst (λ (n : ℕ). HoldsAt spell cells (length spot.lower) n (link (length spot.lower) [] (first spot.after no_page)) (stored width (length spot.lower) spot.here.items)) spot.number_is held)

-- ---- entries by their places

pub none : Entry
none = record { pair = []; child = 0 }

-- the entry at a place
abbrev pub at_place : List Entry → ℕ → Entry
at_place es k = slice_index_or es k (record { pair = []; child = 0 })

pub each_take : (P : Entry → Type 0) (es : List Entry) (n : ℕ) → n ≤ length es → ((k : ℕ) → k < n → P (at_place es k)) → Each P (take n es)
each_take P es zero low all = tt
each_take P [] (suc n) low all = absurd (omega arith)
each_take P (e ∷ es) (suc n) low all = (all zero (omega arith), each_take P es n (omega arith) (λ k lt. all (suc k) (omega arith)))

pub first_drop : (es : List Entry) (n : ℕ) (d : Entry) (ds : List Entry) → drop n es ≡ d ∷ ds → (n < length es) × (d ≡ at_place es n)
first_drop [] zero d ds is = absurd (cc)
first_drop [] (suc n) d ds is = absurd (cc)
first_drop (e ∷ es) zero d ds is = (omega arith, cc)
first_drop (e ∷ es) (suc n) d ds is = let rest = first_drop es n d ds is in (omega (arith, rest.0), rest.1)

pub split_place : (es : List Entry) (n : ℕ) → n < length es → es ≡ take n es ++ at_place es n ∷ drop (suc n) es
split_place [] n low = absurd (omega arith)
split_place (e ∷ es) zero low = refl
split_place (e ∷ es) (suc n) low = ap (λ (l : List Entry). e ∷ l) (split_place es n (omega arith))

-- the entries of an inner node as they are stored: the first has zeros, and each its own child
pub stored_pair : (width level : ℕ) (es : List Entry) (k : ℕ) → (0 < level → 0 < k) → (at_place (stored width level es) k).pair ≡ (at_place es k).pair
stored_pair width zero es k not_first = refl
stored_pair width (suc level) [] k not_first = refl
stored_pair width (suc level) (e ∷ es) zero not_first = let never : 0 < 0 = not_first (omega arith) in absurd (omega arith)
stored_pair width (suc level) (e ∷ es) (suc k) not_first = refl

pub stored_child : (width level : ℕ) (es : List Entry) (k : ℕ) → (at_place (stored width level es) k).child ≡ (at_place es k).child
stored_child width zero es k = refl
stored_child width (suc level) [] k = refl
stored_child width (suc level) (e ∷ es) zero = refl
stored_child width (suc level) (e ∷ es) (suc k) = refl

pub stored_long : (width level : ℕ) (es : List Entry) → length (stored width level es) ≡ length es
stored_long width zero es = refl
stored_long width (suc level) [] = refl
stored_long width (suc level) (e ∷ es) = refl

pub begins_place : (low : List ℕ) (es : List Entry) → Begins low es → (0 < length es) × ((at_place es 0).pair ≡ low)
begins_place low [] begins = absurd begins
begins_place low (e ∷ es) begins = (omega arith, begins)

-- the pairs of a leaf are among those of the tree
pub each_pairs : (P : List ℕ → Type 0) (before : Row) (here : Part) (after : Row) (pairs : List (List ℕ)) → items (before ++ here ∷ after) ≡ map leaf_entry pairs → Each P pairs → Each (λ d. P d.pair) here.items
each_pairs P before here after pairs are all =
    let every : Each (λ d. P d.pair) (items (before ++ here ∷ after)) = subst (Each (λ d. P d.pair)) (sym are) (each_map (λ d. P d.pair) leaf_entry pairs all) in
    each_left (λ d. P d.pair) here.items (items after) (each_right (λ d. P d.pair) (items before) (here.items ++ items after) (subst (Each (λ d. P d.pair)) (flat_map-append (λ (p : Part). p.items) before (here ∷ after)) every))

-- an inner node has entries
stack_head : (spell : Spell) (cells : Cells) (width : ℕ) (pairs : List (List ℕ)) (before : Row) (here : Part) (after : Row) (lower : List Row) → 0 < length lower → IsStack spell cells width pairs ((before ++ here ∷ after) ∷ lower) → HasHead here
stack_head spell cells width pairs before here after [] some stack = absurd (omega arith)
stack_head spell cells width pairs before here after (l ∷ lower) some stack = (each_right HasHead before (here ∷ after) stack.1.heads).0

module _ (spell : Spell) (cells : Cells) (width level number : ℕ) (target : List ℕ) (pairs : List (List ℕ)) (spot : Spot spell cells width level number target pairs) where
  pub spot_some : 0 < level → 0 < length spot.here.items
  spot_some inner = (begins_place spot.here.low spot.here.items (stack_head spell cells width pairs spot.before spot.here spot.after spot.lower (omega (arith, inner, spot.level_is)) spot.stack)).0

  pub spot_few : length spot.here.items ≤ node_most width
  spot_few = (each_right (λ p. length p.items ≤ node_most width) spot.before (spot.here ∷ spot.after) (stack_row spell cells width pairs (spot.before ++ spot.here ∷ spot.after) spot.lower spot.stack).few).0

-- the first entry of an inner node, as it is stored, has zeros
pub stored_first : (width level : ℕ) (es : List Entry) → 0 < level → 0 < length es → (at_place (stored width level es) 0).pair ≡ zeros width
stored_first width zero es inner some = absurd (omega arith)
stored_first width (suc level) [] inner some = absurd (omega arith)
stored_first width (suc level) (e ∷ es) inner some = refl
