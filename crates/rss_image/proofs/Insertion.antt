-- A pair is put under a node, by what the calls say.
use Rattle.std.proofs.Common.{◌≡◌, ◌≢◌, ◌<◌, ◌≤◌, ◌+◌, ◌-◌, ℕ, suc, zero, List, [], ◌∷◌, ◌++◌, length, take, drop, refl, sym, ◌∙◌, ap, subst, arith, Option, Some, None, true}
use Rattle.std.proofs.lemmas.List.{take-append-drop}
use Rattle.rss_base.specs.Entries.{Entry, IsLess, no_page}
use Rattle.rss_base.specs.Nodes.{node_most}
use Rattle.rss_levels.specs.Entries.{Each, zeros}
use Rattle.rss_levels.specs.Rows.{Part, Row, Cells, HoldsAt, IsStack, first, link, name, names, stored, leaf_entry}
use Rattle.rss_levels.proofs.Replacing.{Replaces}
use Rattle.rss_levels.specs.Spots.{Spot, Inserts, HasRoom, HasFull, rows_at}
use Rattle.rss_levels.proofs.Lists.{each_two}
use Rattle.rss_levels.proofs.Order.{less_or_same, not_not_less, zeros_least}
use Rattle.rss_levels.proofs.Inserting.{leaf_inserts, has_full}
use Rattle.std.proofs.lemmas.List.{length-map}
use Rattle.rss_base.specs.Paged.{Held}
use Rattle.rss_image.specs.Trees.{cells_of}
use Rattle.rss_image.specs.Inserted.{MayInsert}
use Rattle.rss_levels.proofs.Inner.{has_at, child_at, here_still, inner_done, room_below, all_full}
use Rattle.rss_levels.proofs.Spotted.{spot_holds, at_place, each_take, first_drop, stored_long, stored_child, each_pairs, spot_few, spot_some, stored_first}
use Rattle.rss_node.specs.Nodes.{NodeView, IsNodeOf, IsPassed, Spells}
use Rattle.rss_node.specs.declared.pair.Nodes.{Nodes}
use Rattle.rss_node.proofs.Headers.{says_one}
use Rattle.rss_image.specs.Trees.{node_of, spells}
use Rattle.rss_image.specs.Grown.{put_at, Whole, Grown}
use Rattle.rss_image.specs.Inserted.{split_names}
use Rattle.rss_image.specs.declared.halving.Split.{Split}
use Rattle.rss_image.proofs.Calls.{node_is, read_holds}
use Rattle.rss_image.proofs.Halves.{long_put, stored_leaf}
use Rattle.rss_image.proofs.Grows.{whole_replaces, halved_replaces, left_part, right_part}

-- a page holds one node
pub same_node : (of : Nodes) (cells : Cells) (level number next other_next : ℕ) (es others : List Entry) → HoldsAt (spells of) cells level number next es → HoldsAt (spells of) cells level number other_next others → node_of of level number next es ≡ node_of of level number other_next others
same_node of cells level number next other_next es others one two =
    let both : Some one.bytes ≡ Some two.bytes = sym one.held ∙ two.held in
    let bytes : one.bytes ≡ two.bytes = cc in
    says_one two.bytes (node_of of level number next es) (node_of of level number other_next others) (subst (λ (l : List ℕ). spells of l level number next es) bytes one.spells) two.spells refl

-- a page that was read as a node holds no other one
pub node_read : (of : Nodes) (level number : ℕ) (held : Held) (page : List ℕ) (node : NodeView) → cells_of of held number ≡ Some page → IsNodeOf of level number node → Spells page node
    → (next : ℕ) (entries : List Entry) → HoldsAt (spells of) (cells_of of held) level number next entries → node ≡ node_of of level number next entries
node_read of level number held page node there is spelled next entries holds =
    node_is of level number node is
    ∙ same_node of (cells_of of held) level number node.next next node.entries entries (read_holds of level number held page node there spelled is) holds

-- what stands in the place of a node into which an entry was put
pub record GrownAs (of : Nodes) (old new : Cells) (level : ℕ) (here : Part) (next : ℕ) (entries : List Entry) (split : Option Split) : Type 0 where
  pub head : Part
  pub extra : Row
  pub names_are : names extra ≡ split_names split
  pub rep : Replaces (spells of) old new of.width level here next entries head extra

grown_as : (of : Nodes) (old new : Cells) (level : ℕ) (here : Part) (next : ℕ) (entries : List Entry) → 0 < length entries → length here.items ≤ length entries → (split : Option Split) → Grown of level here.number (link level [] next) (stored of.width level entries) old new split → GrownAs of old new level here next entries split
grown_as of old new level here next entries some more None grown = record {
  head = record here { items = entries };
  extra = [];
  names_are = refl;
  rep = whole_replaces of old new here next level entries some more (omega (arith, grown.few, stored_long of.width level entries)) grown;
}
grown_as of old new level here next entries some more (Some split) grown = record {
  head = left_part of old new here next level entries split.pair split.number grown;
  extra = right_part of old new here next level entries split.pair split.number grown ∷ [];
  names_are = refl;
  rep = halved_replaces of old new here next level entries split.pair split.number grown;
}

stored_put : (width level : ℕ) (es : List Entry) (at : ℕ) (e : Entry) → (0 < level → (0 < at) × (0 < length es)) → put_at (stored width level es) at e ≡ stored width level (put_at es at e)
stored_put width zero es at e inner = refl
stored_put width (suc level) es zero e inner = let never : 0 < 0 = (inner (omega arith)).0 in absurd (omega arith)
stored_put width (suc level) [] (suc at) e inner = let never = (inner (omega arith)).1 in absurd (omega arith)
stored_put width (suc level) (x ∷ es) (suc at) e inner = refl

pub put_around : (es : List Entry) (at : ℕ) (e : Entry) → 0 < at → at ≤ length es → put_at es at e ≡ take (at - 1) es ++ at_place es (at - 1) ∷ ((e ∷ []) ++ drop at es)
put_around es zero e some low = absurd (omega arith)
put_around [] (suc at) e some low = absurd (omega arith)
put_around (x ∷ es) (suc zero) e some low = refl
put_around (x ∷ es) (suc (suc at)) e some low =
    let one : suc (suc at) - 1 ≡ suc (suc at - 1) = omega arith in
    ap (λ (l : List Entry). x ∷ l) (put_around es (suc at) e (omega arith) (omega arith))
    ∙ ap (λ (n : ℕ). take n (x ∷ es) ++ at_place (x ∷ es) n ∷ ((e ∷ []) ++ drop (suc at) es)) (sym one)

module _ (of : Nodes) (old : Cells) (level number : ℕ) (pair : List ℕ) (pairs : List (List ℕ)) (spot : Spot (spells of) old of.width level number pair pairs) (node : NodeView) (holds : HoldsAt (spells of) old level number node.next node.entries) where
  same : node_of of level number node.next node.entries ≡ node_of of level number (link level [] (first spot.after no_page)) (stored of.width level spot.here.items)
  same = same_node of old level number node.next (link level [] (first spot.after no_page)) node.entries (stored of.width level spot.here.items) holds (spot_holds (spells of) old of.width level number pair pairs spot)

  pub entries_are : node.entries ≡ stored of.width level spot.here.items
  entries_are = ap (λ (n : NodeView). n.entries) same

  pub next_is : node.next ≡ link level [] (first spot.after no_page)
  next_is = ap (λ (n : NodeView). n.next) same

  pub entries_long : length node.entries ≡ length spot.here.items
  entries_long = ap length entries_are ∙ stored_long of.width level spot.here.items

  -- what was put, in the terms of the row
  regrown : (mid new : Cells) (at : ℕ) (e : Entry) (split : Option Split) → (0 < level → (0 < at) × (0 < length spot.here.items)) → Grown of level number node.next (put_at node.entries at e) mid new split → Grown of level spot.here.number (link level [] (first spot.after no_page)) (stored of.width level (put_at spot.here.items at e)) mid new split
  regrown mid new at e split inner grown =
      let next : ℕ = link level [] (first spot.after no_page) in
      let one : Grown of level number next (put_at node.entries at e) mid new split = subst (λ (n : ℕ). Grown of level number n (put_at node.entries at e) mid new split) next_is grown in
      let two : Grown of level number next (stored of.width level (put_at spot.here.items at e)) mid new split = subst (λ (l : List Entry). Grown of level number next l mid new split) (ap (λ (l : List Entry). put_at l at e) entries_are ∙ stored_put of.width level spot.here.items at e inner) one in
      subst (λ (n : ℕ). Grown of level n next (stored of.width level (put_at spot.here.items at e)) mid new split) (sym spot.number_is) two

  pub leaf_done : (new : Cells) (at : ℕ) (split : Option Split) → level ≡ 0 → Each (λ p. p ≢ pair) pairs → at ≤ length node.entries → ((k : ℕ) → k < at → IsPassed true (at_place node.entries k).pair pair) → (at < length node.entries → IsPassed true (at_place node.entries at).pair pair → ⊥)
      → Grown of level number node.next (put_at node.entries at (record { pair = pair; child = 0 })) old new split → Inserts spot new (split_names split)
  leaf_done new at split is absent low passed above grown =
      let width = of.width in
      let mine : List Entry = spot.here.items in
      let e : Entry = leaf_entry pair in
      let own : node.entries ≡ mine = entries_are ∙ stored_leaf width level mine is in
      let flat : spot.lower ≡ [] = no_rows spot.lower (spot.level_is ∙ is) in
      let xs : List Entry = take at mine in
      let ys : List Entry = drop at mine in
      let cut : mine ≡ xs ++ ys = sym (take-append-drop at mine) in
      let stack : IsStack (spells of) old width pairs ((spot.before ++ spot.here ∷ spot.after) ∷ []) = subst (λ (l : List Row). IsStack (spells of) old width pairs ((spot.before ++ spot.here ∷ spot.after) ∷ l)) flat spot.stack in
      let others : Each (λ d. d.pair ≢ pair) mine = each_pairs (λ p. p ≢ pair) spot.before spot.here spot.after pairs stack.1.pairs_are absent in
      let long : length mine ≡ length node.entries = sym entries_long in
      let not_above : Each (λ d. IsLess pair d.pair → ⊥) xs = each_take (λ d. IsLess pair d.pair → ⊥) mine at (omega (arith, long)) (λ k lt less. passed k lt (subst (λ (l : List Entry). IsLess pair (at_place l k).pair) (sym own) less)) in
      let below : Each (λ d. IsLess d.pair pair) xs = each_two (λ d. IsLess pair d.pair → ⊥) (λ d. d.pair ≢ pair) (λ d. IsLess d.pair pair) xs (λ d up off. less_or_same d.pair pair up off) not_above (each_left_of mine at others) in
      let behind : (d : Entry) (ds : List Entry) → ys ≡ d ∷ ds → IsLess pair d.pair = λ d ds was.
      let there = first_drop mine at d ds was in
      not_not_less pair d.pair (λ not. above (omega (arith, there.0, long)) (λ less. not (subst (λ (x : Entry). IsLess pair x.pair) (sym there.1) (subst (λ (l : List Entry). IsLess pair (at_place l at).pair) own less)))) in
      let put_long : length (put_at mine at e) ≡ suc (length mine) = long_put mine at e (omega (arith, long)) in
      let made = grown_as of old new level spot.here (first spot.after no_page) (put_at mine at e) (omega (arith, put_long)) (omega (arith, put_long)) split (regrown old new at e split (λ inner. absurd (omega (arith, is, inner))) grown) in
      subst (λ (l : List Entry). Inserts spot new l) made.names_are
      (leaf_inserts (spells of) old new width level number pair pairs spot flat xs ys cut below behind made.head made.extra (subst (λ (l : ℕ). Replaces (spells of) old new width l spot.here (first spot.after no_page) (put_at mine at e) made.head made.extra) is made.rep))
    where
      no_rows : (rows : List Row) → length rows ≡ 0 → rows ≡ []
      no_rows [] is = refl
      no_rows (r ∷ rows) is = absurd (omega arith)

      each_left_of : (es : List Entry) (n : ℕ) → Each (λ d. d.pair ≢ pair) es → Each (λ d. d.pair ≢ pair) (take n es)
      each_left_of es zero all = tt
      each_left_of [] (suc n) all = tt
      each_left_of (e ∷ es) (suc n) all = (all.0, each_left_of es n all.1)

-- what a call on the child says, whichever rows it is under
abbrev pub Below : Nodes → ℕ → List ℕ → Cells → ℕ → Cells → List Entry → Type 0
Below of level pair old child new more = (pairs : List (List ℕ)) (spot : Spot (spells of) old of.width level child pair pairs) → Each (λ p. p ≢ pair) pairs → Inserts spot new more

module _ (of : Nodes) (old : Cells) (level number : ℕ) (pair : List ℕ) (pairs : List (List ℕ)) (spot : Spot (spells of) old of.width level number pair pairs) (node : NodeView) (holds : HoldsAt (spells of) old level number node.next node.entries)
    (at : ℕ) (inner : 0 < level) (some : 0 < at) (low : at ≤ length node.entries) (passed : IsPassed true (at_place node.entries (at - 1)).pair pair) (above : at < length node.entries → IsPassed true (at_place node.entries at).pair pair → ⊥) where
  are : node.entries ≡ stored of.width level spot.here.items
  are = entries_are of old level number pair pairs spot node holds

  long : length node.entries ≡ length spot.here.items
  long = entries_long of old level number pair pairs spot node holds

  pub low_here : at ≤ length spot.here.items
  low_here = omega (arith, low, long)

  pub passed_here : IsLess pair (at_place (stored of.width level spot.here.items) (at - 1)).pair → ⊥
  passed_here less = passed (subst (λ (l : List Entry). IsLess pair (at_place l (at - 1)).pair) (sym are) less)

  pub above_here : at < length spot.here.items → (IsLess pair (at_place (stored of.width level spot.here.items) at).pair → ⊥) → ⊥
  above_here lt off = above (omega (arith, lt, long)) (λ less. off (subst (λ (l : List Entry). IsLess pair (at_place l at).pair) are less))

  abbrev pub the_child : Spot (spells of) old of.width (level - 1) (at_place spot.here.items (at - 1)).child pair pairs
  the_child = child_at (spells of) old of.width level number pair pairs spot at inner some low_here passed_here above_here

  pub child_is : (at_place node.entries (at - 1)).child ≡ (at_place spot.here.items (at - 1)).child
  child_is = ap (λ (l : List Entry). (at_place l (at - 1)).child) are ∙ stored_child of.width level spot.here.items (at - 1)

  -- the child's spot, by the number that was read
  pub child_spot : Spot (spells of) old of.width (level - 1) (at_place node.entries (at - 1)).child pair pairs
  child_spot = subst (λ (n : ℕ). Spot (spells of) old of.width (level - 1) n pair pairs) (sym child_is) the_child

  put_below : (mid : Cells) (more : List Entry) → Below of (level - 1) pair old (at_place node.entries (at - 1)).child mid more → Each (λ p. p ≢ pair) pairs → Inserts the_child mid more
  put_below mid more does absent = (subst (λ (n : ℕ). Below of (level - 1) pair old n mid more) child_is does) pairs the_child absent

  pub still : (mid : Cells) (more : List Entry) → Below of (level - 1) pair old (at_place node.entries (at - 1)).child mid more → Each (λ p. p ≢ pair) pairs → HoldsAt (spells of) mid level number (link level [] (first spot.after no_page)) (stored of.width level spot.here.items)
  still mid more does absent = here_still (spells of) old of.width level number pair pairs spot at inner some low_here passed_here above_here mid more (put_below mid more does absent)

  -- where the child was split and the node has no room, there is room for its split
  pub inner_room : (mid : Cells) (e : Entry) (spare : ℕ) → Below of (level - 1) pair old (at_place node.entries (at - 1)).child mid (e ∷ []) → Each (λ p. p ≢ pair) pairs → HasRoom of.width spare (rows_at spot) → node_most of.width ≤ length node.entries → suc level ≤ spare
  inner_room mid e spare does absent room full =
      let ins = put_below mid (e ∷ []) does absent in
      let split : 1 ≡ length ins.extra = sym (ap (λ (l : List Entry). length l) ins.names_are) ∙ length-map ins.extra name in
      let all = all_full (spells of) old of.width level number pair pairs spot at inner some low_here passed_here above_here mid (e ∷ []) ins (omega (arith, split)) (omega (arith, full, long)) in
      omega (arith, room.0 all, spot.level_is)

  pub inner_none : (mid : Cells) → Below of (level - 1) pair old (at_place node.entries (at - 1)).child mid [] → Each (λ p. p ≢ pair) pairs → Inserts spot mid []
  inner_none mid does absent =
      let few : length spot.here.items ≤ node_most of.width = spot_few (spells of) old of.width level number pair pairs spot in
      let mine : List Entry = spot.here.items in
      let ins = put_below mid [] does absent in
      let held = still mid [] does absent in
      let whole : Whole of level spot.here.number (link level [] (first spot.after no_page)) (stored of.width level mine) mid mid = record {
        held = subst (λ (n : ℕ). HoldsAt (spells of) mid level n (link level [] (first spot.after no_page)) (stored of.width level mine)) (sym spot.number_is) held;
        few = omega (arith, few, stored_long of.width level mine);
        keeps = record { same = λ n bytes off was. was };
        loses_none = λ n is. is;
      } in
      let rep = whole_replaces of mid mid spot.here (first spot.after no_page) level mine (omega (arith, some, low_here)) (omega arith) (omega (arith, few, long)) whole in
      inner_done (spells of) old of.width level number pair pairs spot at inner some low_here passed_here above_here mid mid [] ins _ [] (subst (λ (es : List Entry). Replaces (spells of) mid mid of.width level spot.here (first spot.after no_page) es (record spot.here { items = mine }) []) (has_at (spells of) old of.width level number pair pairs spot at inner some low_here passed_here above_here) rep)

  pub inner_some : (mid new : Cells) (e : Entry) (split : Option Split) → Below of (level - 1) pair old (at_place node.entries (at - 1)).child mid (e ∷ []) → Grown of level number node.next (put_at node.entries at e) mid new split → Each (λ p. p ≢ pair) pairs → Inserts spot new (split_names split)
  inner_some mid new e split does grown absent =
      let mine : List Entry = spot.here.items in
      let ins = put_below mid (e ∷ []) does absent in
      let put_long : length (put_at mine at e) ≡ suc (length mine) = long_put mine at e low_here in
      let made = grown_as of mid new level spot.here (first spot.after no_page) (put_at mine at e) (omega (arith, put_long)) (omega (arith, put_long)) split (regrown of old level number pair pairs spot node holds mid new at e split (λ l. (some, omega (arith, some, low_here))) grown) in
      subst (λ (l : List Entry). Inserts spot new l) made.names_are
      (inner_done (spells of) old of.width level number pair pairs spot at inner some low_here passed_here above_here mid new (e ∷ []) ins made.head made.extra (subst (λ (es : List Entry). Replaces (spells of) mid new of.width level spot.here (first spot.after no_page) es made.head made.extra) (put_around mine at e some low_here) made.rep))

-- where a leaf has no room, there is room for its split
pub leaf_room : (of : Nodes) (old : Cells) (level number : ℕ) (pair : List ℕ) (pairs : List (List ℕ)) (spot : Spot (spells of) old of.width level number pair pairs) (node : NodeView) → HoldsAt (spells of) old level number node.next node.entries → level ≡ 0 → (spare : ℕ) → HasRoom of.width spare (rows_at spot) → node_most of.width ≤ length node.entries → 0 < spare
leaf_room of old level number pair pairs spot node holds is spare room full =
    let long = entries_long of old level number pair pairs spot node holds in
    let here = has_full of.width spot.before spot.here spot.after (omega (arith, full, long)) in
    let height : length spot.lower ≡ 0 = spot.level_is ∙ is in
    let all = room.0 (here, none spot.lower height) in
    omega (arith, all)
  where
    none : (rows : List Row) → length rows ≡ 0 → Each (HasFull of.width) rows
    none [] flat = tt
    none (r ∷ rows) flat = absurd (omega arith)

-- the child's spot, where a pair may be put
pub may_insert_below : (of : Nodes) (held : Held) (spare level number : ℕ) (pair : List ℕ) (may : MayInsert of held spare level number pair) (node : NodeView) (holds : HoldsAt (spells of) (cells_of of held) level number node.next node.entries)
    (at : ℕ) (inner : 0 < level) (some : 0 < at) (low : at ≤ length node.entries) (passed : IsPassed true (at_place node.entries (at - 1)).pair pair) (above : at < length node.entries → IsPassed true (at_place node.entries at).pair pair → ⊥)
    → MayInsert of held spare (level - 1) (at_place node.entries (at - 1)).child pair
may_insert_below of held spare level number pair may node holds at inner some low passed above =
    let old : Cells = cells_of of held in
    subst (λ (n : ℕ). MayInsert of held spare (level - 1) n pair) (sym (child_is of old level number pair may.pairs may.spot node holds at inner some low passed above))
    (record {
      pairs = may.pairs;
      spot = the_child of old level number pair may.pairs may.spot node holds at inner some low passed above;
      absent = may.absent;
      room = room_below (spells of) old of.width level number pair may.pairs may.spot at inner some (low_here of old level number pair may.pairs may.spot node holds at inner some low passed above) (passed_here of old level number pair may.pairs may.spot node holds at inner some low passed above) (above_here of old level number pair may.pairs may.spot node holds at inner some low passed above) spare may.room;
    })

-- a search never stops at the first entry of an inner node
pub never_first : (of : Nodes) (old : Cells) (level number : ℕ) (pair : List ℕ) (pairs : List (List ℕ)) (spot : Spot (spells of) old of.width level number pair pairs) (node : NodeView) → HoldsAt (spells of) old level number node.next node.entries → 0 < level → length pair ≡ of.width + 6
    → (0 < length node.entries → IsPassed true (at_place node.entries 0).pair pair → ⊥) → ⊥
never_first of old level number pair pairs spot node holds inner wide stops =
    let some = spot_some (spells of) old of.width level number pair pairs spot inner in
    let are = entries_are of old level number pair pairs spot node holds in
    let long = entries_long of old level number pair pairs spot node holds in
    let first : (at_place node.entries 0).pair ≡ zeros of.width = ap (λ (l : List Entry). (at_place l 0).pair) are ∙ stored_first of.width level spot.here.items inner some in
    stops (omega (arith, some, long)) (λ less. zeros_least pair (of.width + 6) wide (subst (IsLess pair) first less))
