-- A tree that was seen, as its rows.
use Rattle.std.proofs.Common.{◌≡◌, ◌<◌, ◌≤◌, ◌+◌, ◌-◌, ℕ, suc, zero, List, [], ◌∷◌, ◌++◌, length, map, drop, take, replicate, Bool, true, refl, sym, ◌∙◌, ap, subst, arith}
use Rattle.std.specs.Int.{w32, from_be_bytes}
use Rattle.std.specs.Ordering.{nat_cmp, is_lt}
use Rattle.std.specs.Cmp.{nat_cmp_is}
use Rattle.std.specs.declared.cmp.Ordering.TheVariants.{Less}
use Rattle.std.proofs.lemmas.Grind.{flat_map-append}
use Rattle.std.proofs.lemmas.List.{append-nil, drop-replicate, length-append, length-map, length-replicate, map-append}
use Rattle.rss_base.specs.Paged.{Held}
use Rattle.rss_base.specs.Steps.{PagesView}
use Rattle.rss_base.specs.Entries.{Entry, no_page}
use Rattle.rss_base.specs.Nodes.{node_most, node_least}
use Rattle.rss_levels.specs.Entries.{Each, Pairwise, zeros}
use Rattle.rss_levels.specs.Rows.{Part, Row, Cells, HoldsAt, IsBefore, IsLeaves, HasHead, Begins, first, items, leaf_entry, marks, names, numbers, pages, stored}
use Rattle.rss_levels.specs.Nested.{IsUnder, AreUnder, leaf_under, inner_under, none_under, more_under}
use Rattle.rss_levels.specs.Spots.{IsMade, AreMade}
use Rattle.rss_levels.proofs.Lists.{each_append, each_left, each_right, each_weaker}
use Rattle.rss_levels.proofs.Spotted.{stored_long}
use Rattle.rss_node.specs.Nodes.{AreNodes, NodeView, count_of, entries_from}
use Rattle.rss_node.specs.declared.pair.Nodes.{Nodes}
use Rattle.rss_node.proofs.Codec.{length_entries}
use Rattle.rss_image.specs.Trees.{cells_of, spells}
use Rattle.rss_image.specs.Images.{nodes_of, has_slot, has_page}
use Rattle.rss_image.specs.Agreement.{AreNumbered}
use Rattle.rss_image.specs.Fitting.{IsFine, IsFineEntry}
use Rattle.rss_image.specs.Checking.{IsCensus, IsSeenUnder, StandsBefore, pairs_in, first_repeat}
use Rattle.rss_image.specs.declared.image.Image.{Image}
use Rattle.rss_image.specs.declared.checking.Seen.{Seen}
use Rattle.rss_image.proofs.Halves.{many}
use Rattle.rss_image.proofs.Once.{tree_distinct}
use Rattle.rss_image.proofs.Putting.{zeros_slot}
use Rattle.rss_image.proofs.Rowed.{join, leaf_at, join_length, leaf_join, made_join, IsPile, pile_join, none_pile, none_leaf, none_pages, stack_of}

-- zeros name the first page
pub zeros_page : (width slots : ℕ) → 0 < slots → has_page width slots (zeros width) ≡ true
zeros_page width slots some =
    let rest : width + 6 - width ≡ 6 = omega arith in
    ap (λ (l : List ℕ). is_lt (nat_cmp (from_be_bytes w32 (take 4 l)) slots)) (drop-replicate width (width + 6) 0 ∙ ap (λ (n : ℕ). replicate n 0) rest)
    ∙ ap is_lt (sym (nat_cmp_is 0 slots Less some))

pages_count : (x y : Row) (xs ys : List Row) (n : ℕ) → length xs ≡ n → length ys ≡ n → length (pages ((x ++ y) ∷ join xs ys)) ≡ length (pages (x ∷ xs)) + length (pages (y ∷ ys))
pages_count x y xs ys n one two =
    let own : length (numbers (x ++ y)) ≡ length (numbers x) + length (numbers y) = ap length (map-append (λ (p : Part). p.number) x y) ∙ length-append (numbers x) (numbers y) in
    let below = rest xs ys n one two in
    omega (arith, own, below, length-append (numbers (x ++ y)) (pages (join xs ys)), length-append (numbers x) (pages xs), length-append (numbers y) (pages ys))
  where
    rest : (xs ys : List Row) (n : ℕ) → length xs ≡ n → length ys ≡ n → length (pages (join xs ys)) ≡ length (pages xs) + length (pages ys)
    rest [] ys n one two = omega arith
    rest (x ∷ xs) [] zero one two = absurd (omega (arith, one))
    rest (x ∷ xs) [] (suc n) one two = absurd (omega (arith, two))
    rest (x ∷ xs) (y ∷ ys) zero one two = absurd (omega (arith, one))
    rest (x ∷ xs) (y ∷ ys) (suc n) one two =
        let own : length (numbers (x ++ y)) ≡ length (numbers x) + length (numbers y) = ap length (map-append (λ (p : Part). p.number) x y) ∙ length-append (numbers x) (numbers y) in
        let below = rest xs ys n (omega (arith, one)) (omega (arith, two)) in
        omega (arith, own, below, length-append (numbers (x ++ y)) (pages (join xs ys)), length-append (numbers x) (pages xs), length-append (numbers y) (pages ys))

none_made : (good : List ℕ → Bool) (level : ℕ) → AreMade good (replicate level [])
none_made good zero = tt
none_made good (suc level) = (tt, none_made good level)

leaf_pairs : (es : List Entry) → Each (λ e. e.child ≡ 0) es → es ≡ map leaf_entry (pairs_in es)
leaf_pairs [] all = refl
leaf_pairs (e ∷ es) all = λ i. record { pair = e.pair; child = all.0 i } ∷ leaf_pairs es all.1 i

module _ (held : Held) (of : Nodes) (fit : AreNodes of) (numbered : AreNumbered (cells_of of held)) (slots : ℕ) where
  abbrev cells : Cells
  cells = cells_of of held

  abbrev Holds : ℕ → ℕ → ℕ → List Entry → Type 0
  Holds level number next es = HoldsAt (IsFine of slots) cells level number next es

  plain : (level number next : ℕ) (es : List Entry) → Holds level number next es → HoldsAt (spells of) cells level number next es
  plain level number next es holds = record { bytes = holds.bytes; held = holds.held; spells = holds.spells.spelled }

  few : (level number next : ℕ) (es : List Entry) → Holds level number next (stored of.width level es) → length es ≤ node_most of.width
  few level number next es holds =
      let page : List ℕ = holds.bytes in
      let is : entries_from of.width (count_of page) (drop 32 page) ≡ stored of.width level es = ap (λ (n : NodeView). n.entries) holds.spells.spelled.says in
      let long : length (stored of.width level es) ≡ count_of page = ap length (sym is) ∙ length_entries of.width (count_of page) (drop 32 page) in
      omega (arith, long, stored_long of.width level es, holds.spells.spelled.formed.few)

  -- a test that all entries pass that fit
  abbrev Passes : (List ℕ → Bool) → Type 0
  Passes good = (level : ℕ) (e : Entry) → IsFineEntry of.width slots level e → good e.pair ≡ true

  record UnderRows (level : ℕ) (row : Row) (ns : List ℕ) (leaves : Row) (end : ℕ) : Type 0 where
    lower : List Row
    tall : length lower ≡ level
    pile : IsPile held of fit numbered level end row lower
    leaves_are : leaf_at row lower ≡ leaves
    count : length (pages (row ∷ lower)) ≡ length ns
    made : (good : List ℕ → Bool) → Passes good → Each (λ p. good p.low ≡ true) row → AreMade good (row ∷ lower)

  leaf_rows : (p : Part) (end : ℕ) → Holds 0 p.number end p.items → UnderRows 0 (p ∷ []) (p.number ∷ []) (p ∷ []) end
  leaf_rows p end holds = record {
    lower = [];
    tall = refl;
    pile = ((plain 0 p.number end p.items holds, tt), (few 0 p.number end p.items holds, tt));
    leaves_are = refl;
    count = refl;
    made = λ good pass lows. (((lows.0, each_weaker (IsFineEntry of.width slots 0) (λ e. good e.pair ≡ true) p.items (pass 0) holds.spells.fit.entries_are), tt), tt);
  }

  inner_rows : (level : ℕ) (p : Part) (row : Row) (ns : List ℕ) (leaves : Row) (end : ℕ) → Holds (suc level) p.number no_page (stored of.width (suc level) p.items) → HasHead p → p.items ≡ names row → Each (λ q. node_least of.width ≤ length q.items) row → UnderRows level row ns leaves end → UnderRows (suc level) (p ∷ []) (p.number ∷ ns) leaves end
  inner_rows level p row ns leaves end holds head are full rest = record {
    lower = row ∷ rest.lower;
    tall = ap (λ (n : ℕ). suc n) rest.tall;
    pile = ((plain (suc level) p.number no_page (stored of.width (suc level) p.items) holds, tt), (few (suc level) p.number no_page p.items holds, tt), record { heads = (head, tt); names_are = append-nil p.items ∙ are; full = full }, rest.pile);
    leaves_are = rest.leaves_are;
    count = ap (λ (n : ℕ). suc n) rest.count;
    made = λ good pass lows.
        let mine = entries_made good p.low p.items (λ e is. pass (suc level) e is) lows.0 head holds.spells.fit.entries_are in
        (((lows.0, mine), tt), rest.made good pass (low_names good row (subst (Each (λ e. good e.pair ≡ true)) are mine)));
  }
    where
      entries_made : (good : List ℕ → Bool) (low : List ℕ) (es : List Entry) → ((e : Entry) → IsFineEntry of.width slots (suc level) e → good e.pair ≡ true) → good low ≡ true → Begins low es → Each (IsFineEntry of.width slots (suc level)) (stored of.width (suc level) es) → Each (λ e. good e.pair ≡ true) es
      entries_made good low [] pass fine begins all = tt
      entries_made good low (e ∷ es) pass fine begins all = (ap good begins ∙ fine, each_weaker (IsFineEntry of.width slots (suc level)) (λ d. good d.pair ≡ true) es pass all.1)

      low_names : (good : List ℕ → Bool) (qs : Row) → Each (λ e. good e.pair ≡ true) (names qs) → Each (λ q. good q.low ≡ true) qs
      low_names good [] all = tt
      low_names good (q ∷ qs) all = (all.0, low_names good qs all.1)

  no_rows : (level end : ℕ) → UnderRows level [] [] [] end
  no_rows level end = record {
    lower = replicate level [];
    tall = length-replicate level [];
    pile = none_pile held of fit numbered level end;
    leaves_are = none_leaf held of fit numbered level;
    count = ap length (none_pages held of fit numbered level);
    made = λ good pass lows. (tt, none_made good level);
  }

  beside : (level : ℕ) (x y : Row) (ns ms : List ℕ) (leaves more : Row) (end : ℕ) → UnderRows level x ns leaves (first more end) → UnderRows level y ms more end → UnderRows level (x ++ y) (ns ++ ms) (leaves ++ more) end
  beside level x y ns ms leaves more end one two =
      let tall = one.tall ∙ sym two.tall in
      let pile = subst (λ (r : Row). IsPile held of fit numbered level (first r end) x one.lower) (sym two.leaves_are) one.pile in
      record {
        lower = join one.lower two.lower;
        tall = join_length one.lower two.lower level one.tall two.tall;
        pile = pile_join held of fit numbered level end x y one.lower two.lower pile two.pile;
        leaves_are = leaf_join x y one.lower two.lower tall ∙ (λ i. one.leaves_are i ++ two.leaves_are i);
        count = omega (arith, pages_count x y one.lower two.lower level one.tall two.tall, one.count, two.count, length-append ns ms);
        made = λ good pass lows.
            let left = one.made good pass (each_left (λ p. good p.low ≡ true) x y lows) in
            let right = two.made good pass (each_right (λ p. good p.low ≡ true) x y lows) in
            (each_append (IsMade good) x y left.0 right.0, made_join good one.lower two.lower left.1 right.1);
      }

  mutual
    under_rows : (level : ℕ) (p : Part) (ns : List ℕ) (leaves : Row) (end : ℕ) → IsUnder (IsFine of slots) cells of.width level p ns leaves end → UnderRows level (p ∷ []) ns leaves end
    under_rows _ p _ _ end (leaf_under holds) = leaf_rows p end holds
    under_rows _ p _ leaves end (inner_under {level = level} {row = row} {ns = ns} holds head are full under) = inner_rows level p row ns leaves end holds head are full (row_rows level row ns leaves end under)

    row_rows : (level : ℕ) (row : Row) (ns : List ℕ) (leaves : Row) (end : ℕ) → AreUnder (IsFine of slots) cells of.width level row ns leaves end → UnderRows level row ns leaves end
    row_rows level [] _ _ end none_under = no_rows level end
    row_rows level (p ∷ row) _ _ end (more_under {ns = ns} {ms = ms} {leaves = leaves} {more = more} here rest) =
        beside level (p ∷ []) row ns ms leaves more end (under_rows level p ns leaves (first more end) here) (row_rows level row ms more end rest)

  mutual
    childless_under : (level : ℕ) (p : Part) (ns : List ℕ) (leaves : Row) (end : ℕ) → IsUnder (IsFine of slots) cells of.width level p ns leaves end → Each (λ e. e.child ≡ 0) (items leaves)
    childless_under _ p _ _ end (leaf_under holds) = each_append (λ e. e.child ≡ 0) p.items [] (each_weaker (IsFineEntry of.width slots 0) (λ e. e.child ≡ 0) p.items (λ e is. is.childless refl) holds.spells.fit.entries_are) tt
    childless_under _ p _ leaves end (inner_under {level = level} {row = row} {ns = ns} holds head are full under) = childless_row level row ns leaves end under

    childless_row : (level : ℕ) (row : Row) (ns : List ℕ) (leaves : Row) (end : ℕ) → AreUnder (IsFine of slots) cells of.width level row ns leaves end → Each (λ e. e.child ≡ 0) (items leaves)
    childless_row level [] _ _ end none_under = tt
    childless_row level (p ∷ row) _ _ end (more_under {ns = ns} {ms = ms} {leaves = leaves} {more = more} here rest) =
        subst (Each (λ e. e.child ≡ 0)) (sym (flat_map-append (λ (p : Part). p.items) leaves more))
        (each_append (λ e. e.child ≡ 0) (items leaves) (items more) (childless_under level p ns leaves (first more end) here) (childless_row level row ms more end rest))

-- ---- the census

pub census_is : (image : Image) (view : PagesView) (seen : Seen) (fewest : ℕ) → AreNodes (nodes_of image) → AreNumbered (cells_of (nodes_of image) view.held) → 0 < view.slots → 0 < image.levels → (1 < image.levels → fewest ≡ 2)
    → IsSeenUnder (nodes_of image) view.slots view.held (image.levels - 1) image.root (zeros image.width) fewest [] 0 seen → IsCensus image view (record { pairs = seen.pairs; pages = seen.pages; repeats = seen.repeats })
census_is image view seen fewest fit numbered some high two passed =
    let of : Nodes = nodes_of image in
    let s : StandsBefore of view.slots view.held (image.levels - 1) image.root (zeros image.width) fewest [] = passed.stands in
    let level : ℕ = image.levels - 1 in
    let rows = under_rows view.held of fit numbered view.slots level s.part s.ns s.leaves no_page s.under in
    let nil = append-nil s.leaves in
    let pairs : List (List ℕ) = pairs_in (items s.leaves) in
    let leaf : Row = leaf_at (s.part ∷ []) rows.lower in
    let childless = childless_under view.held of fit numbered view.slots level s.part s.ns s.leaves no_page s.under in
    let leaves : IsLeaves pairs leaf = record {
      pairs_are = ap (λ (r : Row). items r) rows.leaves_are ∙ leaf_pairs (items s.leaves) childless;
      rises = subst (λ (r : Row). Pairwise IsBefore (marks r)) (nil ∙ sym rows.leaves_are) s.rises;
    } in
    let stack = stack_of view.held of fit numbered pairs level (s.part ∷ []) rows.lower rows.tall rows.pile leaves in
    let full = many image.width fit.narrow in
    let entries = passed.seen_is.entries_are in
    let counted : 0 + length s.ns ≡ length s.ns = omega arith in
    record {
      pairs = pairs;
      tree = record {
        top = s.part;
        lower = rows.lower;
        tree = record {
          stack = stack;
          at_root = s.number_is;
          low = s.low_is;
          high = omega (arith, rows.tall, high);
          branches = λ pos. let more = two (omega (arith, rows.tall, pos)) in omega (arith, more, s.filled);
          distinct = tree_distinct of (cells_of of view.held) pairs s.part rows.lower (omega (arith, full)) stack;
        };
        made = rows.made (has_slot image.width) (λ l e is. is.slot) (ap (has_slot image.width) s.low_is ∙ zeros_slot image.width, tt);
      };
      within = rows.made (has_page image.width view.slots) (λ l e is. is.page) (ap (has_page image.width view.slots) s.low_is ∙ zeros_page image.width view.slots some, tt);
      count = entries.pairs_are ∙ ap (λ (r : Row). length (items r)) nil ∙ sym (length-map (items s.leaves) (λ (e : Entry). e.pair));
      pages_count = passed.seen_is.pages_are ∙ counted ∙ sym rows.count;
      repeats = entries.repeats_are ∙ ap (λ (r : Row). first_repeat image.width (pairs_in (items r))) nil;
    }
