-- The children of a node that were seen, from one on.
use Rattle.std.proofs.Common.{◌≡◌, ◌<◌, ◌≤◌, ◌+◌, ◌-◌, ℕ, suc, zero, List, [], ◌∷◌, ◌++◌, length, take, drop, refl, sym, ◌∙◌, ap, subst, arith, append_assoc}
use Rattle.std.proofs.lemmas.Grind.{flat_map-append}
use Rattle.std.proofs.lemmas.List.{length-append}
use Rattle.rss_base.specs.Paged.{Held}
use Rattle.rss_base.specs.Entries.{Entry, no_page}
use Rattle.rss_base.specs.Nodes.{node_least}
use Rattle.rss_levels.specs.Entries.{Each, Pairwise, zeros}
use Rattle.rss_levels.specs.Rows.{Part, Row, Cells, HoldsAt, IsBefore, first, marks, marks_of, name, names, stored}
use Rattle.rss_levels.specs.Nested.{IsUnder, AreUnder, leaf_under, inner_under, none_under, more_under}
use Rattle.rss_levels.proofs.Held.{first_append}
use Rattle.rss_levels.proofs.Lists.{each_right, pairwise_right}
use Rattle.rss_levels.proofs.Nesting.{split_names, split_under}
use Rattle.rss_levels.proofs.Spotted.{at_place, split_place, stored_long}
use Rattle.rss_node.specs.declared.pair.Nodes.{Nodes}
use Rattle.rss_image.specs.Trees.{cells_of}
use Rattle.rss_image.specs.Fitting.{IsFine}
use Rattle.rss_image.specs.Checking.{IsSeen, StandsBefore, IsSeenUnder, IsSeenLeaf, with_bound, leaf_part}
use Rattle.rss_image.specs.declared.checking.Seen.{Seen}
use Rattle.rss_image.proofs.Alike.{named_begins, named_long, named_stored, stored_named, same_entries, same_next, same_row}
use Rattle.rss_image.proofs.Sighted.{drop_before, drop_length, drop_none}

abbrev pub with_page : Seen → Seen
with_page seen = record seen { pages = seen.pages + 1 }

-- one page more was counted
pub page_seen : (width other : ℕ) (row : Row) (pages : ℕ) (seen : Seen) → width ≡ other → IsSeen width row pages seen → IsSeen other row (pages + 1) (with_page seen)
page_seen width other row pages seen same is = subst (λ (w : ℕ). IsSeen w row (pages + 1) (with_page seen)) same (record {
  next_is = is.next_is;
  low_is = is.low_is;
  pages_are = ap (λ (n : ℕ). n + 1) is.pages_are;
  entries_are = record { first_is = is.entries_are.first_is; pairs_are = is.entries_are.pairs_are; repeats_are = is.entries_are.repeats_are };
})

pages_moved : (width : ℕ) (row : Row) (pages others : ℕ) (seen : Seen) → pages ≡ others → IsSeen width row pages seen → IsSeen width row others seen
pages_moved width row pages others seen same is = subst (λ (n : ℕ). IsSeen width row n seen) same is

row_moved : (width : ℕ) (row other : Row) (pages : ℕ) (seen : Seen) → row ≡ other → IsSeen width row pages seen → IsSeen width other pages seen
row_moved width row other pages seen same is = subst (λ (r : Row). IsSeen width r pages seen) same is

-- the page's own count
pub own_pages : (width : ℕ) (row : Row) (pages : ℕ) (seen : Seen) → IsSeen width row pages seen → IsSeen width row seen.pages seen
own_pages width row pages seen is = pages_moved width row pages seen.pages seen (sym is.pages_are) is

pub rises_behind : (leaves row : Row) → Pairwise IsBefore (marks (leaves ++ row)) → Pairwise IsBefore (marks row)
rises_behind leaves row all = pairwise_right IsBefore (marks leaves) (marks row) (subst (Pairwise IsBefore) (flat_map-append marks_of leaves row) all)

named_child : (low : List ℕ) (es : List Entry) (k : ℕ) → (at_place (with_bound low es) k).child ≡ (at_place es k).child
named_child low [] k = refl
named_child low (e ∷ es) zero = refl
named_child low (e ∷ es) (suc k) = refl

-- What stands there has a child before those that were seen.
pub record HasChild (of : Nodes) (slots : ℕ) (held : Held) (level number : ℕ) (bound : List ℕ) (fewest : ℕ) (row : Row) (seen : Seen) : Type 0 where
  pub stands : StandsBefore of slots held level number bound fewest row
  pub room : seen.pages + length stands.ns ≤ slots

pub child_now : (of : Nodes) (slots slots_now : ℕ) (held held_now : Held) (level number : ℕ) (bound : List ℕ) (fewest fewest_now : ℕ) (row : Row) (seen : Seen) → slots_now ≡ slots → held_now ≡ held → fewest_now ≡ fewest → HasChild of slots held level number bound fewest row seen → HasChild of slots_now held_now level number bound fewest_now row seen
child_now of slots slots_now held held_now level number bound fewest fewest_now row seen one two three is =
    subst (λ (n : ℕ). HasChild of n held_now level number bound fewest_now row seen) (sym one)
    (subst (λ (h : Held). HasChild of slots h level number bound fewest_now row seen) (sym two)
    (subst (λ (n : ℕ). HasChild of slots held level number bound n row seen) (sym three) is))

pub passed_then : (of : Nodes) (slots slots_now : ℕ) (held held_now : Held) (level number : ℕ) (bound : List ℕ) (fewest fewest_now : ℕ) (row : Row) (pages : ℕ) (seen : Seen) → slots_now ≡ slots → held_now ≡ held → fewest_now ≡ fewest → IsSeenUnder of slots_now held_now level number bound fewest_now row pages seen → IsSeenUnder of slots held level number bound fewest row pages seen
passed_then of slots slots_now held held_now level number bound fewest fewest_now row pages seen one two three is =
    subst (λ (n : ℕ). IsSeenUnder of n held level number bound fewest row pages seen) one
    (subst (λ (h : Held). IsSeenUnder of slots_now h level number bound fewest row pages seen) two
    (subst (λ (n : ℕ). IsSeenUnder of slots_now held_now level number bound n row pages seen) three is))

module _ (of : Nodes) (slots : ℕ) (held : Held) where
  abbrev cells : Cells
  cells = cells_of of held

  abbrev Holds : ℕ → ℕ → ℕ → List Entry → Type 0
  Holds level number next es = HoldsAt (IsFine of slots) cells level number next es

  pub record Walked (level : ℕ) (low : List ℕ) (entries : List Entry) (at : ℕ) (row : Row) (pages : ℕ) (seen : Seen) : Type 0 where
    pub parts : Row
    pub ns : List ℕ
    pub leaves : Row
    pub names_are : names parts ≡ drop at (with_bound low entries)
    pub full : Each (λ q. node_least of.width ≤ length q.items) parts
    pub under : AreUnder (IsFine of slots) cells of.width level parts ns leaves (first row no_page)
    pub rises : Pairwise IsBefore (marks (leaves ++ row))
    pub seen_is : IsSeen of.width (leaves ++ row) (pages + length ns) seen

  pub none_walked : (level : ℕ) (low : List ℕ) (entries : List Entry) (at : ℕ) (row : Row) (pages : ℕ) (seen : Seen) → at ≡ length entries → IsSeen of.width row pages seen → Pairwise IsBefore (marks row) → Walked level low entries at row pages seen
  none_walked level low entries at row pages seen is seen_is rises = record {
    parts = [];
    ns = [];
    leaves = [];
    names_are = sym (drop_length (with_bound low entries) at (is ∙ sym (named_long low entries)));
    full = tt;
    under = none_under;
    rises = rises;
    seen_is = pages_moved of.width row pages (pages + 0) seen (omega arith) seen_is;
  }

  pub more_walked : (level : ℕ) (low : List ℕ) (entries : List Entry) (at : ℕ) (row : Row) (pages number : ℕ) (bound : List ℕ) (before after : Seen) → 0 < at → at ≤ length entries → number ≡ (at_place entries (at - 1)).child → bound ≡ (at_place (with_bound low entries) (at - 1)).pair
      → (walked : Walked level low entries at row pages before) → IsSeenUnder of slots held level number bound (node_least of.width) (walked.leaves ++ row) before.pages after → Walked level low entries (at - 1) row pages after
  more_walked level low entries at row pages number bound before after some within child_is bound_is walked passed =
      let s = passed.stands in
      let long = named_long low entries in
      let here : name s.part ≡ at_place (with_bound low entries) (at - 1) = λ i. record { pair = (s.low_is ∙ bound_is) i; child = (s.number_is ∙ child_is ∙ sym (named_child low entries (at - 1))) i } in
      let back = drop_before (with_bound low entries) at some (omega (arith, within, long)) in
      let joined : (s.leaves ++ walked.leaves) ++ row ≡ s.leaves ++ (walked.leaves ++ row) = append_assoc s.leaves walked.leaves row in
      record {
        parts = s.part ∷ walked.parts;
        ns = s.ns ++ walked.ns;
        leaves = s.leaves ++ walked.leaves;
        names_are = (λ i. here i ∷ walked.names_are i) ∙ sym back;
        full = (s.filled, walked.full);
        under = more_under (subst (λ (n : ℕ). IsUnder (IsFine of slots) cells of.width level s.part s.ns s.leaves n) (first_append walked.leaves row no_page) s.under) walked.under;
        rises = subst (λ (r : Row). Pairwise IsBefore (marks r)) (sym joined) s.rises;
        seen_is = row_moved of.width (s.leaves ++ (walked.leaves ++ row)) ((s.leaves ++ walked.leaves) ++ row) (pages + length (s.ns ++ walked.ns)) after (sym joined)
            (pages_moved of.width (s.leaves ++ (walked.leaves ++ row)) (before.pages + length s.ns) (pages + length (s.ns ++ walked.ns)) after (omega (arith, walked.seen_is.pages_are, length-append s.ns walked.ns)) passed.seen_is);
      }

  -- all children were seen, and so the node
  pub all_walked : (level number : ℕ) (low : List ℕ) (fewest next at : ℕ) (entries : List Entry) (row : Row) (pages : ℕ) (seen : Seen) → 0 < level → at ≡ 0 → Holds level number next entries → fewest ≤ length entries → Walked (level - 1) low entries at row (pages + 1) seen → IsSeenUnder of slots held level number low fewest row pages seen
  all_walked zero number low fewest next at entries row pages seen inner none holds many walked = absurd (omega (arith, inner))
  all_walked (suc level) number low fewest next at entries row pages seen inner none holds many walked =
      let branch = holds.spells.fit.branch (omega arith) in
      let as_stored : entries ≡ stored of.width (suc level) (with_bound low entries) = sym (stored_named of.width level low entries branch.begins) in
      let there : Holds (suc level) number no_page (stored of.width (suc level) (with_bound low entries)) = subst (λ (n : ℕ). Holds (suc level) number n (stored of.width (suc level) (with_bound low entries))) branch.last (subst (Holds (suc level) number next) as_stored holds) in
      let same : suc level - 1 ≡ level = omega arith in
      let under = subst (λ (l : ℕ). AreUnder (IsFine of slots) cells of.width l walked.parts walked.ns walked.leaves (first row no_page)) same walked.under in
      record {
        stands = record {
          part = record { number = number; low = low; items = with_bound low entries };
          ns = number ∷ walked.ns;
          leaves = walked.leaves;
          number_is = refl;
          low_is = refl;
          filled = omega (arith, many, named_long low entries);
          under = inner_under there (named_begins low (zeros of.width) entries branch.begins) (sym (walked.names_are ∙ drop_none (with_bound low entries) at none)) walked.full under;
          rises = walked.rises;
        };
        seen_is = pages_moved of.width (walked.leaves ++ row) (pages + 1 + length walked.ns) (pages + suc (length walked.ns)) seen (omega arith) walked.seen_is;
      }

  pub leaf_passed : (level number : ℕ) (low : List ℕ) (fewest next : ℕ) (entries : List Entry) (row : Row) (pages : ℕ) (seen : Seen) → level ≡ 0 → Holds level number next entries → fewest ≤ length entries → IsSeenLeaf of.width next (leaf_part number low entries) row (pages + 1) seen → IsSeenUnder of slots held level number low fewest row pages seen
  leaf_passed (suc level) number low fewest next entries row pages seen leaf holds many passed = absurd (omega (arith, leaf))
  leaf_passed zero number low fewest next entries row pages seen leaf holds many passed = record {
    stands = record {
      part = leaf_part number low entries;
      ns = number ∷ [];
      leaves = leaf_part number low entries ∷ [];
      number_is = refl;
      low_is = refl;
      filled = many;
      under = leaf_under (subst (λ (n : ℕ). Holds 0 number n entries) passed.leads holds);
      rises = passed.rises;
    };
    seen_is = passed.seen_is;
  }

  -- ---- what doesn't fit

  some_pages : (level : ℕ) (p : Part) (ns : List ℕ) (leaves : Row) (end : ℕ) → IsUnder (IsFine of slots) cells of.width level p ns leaves end → 0 < length ns
  some_pages _ p _ _ end (leaf_under holds) = omega arith
  some_pages _ p _ leaves end (inner_under holds head are full under) = omega arith

  -- the pages are used up
  pub never_more : (level number : ℕ) (low : List ℕ) (fewest : ℕ) (row : Row) (pages : ℕ) → slots ≤ pages → (stands : StandsBefore of slots held level number low fewest row) → pages + length stands.ns ≤ slots → ⊥
  never_more level number low fewest row pages used stands room =
      let some = some_pages level stands.part stands.ns stands.leaves (first row no_page) stands.under in
      absurd (omega (arith, used, room, some))

  -- the node of the page doesn't fit by itself
  pub never_held : (level number : ℕ) (low : List ℕ) (fewest : ℕ) (row : Row) → ((next : ℕ) (entries : List Entry) → Holds level number next entries → fewest ≤ length entries → ⊥) → StandsBefore of slots held level number low fewest row → ⊥
  never_held level number low fewest row none stands = at level stands.part stands.ns stands.leaves (first row no_page) stands.number_is stands.filled none stands.under
    where
      at : (level : ℕ) (p : Part) (ns : List ℕ) (leaves : Row) (end : ℕ) → p.number ≡ number → fewest ≤ length p.items → ((next : ℕ) (entries : List Entry) → Holds level number next entries → fewest ≤ length entries → ⊥) → IsUnder (IsFine of slots) cells of.width level p ns leaves end → ⊥
      at _ p _ _ end same many none (leaf_under holds) = none end p.items (subst (λ (n : ℕ). Holds 0 n end p.items) same holds) many
      at _ p _ leaves end same many none (inner_under {level = l} holds head are full under) =
          none no_page (stored of.width (suc l) p.items) (subst (λ (n : ℕ). Holds (suc l) n no_page (stored of.width (suc l) p.items)) same holds) (omega (arith, many, stored_long of.width (suc l) p.items))

  pub record IsLeafBefore (part : Part) (row : Row) (next : ℕ) : Type 0 where
    pub leads : next ≡ first row no_page
    pub rises : Pairwise IsBefore (marks (part ∷ row))

  -- the leaf that stands there is the one of the page
  pub leaf_before : (level number : ℕ) (low : List ℕ) (fewest next : ℕ) (entries : List Entry) (row : Row) → level ≡ 0 → Holds level number next entries → StandsBefore of slots held level number low fewest row → IsLeafBefore (leaf_part number low entries) row next
  leaf_before level number low fewest next entries row leaf holds stands = at level stands.part stands.ns stands.leaves leaf stands.number_is stands.low_is stands.rises holds stands.under
    where
      at : (level : ℕ) (p : Part) (ns : List ℕ) (leaves : Row) → level ≡ 0 → p.number ≡ number → p.low ≡ low → Pairwise IsBefore (marks (leaves ++ row)) → Holds level number next entries → IsUnder (IsFine of slots) cells of.width level p ns leaves (first row no_page) → IsLeafBefore (leaf_part number low entries) row next
      at _ p _ _ leaf same low_is rises holds (leaf_under there) =
          let mine : Holds 0 number (first row no_page) p.items = subst (λ (n : ℕ). Holds 0 n (first row no_page) p.items) same there in
          let items : p.items ≡ entries = same_entries of slots cells 0 number (first row no_page) next p.items entries mine holds in
          let part : p ≡ leaf_part number low entries = λ i. record { number = same i; low = low_is i; items = items i } in
          record { leads = sym (same_next of slots cells 0 number (first row no_page) next p.items entries mine holds); rises = subst (λ (q : Part). Pairwise IsBefore (marks (q ∷ row))) part rises }
      at _ p _ leaves leaf same low_is rises holds (inner_under there head are full under) = absurd (omega (arith, leaf))

  child_before : (level : ℕ) (low : List ℕ) (entries : List Entry) (at : ℕ) (row : Row) (pages child : ℕ) (bound : List ℕ) (seen : Seen) → 0 < at → at ≤ length entries → child ≡ (at_place entries (at - 1)).child → bound ≡ (at_place (with_bound low entries) (at - 1)).pair
      → (walked : Walked level low entries at row (pages + 1) seen) (parts : Row) (ns : List ℕ) (leaves : Row) → names parts ≡ with_bound low entries → Each (λ q. node_least of.width ≤ length q.items) parts → AreUnder (IsFine of slots) cells of.width level parts ns leaves (first row no_page)
      → Pairwise IsBefore (marks (leaves ++ row)) → pages + suc (length ns) ≤ slots → HasChild of slots held level child bound (node_least of.width) (walked.leaves ++ row) seen
  child_before level low entries at row pages child bound seen some within child_is bound_is walked parts ns leaves are full under rises room =
      let all : List Entry = with_bound low entries in
      let place : suc (at - 1) ≡ at = omega (arith, some) in
      let long = named_long low entries in
      let parted : all ≡ take (at - 1) all ++ at_place all (at - 1) ∷ drop at all = split_place all (at - 1) (omega (arith, some, within, long)) ∙ ap (λ (k : ℕ). take (at - 1) all ++ at_place all (at - 1) ∷ drop k all) place in
      let cut = split_names (take (at - 1) all) (at_place all (at - 1) ∷ drop at all) parts (are ∙ parted) in
      let two = split_under (IsFine of slots) cells of.width level cut.one cut.two ns leaves (first row no_page) (subst (λ (r : Row). AreUnder (IsFine of slots) cells of.width level r ns leaves (first row no_page)) cut.is under) in
      let joined : leaves ++ row ≡ two.leaves_one ++ (two.leaves_two ++ row) = ap (λ (r : Row). r ++ row) two.leaves_is ∙ append_assoc two.leaves_one two.leaves_two row in
      let behind = rises_behind two.leaves_one (two.leaves_two ++ row) (subst (λ (r : Row). Pairwise IsBefore (marks r)) joined rises) in
      let longer = ap length two.ns_is ∙ length-append two.ns_one two.ns_two in
      at_child cut.two two.ns_two two.leaves_two cut.two_is (each_right (λ q. node_least of.width ≤ length q.items) cut.one cut.two (subst (Each (λ q. node_least of.width ≤ length q.items)) cut.is full)) two.under_two behind (omega (arith, room, longer))
    where
      at_child : (parts : Row) (ns : List ℕ) (leaves : Row) → names parts ≡ at_place (with_bound low entries) (at - 1) ∷ drop at (with_bound low entries) → Each (λ q. node_least of.width ≤ length q.items) parts → AreUnder (IsFine of slots) cells of.width level parts ns leaves (first row no_page)
          → Pairwise IsBefore (marks (leaves ++ row)) → pages + suc (length ns) ≤ slots → HasChild of slots held level child bound (node_least of.width) (walked.leaves ++ row) seen
      at_child [] ns leaves are full under rises room = absurd (cc)
      at_child (c ∷ rest) _ _ are full (more_under {ns = ns} {ms = ms} {leaves = leaves} {more = more} here behind) rises room =
          let mine : name c ≡ at_place (with_bound low entries) (at - 1) = cc in
          let others : names rest ≡ drop at (with_bound low entries) = cc in
          let same = same_row of slots cells level rest walked.parts ms walked.ns more walked.leaves (first row no_page) (first row no_page) (others ∙ sym walked.names_are) behind walked.under in
          let next : first more (first row no_page) ≡ first (walked.leaves ++ row) no_page = ap (λ (r : Row). first r (first row no_page)) same.leaves_are ∙ sym (first_append walked.leaves row no_page) in
          let joined : (leaves ++ more) ++ row ≡ leaves ++ (walked.leaves ++ row) = append_assoc leaves more row ∙ ap (λ (r : Row). leaves ++ (r ++ row)) same.leaves_are in
          record {
            stands = record {
              part = c;
              ns = ns;
              leaves = leaves;
              number_is = ap (λ (e : Entry). e.child) mine ∙ named_child low entries (at - 1) ∙ sym child_is;
              low_is = ap (λ (e : Entry). e.pair) mine ∙ sym bound_is;
              filled = full.0;
              under = subst (λ (n : ℕ). IsUnder (IsFine of slots) cells of.width level c ns leaves n) next here;
              rises = subst (λ (r : Row). Pairwise IsBefore (marks r)) joined rises;
            };
            room = omega (arith, room, length-append ns ms, ap length same.ns_are, walked.seen_is.pages_are);
          }

  pub has_child : (level number : ℕ) (low : List ℕ) (fewest next : ℕ) (entries : List Entry) (at : ℕ) (row : Row) (pages child : ℕ) (bound : List ℕ) (seen : Seen) → 0 < level → 0 < at → at ≤ length entries → child ≡ (at_place entries (at - 1)).child → bound ≡ (at_place (with_bound low entries) (at - 1)).pair
      → Holds level number next entries → (walked : Walked (level - 1) low entries at row (pages + 1) seen) (stands : StandsBefore of slots held level number low fewest row) → pages + length stands.ns ≤ slots → HasChild of slots held (level - 1) child bound (node_least of.width) (walked.leaves ++ row) seen
  has_child level number low fewest next entries at row pages child bound seen inner some within child_is bound_is holds walked stands room = down level stands.part stands.ns stands.leaves inner stands.number_is stands.low_is stands.rises holds room walked stands.under
    where
      down : (level : ℕ) (p : Part) (ns : List ℕ) (leaves : Row) → 0 < level → p.number ≡ number → p.low ≡ low → Pairwise IsBefore (marks (leaves ++ row)) → Holds level number next entries → pages + length ns ≤ slots → (walked : Walked (level - 1) low entries at row (pages + 1) seen)
          → IsUnder (IsFine of slots) cells of.width level p ns leaves (first row no_page) → HasChild of slots held (level - 1) child bound (node_least of.width) (walked.leaves ++ row) seen
      down _ p _ _ inner same low_is rises holds room walked (leaf_under there) = absurd (omega (arith, inner))
      down _ p _ leaves inner same low_is rises holds room walked (inner_under {level = l} {row = parts} {ns = ns} there head are full under) =
          let mine : Holds (suc l) number no_page (stored of.width (suc l) p.items) = subst (λ (n : ℕ). Holds (suc l) n no_page (stored of.width (suc l) p.items)) same there in
          let as_stored : stored of.width (suc l) p.items ≡ entries = same_entries of slots cells (suc l) number no_page next (stored of.width (suc l) p.items) entries mine holds in
          let named : p.items ≡ with_bound low entries = sym (named_stored of.width l p.low p.items head) ∙ (λ i. with_bound (low_is i) (as_stored i)) in
          let level_is : l ≡ suc l - 1 = omega arith in
          child_before (suc l - 1) low entries at row pages child bound seen some within child_is bound_is walked parts ns leaves (sym are ∙ named) full (subst (λ (k : ℕ). AreUnder (IsFine of slots) cells of.width k parts ns leaves (first row no_page)) level_is under) rises room
