-- Two neighbours that are evened out, by what the calls say.
use Rattle.std.proofs.Common.{◌≡◌, ◌≢◌, inl, inr, ⊎_elim, ◌<◌, ◌≤◌, ◌+◌, ◌-◌, ◌/◌, ℕ, suc, zero, List, [], ◌∷◌, ◌++◌, length, take, drop, true, refl, sym, ◌∙◌, ap, subst, arith, Some}
use Rattle.std.specs.Prelude.{is_some}
use Rattle.std.proofs.lemmas.List.{append-nil, take_all, drop_all, drop-append-le, length-append, length-drop}
use Rattle.rss_base.specs.DiskRule.{IsTold}
use Rattle.rss_base.specs.Paged.{Held, page_key}
use Rattle.rss_base.specs.Steps.{PagesView, PagesStep, no_page}
use Rattle.rss_base.specs.declared.key.PageKey.{PageKey}
use Rattle.rss_base.specs.declared.key.Space.TheVariants.{Image}
use Rattle.rss_base.specs.Entries.{Entry}
use Rattle.rss_base.specs.Nodes.{node_most, node_least}
use Rattle.rss_levels.specs.Entries.{IsIn, zeros}
use Rattle.rss_levels.specs.Rows.{Part, Row, Cells, HoldsAt, Begins, link, stored}
use Rattle.rss_levels.specs.Spots.{Keeps, LosesNone}
use Rattle.rss_levels.proofs.Pages.{keeps_then, loses_between}
use Rattle.rss_levels.proofs.Spotted.{stored_long}
use Rattle.rss_node.specs.Nodes.{NodeView, spliced, entry_at}
use Rattle.rss_node.specs.declared.pair.Nodes.{Nodes}
use Rattle.rss_image.specs.Trees.{cells_of, node_of, spells, HoldsNode, HasNode, KeepsPages, LosesNoPage, Writes}
use Rattle.rss_image.specs.Removed.{first_named, AreNeighbours, HasNeighbours, second_names, EvensTo, Joined, Shared}
use Rattle.rss_image.proofs.Calls.{keeps_none, held_is_mapped}
use Rattle.rss_image.proofs.Insertion.{same_node}
use Rattle.rss_image.proofs.Halves.{begins_entry}

-- ---- lists

take_past : (ls rs : List Entry) (n : ℕ) → length ls ≤ n → take n (ls ++ rs) ≡ ls ++ take (n - length ls) rs
take_past [] rs n low = let same : n ≡ n - 0 = omega arith in ap (λ (m : ℕ). take m rs) same
take_past (l ∷ ls) rs zero low = absurd (omega arith)
take_past (l ∷ ls) rs (suc n) low = let same : n - length ls ≡ suc n - suc (length ls) = omega arith in ap (λ (m : List Entry). l ∷ m) (take_past ls rs n (omega arith) ∙ ap (λ (m : ℕ). ls ++ take m rs) same)

drop_past : (ls rs : List Entry) (n : ℕ) → length ls ≤ n → drop n (ls ++ rs) ≡ drop (n - length ls) rs
drop_past [] rs n low = let same : n ≡ n - 0 = omega arith in ap (λ (m : ℕ). drop m rs) same
drop_past (l ∷ ls) rs zero low = absurd (omega arith)
drop_past (l ∷ ls) rs (suc n) low = let same : n - length ls ≡ suc n - suc (length ls) = omega arith in drop_past ls rs n (omega arith) ∙ ap (λ (m : ℕ). drop m rs) same

pub long_take : (n : ℕ) (es : List Entry) → n ≤ length es → length (take n es) ≡ n
long_take zero es low = refl
long_take (suc n) [] low = absurd (omega arith)
long_take (suc n) (e ∷ es) low = ap (λ (m : ℕ). suc m) (long_take n es (omega arith))

join_parts : (n : ℕ) (es : List Entry) → take n es ++ drop n es ≡ es
join_parts zero es = refl
join_parts (suc n) [] = refl
join_parts (suc n) (e ∷ es) = ap (λ (l : List Entry). e ∷ l) (join_parts n es)

module _ (ls rs : List Entry) (count more : ℕ) (left : count ≡ length ls) (right : more ≡ length rs) (fewer : count < (count + more) / 2) where
  half_is : length (ls ++ rs) / 2 ≡ (count + more) / 2
  half_is = omega (arith, length-append ls rs, left, right)

  pub share_left : spliced ls count 0 (take ((count + more) / 2 - count) rs) ≡ take (length (ls ++ rs) / 2) (ls ++ rs)
  share_left =
      let news : List Entry = take ((count + more) / 2 - count) rs in
      (λ i. take_all count ls (omega (arith, left)) i ++ (news ++ drop_all (count + 0) ls (omega (arith, left)) i))
      ∙ ap (λ (l : List Entry). ls ++ l) (append-nil news)
      ∙ ap (λ (n : ℕ). ls ++ take ((count + more) / 2 - n) rs) left
      ∙ sym (take_past ls rs ((count + more) / 2) (omega (arith, left, fewer)))
      ∙ ap (λ (n : ℕ). take n (ls ++ rs)) (sym half_is)

  pub share_right : spliced rs 0 ((count + more) / 2 - count) [] ≡ drop (length (ls ++ rs) / 2) (ls ++ rs)
  share_right =
      let none : 0 + ((count + more) / 2 - count) ≡ (count + more) / 2 - count = omega arith in
      ap (λ (n : ℕ). drop n rs) none
      ∙ ap (λ (n : ℕ). drop ((count + more) / 2 - n) rs) left
      ∙ sym (drop_past ls rs ((count + more) / 2) (omega (arith, left, fewer)))
      ∙ ap (λ (n : ℕ). drop n (ls ++ rs)) (sym half_is)

-- the second of two nodes, before which entries of the first are put
pub share_back : (ls rs : List Entry) (count more : ℕ) → count ≡ length ls → more ≡ length rs → (count + more) / 2 ≤ count → spliced rs 0 0 (take (count - (count + more) / 2) (drop ((count + more) / 2) ls)) ≡ drop (length (ls ++ rs) / 2) (ls ++ rs)
share_back ls rs count more left right back =
    let half : ℕ = (count + more) / 2 in
    let half_is : half ≡ length (ls ++ rs) / 2 = omega (arith, length-append ls rs, left, right) in
    ap (λ (l : List Entry). l ++ rs) (take_all (count - half) (drop half ls) (omega (arith, length-drop half ls, left)))
    ∙ sym (drop-append-le half ls rs (omega (arith, left, back)))
    ∙ ap (λ (n : ℕ). drop n (ls ++ rs)) half_is

pub named_long : (level : ℕ) (pair : List ℕ) (es : List Entry) → length (first_named level pair es) ≡ length es
named_long zero pair es = refl
named_long (suc level) pair [] = refl
named_long (suc level) pair (e ∷ es) = refl

named_stored : (width level : ℕ) (low pair : List ℕ) (es : List Entry) → (0 < level → Begins low es) → low ≡ pair → first_named level pair (stored width level es) ≡ es
named_stored width zero low pair es begins same = refl
named_stored width (suc level) low pair [] begins same = refl
named_stored width (suc level) low pair (e ∷ es) begins same = let first : pair ≡ e.pair = sym same ∙ sym (begins (omega arith)) in λ i. record { pair = first i; child = e.child } ∷ es

named_zeros : (width level : ℕ) (es : List Entry) → first_named level (zeros width) es ≡ stored width level es
named_zeros width zero es = refl
named_zeros width (suc level) [] = refl
named_zeros width (suc level) (e ∷ es) = refl

stored_append : (width level : ℕ) (es more : List Entry) → 0 < length es → stored width level es ++ more ≡ stored width level (es ++ more)
stored_append width zero es more some = refl
stored_append width (suc level) [] more some = absurd (omega arith)
stored_append width (suc level) (e ∷ es) more some = refl

stored_take : (width level n : ℕ) (es : List Entry) → take n (stored width level es) ≡ stored width level (take n es)
stored_take width zero n es = refl
stored_take width (suc level) zero [] = refl
stored_take width (suc level) (suc n) [] = refl
stored_take width (suc level) zero (e ∷ es) = refl
stored_take width (suc level) (suc n) (e ∷ es) = refl

stored_drop : (width level n : ℕ) (es : List Entry) → 0 < n → drop n (stored width level es) ≡ drop n es
stored_drop width zero n es some = refl
stored_drop width (suc level) zero es some = absurd (omega arith)
stored_drop width (suc level) (suc n) [] some = refl
stored_drop width (suc level) (suc n) (e ∷ es) some = refl

link_cons : (level : ℕ) (p q : Part) (row : Row) (end : ℕ) → p.number ≡ q.number → link level (p ∷ row) end ≡ link level (q ∷ row) end
link_cons zero p q row end same = same
link_cons (suc level) p q row end same = refl

-- ---- what was written

pub joined_of : (of : Nodes) (level number other : ℕ) (node : NodeView) (old one new : PagesView) → Writes of level number node old one → KeepsPages of (other ∷ []) one new → LosesNoPage of (other ∷ []) [] one new → number ≢ other → Joined of level number other node.next node.entries (cells_of of old.held) (cells_of of new.held)
joined_of of level number other node old one new wrote gave loses apart = record {
  held = record { bytes = wrote.holds.bytes; held = gave.same number wrote.holds.bytes (λ is. ⊎_elim (λ (same : other ≡ number). apart (sym same)) (λ (none : ⊥). none) is) wrote.holds.held; spells = wrote.holds.spells };
  keeps = keeps_then (number ∷ []) (other ∷ []) (number ∷ other ∷ []) (cells_of of old.held) (cells_of of one.held) (cells_of of new.held) (λ n is. ⊎_elim (λ (same : number ≡ n). inl same) (λ (none : ⊥). absurd none) is) (λ n is. inr is) wrote.keeps gave;
  loses_none = λ n is. loses_between (number ∷ []) (other ∷ []) [] [] (cells_of of one.held) (cells_of of new.held) loses n (loses_between [] (number ∷ []) (number ∷ []) (other ∷ []) (cells_of of old.held) (cells_of of one.held) wrote.loses_none n is);
}

pub shared_of : (of : Nodes) (level number other : ℕ) (left right : NodeView) (entries : List Entry) (left_next right_next : ℕ) (old one new : PagesView) → Writes of level number left old one → Writes of level other right one new → number ≢ other
    → left.next ≡ left_next → left.entries ≡ take (length entries / 2) entries → right.next ≡ right_next → right.entries ≡ first_named level (zeros of.width) (drop (length entries / 2) entries)
    → Shared of level number other left_next right_next entries (cells_of of old.held) (cells_of of new.held)
shared_of of level number other left right entries left_next right_next old one new first then apart ln le rn re =
    let there : HoldsNode of new.held level number left.next left.entries = record { bytes = first.holds.bytes; held = then.keeps.same number first.holds.bytes (λ is. ⊎_elim (λ (same : other ≡ number). apart (sym same)) (λ (none : ⊥). none) is) first.holds.held; spells = first.holds.spells } in
    record {
      left_held = subst (λ (l : List Entry). HoldsNode of new.held level number left_next l) le (subst (λ (n : ℕ). HoldsNode of new.held level number n left.entries) ln there);
      right_held = subst (λ (l : List Entry). HoldsNode of new.held level other right_next l) re (subst (λ (n : ℕ). HoldsNode of new.held level other n right.entries) rn then.holds);
      keeps = keeps_then (number ∷ []) (other ∷ []) (number ∷ other ∷ []) (cells_of of old.held) (cells_of of one.held) (cells_of of new.held) (λ n is. ⊎_elim (λ (same : number ≡ n). inl same) (λ (none : ⊥). absurd none) is) (λ n is. inr is) first.keeps then.keeps;
      loses_none = λ n is. loses_between (number ∷ []) (other ∷ []) (other ∷ []) [] (cells_of of one.held) (cells_of of new.held) then.loses_none n (loses_between [] (number ∷ []) (number ∷ []) (other ∷ []) (cells_of of old.held) (cells_of of one.held) first.loses_none n is);
    }

-- ---- the neighbours that were read

-- they stand in two pages
pub two_apart : {of : Nodes} {cells : Cells} {level number other : ℕ} {pair : List ℕ} → HasNeighbours of cells level number other pair → number ≢ other
two_apart has same = has.are.near.apart (has.are.left_is ∙ same ∙ sym has.are.right_is)

pub left_node : (of : Nodes) (held : Held) (level number other : ℕ) (pair : List ℕ) → HasNeighbours of (cells_of of held) level number other pair → HasNode of held level number
left_node of held level number other pair has = record {
  next = link level (has.right ∷ []) has.next;
  entries = stored of.width level has.left.items;
  holds = subst (λ (n : ℕ). HoldsNode of held level n (link level (has.right ∷ []) has.next) (stored of.width level has.left.items)) has.are.left_is has.are.near.held.0;
}

pub right_node : (of : Nodes) (held : Held) (level number other : ℕ) (pair : List ℕ) → HasNeighbours of (cells_of of held) level number other pair → HasNode of held level other
right_node of held level number other pair has = record {
  next = link level [] has.next;
  entries = stored of.width level has.right.items;
  holds = subst (λ (n : ℕ). HoldsNode of held level n (link level [] has.next) (stored of.width level has.right.items)) has.are.right_is has.are.near.held.1.0;
}

module _ (of : Nodes) (old : Cells) (level number other : ℕ) (pair : List ℕ) (left right : Part) (next : ℕ) (are : AreNeighbours of old level number other pair left right next) (one two : NodeView) (first : HoldsAt (spells of) old level number one.next one.entries) (then : HoldsAt (spells of) old level other two.next two.entries) where
  width : ℕ
  width = of.width

  left_same : node_of of level number one.next one.entries ≡ node_of of level number (link level (right ∷ []) next) (stored of.width level left.items)
  left_same = same_node of old level number one.next (link level (right ∷ []) next) one.entries (stored of.width level left.items) first (subst (λ (n : ℕ). HoldsAt (spells of) old level n (link level (right ∷ []) next) (stored of.width level left.items)) are.left_is are.near.held.0)

  right_same : node_of of level other two.next two.entries ≡ node_of of level other (link level [] next) (stored of.width level right.items)
  right_same = same_node of old level other two.next (link level [] next) two.entries (stored of.width level right.items) then (subst (λ (n : ℕ). HoldsAt (spells of) old level n (link level [] next) (stored of.width level right.items)) are.right_is are.near.held.1.0)

  left_are : one.entries ≡ stored of.width level left.items
  left_are = ap (λ (n : NodeView). n.entries) left_same

  right_are : two.entries ≡ stored of.width level right.items
  right_are = ap (λ (n : NodeView). n.entries) right_same

  pub left_long : length one.entries ≡ length left.items
  left_long = ap length left_are ∙ stored_long of.width level left.items

  pub right_long : length two.entries ≡ length right.items
  right_long = ap length right_are ∙ stored_long of.width level right.items

  pub left_full : 0 < length one.entries
  left_full = omega (arith, left_long, are.near.left_some)

  pub right_full : 0 < length two.entries
  right_full = omega (arith, right_long, are.near.right_some)

  named : first_named level pair two.entries ≡ right.items
  named = ap (first_named level pair) right_are ∙ named_stored of.width level right.low pair right.items are.near.head are.begins

  all_are : one.entries ++ first_named level pair two.entries ≡ stored of.width level (left.items ++ right.items)
  all_are = (λ i. left_are i ++ named i) ∙ stored_append of.width level left.items right.items are.near.left_some

  back : (new : Cells) → Keeps (number ∷ other ∷ []) old new → Keeps (left.number ∷ right.number ∷ []) old new
  back new keeps = record { same = λ n bytes off was. keeps.same n bytes (λ is. off (⊎_elim (λ (same : number ≡ n). inl (are.left_is ∙ same)) (λ (more : IsIn (other ∷ []) n). inr (⊎_elim (λ (same : other ≡ n). inl (are.right_is ∙ same)) (λ (none : ⊥). absurd none) more)) is)) was }

  pub joined_evens : (new : Cells) → length one.entries + length two.entries ≤ node_most of.width → Joined of level number other two.next (one.entries ++ first_named level pair two.entries) old new → EvensTo of old new level left right next []
  joined_evens new room joined =
      let both : List Entry = left.items ++ right.items in
      let long : length both ≡ length left.items + length right.items = length-append left.items right.items in
      let head : Part = record { number = left.number; low = left.low; items = both } in
      let there = subst (λ (l : List Entry). HoldsAt (spells of) new level number two.next l) all_are joined.held in
      let there_next = subst (λ (n : ℕ). HoldsAt (spells of) new level number n (stored of.width level both)) (ap (λ (n : NodeView). n.next) right_same) there in
      record {
        head = head;
        extra = [];
        names_are = refl;
        evens = record {
          number_is = refl;
          low_is = refl;
          entries_are = append-nil both;
          some = omega (arith, long, are.near.left_some);
          heads = tt;
          few_extra = omega arith;
          extra_number = tt;
          held = (subst (λ (n : ℕ). HoldsAt (spells of) new level n (link level [] next) (stored of.width level both)) (sym are.left_is) there_next, tt);
          few = (omega (arith, long, room, left_long, right_long), tt);
          full = λ was. (⊎_elim (λ (l : node_least of.width ≤ length left.items). omega (arith, long, l)) (λ (r : node_least of.width ≤ length right.items). omega (arith, long, r)) was, tt);
          keeps = back new joined.keeps;
          loses_none = (λ n is. subst (λ (m : ℕ). LosesNone (m ∷ right.number ∷ []) (m ∷ []) old new) (sym are.left_is) (subst (λ (m : ℕ). LosesNone (number ∷ m ∷ []) (number ∷ []) old new) (sym are.right_is) joined.loses_none) n is);
        };
      }

  pub shared_evens : (new : Cells) (second : List ℕ) → length one.entries ≤ node_most of.width → length two.entries ≤ node_most of.width → node_most of.width < length one.entries + length two.entries
      → Shared of level number other one.next two.next (one.entries ++ first_named level pair two.entries) old new
      → second ≡ (entry_at (drop (length (one.entries ++ first_named level pair two.entries) / 2) (one.entries ++ first_named level pair two.entries)) 0).pair
      → EvensTo of old new level left right next (second_names (Some second) other)
  shared_evens new second few_left few_right much shared second_is =
      let both : List Entry = left.items ++ right.items in
      let own : List Entry = one.entries ++ first_named level pair two.entries in
      let long : length both ≡ length left.items + length right.items = length-append left.items right.items in
      let h : ℕ = length both / 2 in
      let some_left = are.near.left_some in
      let some_right = are.near.right_some in
      let one_more : 0 < h = omega (arith, long, some_left, some_right) in
      let half_same : length own / 2 ≡ h = ap (λ (l : List Entry). length l / 2) all_are ∙ ap (λ (n : ℕ). n / 2) (stored_long of.width level both) in
      let taken : take (length own / 2) own ≡ stored of.width level (take h both) = (λ i. take (half_same i) (all_are i)) ∙ stored_take of.width level h both in
      let dropped : drop (length own / 2) own ≡ drop h both = (λ i. drop (half_same i) (all_are i)) ∙ stored_drop of.width level h both one_more in
      let low_long : length (take h both) ≡ h = long_take h both (omega arith) in
      let high_long : length (drop h both) ≡ length both - h = length-drop h both in
      let low : List ℕ = (entry_at (drop h both) 0).pair in
      let low_is : second ≡ low = second_is ∙ ap (λ (l : List Entry). (entry_at l 0).pair) dropped in
      let head : Part = record { number = left.number; low = left.low; items = take h both } in
      let extra : Part = record { number = right.number; low = low; items = drop h both } in
      let left_there = subst (λ (l : List Entry). HoldsAt (spells of) new level number one.next l) taken shared.left_held in
      let left_next : one.next ≡ link level (extra ∷ []) next = ap (λ (n : NodeView). n.next) left_same ∙ link_cons level right extra [] next refl in
      let left_now = subst (λ (n : ℕ). HoldsAt (spells of) new level number n (stored of.width level (take h both))) left_next left_there in
      let right_there = subst (λ (l : List Entry). HoldsAt (spells of) new level other two.next l) (ap (first_named level (zeros of.width)) dropped ∙ named_zeros of.width level (drop h both)) shared.right_held in
      let right_now = subst (λ (n : ℕ). HoldsAt (spells of) new level other n (stored of.width level (drop h both))) (ap (λ (n : NodeView). n.next) right_same) right_there in
      record {
        head = head;
        extra = extra ∷ [];
        names_are = λ i. record { pair = sym low_is i; child = are.right_is i } ∷ [];
        evens = record {
          number_is = refl;
          low_is = refl;
          entries_are = ap (λ (l : List Entry). take h both ++ l) (append-nil (drop h both)) ∙ join_parts h both;
          some = omega (arith, low_long, one_more);
          heads = (begins_entry low (drop h both) (omega (arith, high_long, long, some_left, some_right)) refl, tt);
          few_extra = omega arith;
          extra_number = (refl, tt);
          held = (
            subst (λ (n : ℕ). HoldsAt (spells of) new level n (link level (extra ∷ []) next) (stored of.width level (take h both))) (sym are.left_is) left_now,
            (subst (λ (n : ℕ). HoldsAt (spells of) new level n (link level [] next) (stored of.width level (drop h both))) (sym are.right_is) right_now, tt),
          );
          few = (omega (arith, low_long, long, few_left, few_right, left_long, right_long), (omega (arith, high_long, long, few_left, few_right, left_long, right_long), tt));
          full = λ was. (omega (arith, low_long, long, much, left_long, right_long), (omega (arith, high_long, long, much, left_long, right_long), tt));
          keeps = back new shared.keeps;
          loses_none = (λ n is. subst (λ (m : ℕ). LosesNone (m ∷ right.number ∷ []) (m ∷ right.number ∷ []) old new) (sym are.left_is) (subst (λ (m : ℕ). LosesNone (number ∷ m ∷ []) (number ∷ m ∷ []) old new) (sym are.right_is) shared.loses_none) n is);
        };
      }

-- a node that was held before calls that touched nothing
pub was_holding : (of : Nodes) (level number next : ℕ) (entries : List Entry) (old new : PagesView) → cells_of of new.held ≡ cells_of of old.held → HoldsNode of new.held level number next entries → HoldsNode of old.held level number next entries
was_holding of level number next entries old new same holds = subst (λ (cs : Cells). HoldsAt (spells of) cs level number next entries) same holds

pub node_seen : (of : Nodes) (level number : ℕ) (old new : PagesView) → cells_of of new.held ≡ cells_of of old.held → HasNode of old.held level number → HasNode of new.held level number
node_seen of level number old new same has = record { next = has.next; entries = has.entries; holds = subst (λ (cs : Cells). HoldsAt (spells of) cs level number has.next has.entries) (sym same) has.holds }

-- and its page is mapped still
pub still_mapped : {asks outs asks_then outs_then : ℕ} (of : Nodes) (level number : ℕ) (node : NodeView) {old one two : PagesView} → PagesStep no_page asks outs old one → PagesStep no_page asks_then outs_then one two → IsTold old.disk
    → ((key : PageKey) → is_some (two.held key) ≡ two.mapped key) → HoldsNode of old.held level number node.next node.entries → two.mapped (page_key of.segment Image number) ≡ true
still_mapped of level number node {old = old} {one = one} {two = two} first then told law holds =
    held_is_mapped of two level number node.next node.entries law
    (was_holding of level number node.next node.entries two old (sym (keeps_none of one two then (first.passes.leaves.told.0 told) ∙ keeps_none of old one first told)) holds)
