-- A node of which a child is evened out with a neighbour.
use Rattle.std.proofs.Common.{◌≡◌, ◌⊎◌, inl, inr, ⊎_elim, ◌<◌, ◌≤◌, ◌+◌, ◌-◌, ℕ, suc, zero, List, [], ◌∷◌, ◌++◌, length, take, drop, refl, sym, ◌∙◌, ap, subst, arith, Some}
use Rattle.std.specs.Prelude.{Result, Ok, Err, OnOk}
use Rattle.std.proofs.lemmas.List.{length-append, length-map}
use Rattle.rss_base.specs.Entries.{Entry, no_page}
use Rattle.rss_base.specs.Nodes.{node_least}
use Rattle.rss_levels.specs.Entries.{IsIn, zeros}
use Rattle.rss_levels.specs.Rows.{Row, Cells, HoldsAt, Begins, name, numbers, pages, first, stored}
use Rattle.rss_levels.specs.Spots.{Keeps, LosesNone}
use Rattle.rss_levels.specs.Removes.{Neighbours, Evens, Lowered, Filled}
use Rattle.rss_levels.proofs.Evening.{SplitsTwo}
use Rattle.rss_levels.proofs.Removing.{two_of, list_two, neighbours_of, lowered_even}
use Rattle.rss_levels.proofs.Pages.{in_left, in_right}
use Rattle.rss_levels.proofs.Spotted.{at_place, split_place, stored_pair, stored_child, stored_long}
use Rattle.rss_node.specs.Nodes.{spliced, entry_at}
use Rattle.rss_node.specs.declared.pair.Nodes.{Nodes}
use Rattle.rss_image.specs.Trees.{spells}
use Rattle.rss_image.specs.Removed.{AreNeighbours, EvensTo, MendsTo}
use Rattle.rss_image.proofs.Evened.{long_take}

pub on_done : {T E : Type 0} {P Q : Type 0} (r : Result T E) → (P → Q) → OnOk r P → OnOk r Q
on_done (Ok x) gives is = gives is
on_done (Err e) gives is = tt

drop_place : (es : List Entry) (n : ℕ) → n < length es → drop n es ≡ at_place es n ∷ drop (suc n) es
drop_place [] n low = absurd (omega arith)
drop_place (e ∷ es) zero low = refl
drop_place (e ∷ es) (suc n) low = drop_place es n (omega arith)

plain_after : (es rest : List Entry) (at : ℕ) → at < length es → take (suc at) es ++ rest ≡ take at es ++ at_place es at ∷ rest
plain_after [] rest at low = absurd (omega arith)
plain_after (e ∷ es) rest zero low = refl
plain_after (e ∷ es) rest (suc at) low = ap (λ (l : List Entry). e ∷ l) (plain_after es rest at (omega arith))

stored_after : (width level : ℕ) (es more : List Entry) (at : ℕ) → suc at < length es → take (suc at) (stored width level es) ++ (more ++ drop (suc (suc at)) (stored width level es)) ≡ stored width level (take at es ++ at_place es at ∷ (more ++ drop (suc (suc at)) es))
stored_after width zero es more at low = plain_after es (more ++ drop (suc (suc at)) es) at (omega arith)
stored_after width (suc level) [] more at low = absurd (omega arith)
stored_after width (suc level) (e ∷ es) more zero low = refl
stored_after width (suc level) (e ∷ es) more (suc at) low = ap (λ (l : List Entry). record { pair = zeros width; child = e.child } ∷ l) (plain_after es (more ++ drop (suc (suc at)) es) at (omega arith))

begins_kept : (low : List ℕ) (xs : List Entry) (e : Entry) (ys zs : List Entry) → Begins low (xs ++ e ∷ ys) → Begins low (xs ++ e ∷ zs)
begins_kept low [] e ys zs is = is
begins_kept low (x ∷ xs) e ys zs is = is

module _ (of : Nodes) (old : Cells) (level number place : ℕ) (own : List Entry) (start : Cells) (pairs : List (List ℕ)) (front back : List Entry) (lower : List Row) (entries : List Entry) (lw : Lowered (spells of) start old of.width pairs front back lower entries place)
    (height : length lower ≡ level) (own_is : own ≡ stored of.width level entries) (at right_at : ℕ) (right_is : right_at ≡ suc at) (near : (place ≡ at) ⊎ (place ≡ suc at)) (low : suc at < length own) (many : 0 < node_least of.width) where
  abbrev pub us : List Entry
  us = take at entries

  abbrev pub a : Entry
  a = at_place entries at

  abbrev pub b : Entry
  b = at_place entries (suc at)

  abbrev pub vs : List Entry
  vs = drop (suc (suc at)) entries

  own_long : length own ≡ length entries
  own_long = ap length own_is ∙ stored_long of.width level entries

  are : entries ≡ us ++ a ∷ b ∷ vs
  are = split_place entries at (omega (arith, low, own_long)) ∙ ap (λ (l : List Entry). us ++ a ∷ l) (drop_place entries (suc at) (omega (arith, low, own_long)))

  us_long : length us ≡ at
  us_long = long_take at entries (omega (arith, low, own_long))

  near_us : (place ≡ length us) ⊎ (place ≡ suc (length us))
  near_us = ⊎_elim (λ (same : place ≡ at). inl (omega (arith, same, us_long))) (λ (same : place ≡ suc at). inr (omega (arith, same, us_long))) near

  pub two : SplitsTwo (lw.before ++ lw.here ∷ lw.after) (front ++ us) a b (vs ++ back)
  two = two_of (spells of) start old of.width pairs front back lower entries place lw us a b vs are near_us many

  below_is : length lw.rest ≡ level - 1
  below_is = omega (arith, lw.same_height, height)

  pub mend_neighbours : (left right : ℕ) (pair : List ℕ) → left ≡ (entry_at own at).child → right ≡ (entry_at own right_at).child → pair ≡ (entry_at own right_at).pair → AreNeighbours of old (level - 1) left right pair two.left two.right (first two.after no_page)
  unfolding two
  mend_neighbours left right pair l_is r_is p_is = record {
    near = subst (λ (l : ℕ). Neighbours (spells of) old of.width l two.left two.right (first two.after no_page)) below_is (neighbours_of (spells of) start old of.width pairs front back lower entries place lw us a b vs are near_us many);
    left_is = ap (λ (e : Entry). e.child) two.left_is ∙ sym (stored_child of.width level entries at) ∙ ap (λ (l : List Entry). (at_place l at).child) (sym own_is) ∙ sym l_is;
    right_is = ap (λ (e : Entry). e.child) two.right_is ∙ sym (stored_child of.width level entries (suc at)) ∙ (λ i. (at_place (sym own_is i) (sym right_is i)).child) ∙ sym r_is;
    begins = ap (λ (e : Entry). e.pair) two.right_is ∙ sym (stored_pair of.width level entries (suc at) (λ l. omega arith)) ∙ (λ i. (at_place (sym own_is i) (sym right_is i)).pair) ∙ sym p_is;
  }

  -- the node's page isn't touched
  pub mend_still : (mid : Cells) (more : List Entry) → EvensTo of old mid (level - 1) two.left two.right (first two.after no_page) more → (IsIn (pages ((lw.before ++ lw.here ∷ lw.after) ∷ lw.rest)) number → ⊥) → (bytes : List ℕ) → old number ≡ Some bytes → mid number ≡ Some bytes
  unfolding two
  mend_still mid more ev off bytes was = ev.evens.keeps.same number bytes (λ is.
      off (subst (λ (r : Row). IsIn (pages (r ∷ lw.rest)) number) (sym two.is)
      (subst (λ (l : List ℕ). IsIn l number) (sym (list_two (spells of) start old of.width pairs front back lower entries place lw us a b vs are near_us many))
      (in_right (numbers two.before) (two.left.number ∷ two.right.number ∷ (numbers two.after ++ pages lw.rest)) number
      (in_left (two.left.number ∷ two.right.number ∷ []) (numbers two.after ++ pages lw.rest) number is))))) was

  pub mended : (mid new : Cells) (next : ℕ) (more : List Entry) → EvensTo of old mid (level - 1) two.left two.right (first two.after no_page) more → HoldsAt (spells of) new level number next (spliced own right_at 1 more) → Keeps (number ∷ []) mid new → LosesNone (number ∷ []) (number ∷ []) mid new
      → MendsTo of level number next start new pairs front back lower entries (length (spliced own right_at 1 more))
  unfolding two
  mended mid new next more ev held keeps loses =
      let now : List Entry = us ++ a ∷ (more ++ vs) in
      let next_one : right_at + 1 ≡ suc (suc at) = omega (arith, right_is) in
      let same : spliced own right_at 1 more ≡ stored of.width level now =
      (λ i. take (right_is i) (own_is i) ++ (more ++ drop (next_one i) (own_is i)))
      ∙ stored_after of.width level entries more at (omega (arith, low, own_long)) in
      let evens = subst (λ (l : ℕ). Evens (spells of) old mid of.width l two.left two.right (first two.after no_page) ev.head ev.extra) (sym below_is) ev.evens in
      let made = lowered_even (spells of) start old of.width pairs front back lower entries place lw us a b vs are near_us many mid ev.head ev.extra evens in
      let more_few : length more ≤ 1 = omega (arith, ap length ev.names_are, length-map ev.extra name, ev.evens.few_extra) in
      let now_long : length now ≡ length us + suc (length more + length vs) = length-append us (a ∷ (more ++ vs)) ∙ ap (λ (n : ℕ). length us + suc n) (length-append more vs) in
      let old_long : length entries ≡ length us + suc (suc (length vs)) = ap length are ∙ length-append us (a ∷ b ∷ vs) in
      record {
        now = now;
        mid = mid;
        filled = subst (λ (l : List Entry). Filled (spells of) start mid of.width pairs front back lower (us ++ a ∷ (l ++ vs))) ev.names_are made;
        held = subst (λ (l : List Entry). HoldsAt (spells of) new level number next l) same held;
        keeps = keeps;
        loses_none = loses;
        count_is = sym (ap length same ∙ stored_long of.width level now);
        lacks = omega (arith, now_long, old_long);
        few = omega (arith, now_long, old_long, more_few);
        begins = λ low is. begins_kept low us a (b ∷ vs) (more ++ vs) (subst (Begins low) are is);
      }
