-- Where a tuple stands in a list.
use Rattle.std.proofs.Common.{◌≡◌, ◌≢◌, ℕ, suc, ◌+◌, ◌<◌, Bool, true, false, List, [], ◌∷◌, ◌++◌, ◌-◌, length, take, drop, get_or, refl, sym, ◌∙◌, ap, subst, arith, append_assoc, length-append, length-take-le, take_all}
use Rattle.std.specs.Prelude.{◌↔◌, ◌||◌, ◌==◌, not, if◌then◌else◌, Option, Some, None, IfSome, IfNone, MatchOption}
use Rattle.std.specs.List.{list_any, HoldsAt, AllWithin}
use Rattle.std.proofs.Math.Seq.{drop-cons}
use Rattle.std.proofs.lemmas.Bool.{eqb-true}
use Rattle.std.proofs.lemmas.List.{take-append-drop, get_or-take, length-drop, append_cancel_right}
use Rattle.std.proofs.lemmas.List.Folds.{list_any_none, list_any-append}
use Rattle.std.proofs.lemmas.Option.{same_Some}
use Rattle.rss_base.specs.declared.tid.Tid.{Tid}
use Rattle.rss_base.specs.Prefixes.{is_tid, first_of, last_of}
use Rattle.rss_base.proofs.Equal.{same_tid, tid_decides}
use Rattle.rss_model.specs.Chains.{stands_in, with_behind, next_of, StandOnce}
use Rattle.rss_model.proofs.LogLists.{by_test, false_true, none_some}
use Rattle.rss_model.proofs.Standing.{tid_itself, tid_same, by_tid, tid_apart, or_first, or_second, or_none, stands_behind}
use Rattle.rss_link.proofs.Lists.{last_behind}
use Rattle.rss_link.proofs.Operations.{split_at}
use Rattle.rss_members.specs.Calls.{next_behind}
use Rattle.rss_members.proofs.Alone.{off_apart}
use Rattle.rss_members.proofs.Standing.{stands_between, next_is}
use Rattle.rss_draft.specs.Looks.{HasGap, StandsBehind, IsFirstPlace, EndsIn, EndsWith}

-- ---- lists and their first

heads : {x y : Tid} {xs ys : List Tid} → x ∷ xs ≡ y ∷ ys → x ≡ y
heads is = cc (is)

tails : {x y : Tid} {xs ys : List Tid} → x ∷ xs ≡ y ∷ ys → xs ≡ ys
tails is = cc (is)

-- a tuple that isn't in a list is not its first
not_first : (x y : Tid) (xs : List Tid) → stands_in x (y ∷ xs) ≡ false → x ≡ y → ⊥
not_first x y xs off same = false_true (subst (λ (t : Tid). is_tid x t ≡ true) same (tid_itself x)) (or_none (is_tid x y) (stands_in x xs) off).0

not_behind : (x y : Tid) (xs : List Tid) → stands_in x (y ∷ xs) ≡ false → stands_in x xs ≡ false
not_behind x y xs off = (or_none (is_tid x y) (stands_in x xs) off).1

farther : (x y : Tid) (xs : List Tid) → (x ≡ y → ⊥) → stands_in x (y ∷ xs) ≡ true → stands_in x xs ≡ true
farther x y xs off there = let other : is_tid x y ≡ false = tid_apart x y off in sym (ap (λ (b : Bool). b || stands_in x xs) other) ∙ there

off_parts : (x : Tid) (a b : List Tid) → stands_in x (a ++ b) ≡ false → (stands_in x a ≡ false) × (stands_in x b ≡ false)
off_parts x a b off = or_none (stands_in x a) (stands_in x b) (sym (list_any-append (is_tid x) a b) ∙ off)

off_both : (x : Tid) (a b : List Tid) → stands_in x a ≡ false → stands_in x b ≡ false → stands_in x (a ++ b) ≡ false
off_both x a b one two = list_any-append (is_tid x) a b ∙ (λ i. one i || two i)

-- ---- as `contains` says

same_test : (x y : Tid) → same_tid y x ≡ is_tid x y
same_test x y = by_test (is_tid x y)
    (λ e. (tid_decides y x).1 (sym (tid_same x y e)) ∙ sym e)
    (λ e. by_test (same_tid y x)
    (λ f. false_true (subst (λ (t : Tid). is_tid x t ≡ true) (sym ((tid_decides y x).0 f)) (tid_itself x)) e)
    (λ f. f ∙ sym e))

pub contains_is : (x : Tid) (tids : List Tid) → list_any (λ y. same_tid y x) tids ≡ stands_in x tids
contains_is x [] = refl
contains_is x (y ∷ tids) = λ i. same_test x y i || contains_is x tids i

-- ---- its first place

pub first_place : (tid : Tid) (tids : List Tid) (place : Option ℕ)
    → MatchOption place (AllWithin (λ (other : Tid). other ≢ tid) tids 0 (length tids)) (λ k. (k < length tids) × HoldsAt (λ (other : Tid). other ≡ tid) tids k × AllWithin (λ (other : Tid). other ≢ tid) tids 0 k)
    → MatchOption place (stands_in tid tids ≡ false) (IsFirstPlace tid tids)
first_place tid tids None none = list_any_none (is_tid tid) tids (λ k d low. tid_apart tid (get_or tids k d) (λ same. none k d (omega arith) low (sym same)))
first_place tid tids (Some k) is =
    let next : suc k ≡ k + 1 = omega arith in
    let behind : drop k tids ≡ tid ∷ drop (suc k) tids = drop-cons tids k tid is.0 ∙ ap (λ (t : Tid). t ∷ drop (suc k) tids) (is.1 tid) in
    record {
      low = is.0;
      split = sym (take-append-drop k tids) ∙ ap (λ (l : List Tid). take k tids ++ l) (behind ∙ ap (λ (n : ℕ). tid ∷ drop n tids) next);
      off = list_any_none (is_tid tid) (take k tids) (λ j d low. before j d (omega (arith, low, length-take-le k tids (omega (arith, is.0)))));
    }
  where
    before : (j : ℕ) (d : Tid) → j < k → is_tid tid (get_or (take k tids) j d) ≡ false
    before j d low = tid_apart tid (get_or (take k tids) j d) (λ same. is.2 j d (omega arith) low (sym (get_or-take k tids j d low) ∙ sym same))

-- ---- behind another one

put_last : (left child : Tid) (front after : List Tid) → stands_in left front ≡ false → with_behind (Some left) child (front ++ left ∷ after) ≡ front ++ left ∷ child ∷ after
put_last left child [] after off = let here : is_tid left left ≡ true = tid_itself left in rw here refl
put_last left child (x ∷ front) after off =
    let parts = or_none (is_tid left x) (stands_in left front) off in
    let other : is_tid x left ≡ false = off_apart left x parts.0 in
    rw other (ap (λ (l : List Tid). x ∷ l) (put_last left child front after parts.1))

-- a tuple that stands once in a list, where those before it end with the one behind which it is
pub behind_is : (child : Tid) (left : Option Tid) (before after : List Tid) → EndsWith left before → stands_in child before ≡ false → stands_in child after ≡ false → StandsBehind child left (before ++ child ∷ after)
behind_is child None before after ends off off_after =
    subst (λ (l : List Tid). StandsBehind child None (l ++ child ∷ after)) (sym ends) (record { others = after; gap = record { apart = off_after; behind = tt }; is = refl })
behind_is child (Some left) before after ends off off_after =
    let parts = off_parts child ends.front (left ∷ []) (ap (stands_in child) (sym ends.is) ∙ off) in
    let other : is_tid child left ≡ false = (or_none (is_tid child left) false parts.1).0 in
    record {
      others = ends.front ++ left ∷ after;
      gap = record {
        apart = off_both child ends.front (left ∷ after) parts.0 (λ i. other i || off_after i);
        behind = stands_between left ends.front after;
      };
      is = ap (λ (l : List Tid). l ++ child ∷ after) ends.is ∙ append_assoc ends.front (left ∷ []) (child ∷ after) ∙ sym (put_last left child ends.front after ends.off);
    }

behind_here : (left child : Tid) (tids : List Tid) (x : Tid) → x ≡ left → with_behind (Some left) child (x ∷ tids) ≡ x ∷ child ∷ tids
behind_here left child tids x same = let here : is_tid x left ≡ true = subst (λ (t : Tid). is_tid x t ≡ true) same (tid_itself x) in rw here refl

behind_later : (left child : Tid) (tids : List Tid) (x : Tid) → (x ≡ left → ⊥) → with_behind (Some left) child (x ∷ tids) ≡ x ∷ with_behind (Some left) child tids
behind_later left child tids x off = let here : is_tid x left ≡ false = tid_apart x left off in rw here refl

-- it came right behind the first of the others
first_parts : (child left first : Tid) (others before after : List Tid) → first ≡ left → stands_in child (first ∷ others) ≡ false → before ++ child ∷ after ≡ first ∷ child ∷ others → stands_in child before ≡ false
    → EndsIn left before × (stands_in child after ≡ false)
first_parts child left first others [] after here apart is off = absurd (not_first child first others apart (heads is))
first_parts child left first others (x ∷ []) after here apart is off = (
  record { front = []; is = ap (λ (t : Tid). t ∷ []) (heads is ∙ here); off = refl },
  ap (stands_in child) (tails (tails is)) ∙ not_behind child first others apart,
)
first_parts child left first others (x ∷ y ∷ before) after here apart is off = absurd (not_first child y before (not_behind child x (y ∷ before) off) (sym (heads (tails is))))

pub behind_parts : (child : Tid) (left : Option Tid) (others before after : List Tid) → HasGap child left others → before ++ child ∷ after ≡ with_behind left child others → stands_in child before ≡ false
    → EndsWith left before × (stands_in child after ≡ false)
behind_parts child None others [] after gap is off = (refl, ap (stands_in child) (tails is) ∙ gap.apart)
behind_parts child None others (x ∷ before) after gap is off = absurd (not_first child x before off (sym (heads is)))
behind_parts child (Some left) [] before after gap is off = false_true gap.behind refl
behind_parts child (Some left) (y ∷ others) [] after gap is off = absurd (not_first child y others gap.apart (by_tid y left
    (λ here. heads (is ∙ behind_here left child others y here))
    (λ away. heads (is ∙ behind_later left child others y away))))
behind_parts child (Some left) (y ∷ others) (x ∷ before) after gap is off = by_tid y left
    (λ here. first_parts child left y others (x ∷ before) after here gap.apart (is ∙ behind_here left child others y here) off)
    (λ away.
    let line = is ∙ behind_later left child others y away in
    let apart : is_tid left x ≡ false = tid_apart left x (λ e. away (sym (heads line) ∙ sym e)) in
    let rest = behind_parts child (Some left) others before after
    (record { apart = not_behind child y others gap.apart; behind = farther left y others (λ e. away (sym e)) gap.behind }) (tails line) (not_behind child x before off) in (
      record { front = x ∷ rest.0.front; is = ap (λ (l : List Tid). x ∷ l) rest.0.is; off = λ i. apart i || rest.0.off i },
      rest.1,
    ))

-- ---- the end of a list

pub empty_decides : (tids : List Tid) (empty : Bool) → empty ≡ (length tids == 0) → (empty ≡ true) ↔ (tids ≡ [])
empty_decides [] empty is = ((λ so. refl), (λ same. is))
empty_decides (tid ∷ tids) empty is = ((λ so. absurd (omega (arith, eqb-true (length (tid ∷ tids)) 0 (sym is ∙ so)))), (λ same. absurd (cc (same))))

pub no_end : (tids : List Tid) (last : Tid) → length tids ≡ 0 → EndsIn last tids → ⊥
no_end tids last none ends = omega (arith, none, ap (λ (l : List Tid). length l) ends.is, length-append ends.front (last ∷ []))

-- the last one is that tuple, and it may stand before as well
module _ {tids : List Tid} (front : List Tid) {tid : Tid} (is : tids ≡ front ++ tid ∷ []) (last : Tid) where
  pub ends_decide : tid ≡ last → (again : Bool) → again ≡ stands_in last front → (not again ≡ true) ↔ EndsIn last tids
  ends_decide same again its = (
    (λ yes. record { front = front; is = whole; off = sym its ∙ not_again again yes }),
    (λ ends. ap not (its ∙ ap (stands_in last) (append_cancel_right front ends.front (last ∷ []) (sym whole ∙ ends.is)) ∙ ends.off)),
  )
    where
      whole : tids ≡ front ++ last ∷ []
      whole = is ∙ ap (λ (t : Tid). front ++ t ∷ []) same

      not_again : (b : Bool) → not b ≡ true → b ≡ false
      not_again true so = absurd (cc (so))
      not_again false so = refl

  pub other_end : (tid ≡ last → ⊥) → EndsIn last tids → ⊥
  other_end off ends = off (same_Some tid last (sym (last_behind front [] tid) ∙ ap last_of (sym is ∙ ends.is) ∙ last_behind ends.front [] last))

-- what is behind a place
pub tail_is : (tids : List Tid) (n : ℕ) → take (length tids - n) (drop n tids) ≡ drop n tids
tail_is tids n = take_all (length tids - n) (drop n tids) (omega (arith, length-drop n tids))

-- ---- from its first place on

module _ {child : Tid} {left : Option Tid} {tids : List Tid} {place : ℕ} (first : IsFirstPlace child tids place) where
  pub behind_yes : EndsWith left (take place tids) → stands_in child (drop (place + 1) tids) ≡ false → StandsBehind child left tids
  behind_yes ends off = subst (StandsBehind child left) (sym first.split) (behind_is child left (take place tids) (drop (place + 1) tids) ends first.off off)

  pub behind_both : StandsBehind child left tids → EndsWith left (take place tids) × (stands_in child (drop (place + 1) tids) ≡ false)
  behind_both stands = behind_parts child left stands.others (take place tids) (drop (place + 1) tids) stands.gap (sym first.split ∙ stands.is) first.off

pub behind_there : {child : Tid} {left : Option Tid} {tids : List Tid} → StandsBehind child left tids → stands_in child tids ≡ true
behind_there {child = child} {left = left} stands =
    ap (stands_in child) stands.is ∙ stands_behind left child stands.others child ∙ or_first (is_tid child child) (stands_in child stands.others) (tid_itself child)

-- ---- what comes next in a list in which none stands twice

once_parts : (x : Tid) (before after : List Tid) → StandOnce (before ++ x ∷ after) → (stands_in x before ≡ false) × (stands_in x after ≡ false)
once_parts x [] after once = (refl, once.0)
once_parts x (y ∷ before) after once =
    let rest = once_parts x before after once.1 in
    let apart : is_tid x y ≡ false = tid_apart x y (λ same. false_true (subst (λ (t : Tid). stands_in t (before ++ x ∷ after) ≡ true) same (stands_between x before after)) once.0) in
    ((λ i. apart i || rest.0 i), rest.1)

pub first_is : (tids : List Tid) (child : Tid) → first_of tids ≡ Some child → (rest : List Tid) × (tids ≡ child ∷ rest)
first_is [] child is = none_some is
first_is (x ∷ tids) child is = (tids, ap (λ (t : Tid). t ∷ tids) (same_Some x child is))

-- a tuple that is next behind another one stands there
pub next_behind_is : (child : Tid) (left : Option Tid) (tids : List Tid) → StandOnce tids → next_behind left tids ≡ Some (Some child) → StandsBehind child left tids
next_behind_is child None tids once next =
    let first = first_is tids child (same_Some (first_of tids) (Some child) next) in
    let here : StandOnce (child ∷ first.0) = subst StandOnce first.1 once in
    subst (StandsBehind child None) (sym first.1) (behind_is child None [] first.0 refl refl here.0)
next_behind_is child (Some left) tids once next = by_test (stands_in left tids)
    (λ on.
    let split = split_at left tids on in
    let here : StandOnce (split.before ++ left ∷ split.after) = subst StandOnce split.is once in
    let follows : next_of left tids ≡ Some child = same_Some (next_of left tids) (Some child) (sym (ap (λ (b : Bool). if b then Some (next_of left tids) else None) on) ∙ next) in
    let first = first_is split.after child (sym (next_is left split.before split.after here) ∙ ap (next_of left) (sym split.is) ∙ follows) in
    let whole : tids ≡ (split.before ++ left ∷ []) ++ child ∷ first.0 = split.is ∙ ap (λ (l : List Tid). split.before ++ left ∷ l) first.1 ∙ sym (append_assoc split.before (left ∷ []) (child ∷ first.0)) in
    let its = once_parts child (split.before ++ left ∷ []) first.0 (subst StandOnce whole once) in
    subst (StandsBehind child (Some left)) (sym whole) (behind_is child (Some left) (split.before ++ left ∷ []) first.0
    (record { front = split.before; is = refl; off = (once_parts left split.before split.after here).0 }) its.0 its.1))
    (λ off. none_some (sym (ap (λ (b : Bool). if b then Some (next_of left tids) else None) off) ∙ next))

next_put : (left child : Tid) (others : List Tid) → stands_in left others ≡ true → next_of left (with_behind (Some left) child others) ≡ Some child
next_put left child [] there = false_true there refl
next_put left child (y ∷ others) there = by_tid y left
    (λ here. let test : is_tid y left ≡ true = subst (λ (t : Tid). is_tid y t ≡ true) here (tid_itself y) in rw test (rw test refl))
    (λ away.
    let test : is_tid y left ≡ false = tid_apart y left away in
    rw test (rw test (next_put left child others (farther left y others (λ e. away (sym e)) there))))

-- and one that stands there is next
pub is_next_behind : (child : Tid) (left : Option Tid) (tids : List Tid) → StandsBehind child left tids → next_behind left tids ≡ Some (Some child)
is_next_behind child None tids stands = ap (λ (l : List Tid). Some (first_of l)) stands.is
is_next_behind child (Some left) tids stands =
    let on : stands_in left tids ≡ true = ap (stands_in left) stands.is ∙ stands_behind (Some left) child stands.others left ∙ or_second (is_tid left child) (stands_in left stands.others) stands.gap.behind in
    ap (λ (b : Bool). if b then Some (next_of left tids) else None) on
    ∙ ap (λ (l : List Tid). Some (next_of left l)) stands.is ∙ ap (λ (o : Option Tid). Some o) (next_put left child stands.others stands.gap.behind)

-- ---- what was found next

-- no tuple, so it doesn't stand there
pub none_decides : (child : Tid) (left : Option Tid) (tids : List Tid) (found : Option (Option Tid)) → found ≡ next_behind left tids → ((tid : Tid) → found ≡ Some (Some tid) → ⊥) → (false ≡ true) ↔ StandsBehind child left tids
none_decides child left tids found is none = ((λ yes. absurd (cc (yes))), (λ stands. absurd (none child (is ∙ is_next_behind child left tids stands))))

-- this one
pub next_decides : (child : Tid) (left : Option Tid) (tids : List Tid) → StandOnce tids → (found : Option (Option Tid)) → found ≡ next_behind left tids → (next : Tid) → found ≡ Some (Some next) → (same : Bool) → ((same ≡ true) ↔ (next ≡ child)) → (same ≡ true) ↔ StandsBehind child left tids
next_decides child left tids once found is next at same decides = (
  (λ yes. next_behind_is child left tids once (sym is ∙ at ∙ ap (λ (t : Tid). Some (Some t)) (decides.0 yes))),
  (λ stands. decides.1 (same_Some _ _ (same_Some _ _ (sym at ∙ is ∙ is_next_behind child left tids stands)))),
)

-- a tuple that was found, if one was
pub some_whole : (found : Option Tid) → IfSome found (λ tid. ◌≡◌ {A = Option (Option Tid)} (Some found) (Some (Some tid)))
some_whole None = tt
some_whole (Some tid) = refl

pub none_whole : (found : Option Tid) → IfNone found ((tid : Tid) → ◌≡◌ {A = Option (Option Tid)} (Some found) (Some (Some tid)) → ⊥)
none_whole None = λ tid is. absurd (cc (is))
none_whole (Some tid) = tt
