-- Where a tuple stands in a list in which none stands twice.
use Rattle.std.proofs.Common.{◌≡◌, inl, inr, Bool, true, false, List, [], ◌∷◌, ◌++◌, Option, Some, None, refl, sym, ◌∙◌, ap, subst, append_assoc}
use Rattle.std.specs.Prelude.{◌||◌, IfSome, slice_get}
use Rattle.rss_base.specs.Prefixes.{is_tid, first_of, last_of}
use Rattle.rss_base.specs.declared.tid.Tid.{Tid}
use Rattle.rss_model.specs.Chains.{stands_in, with_behind, without, next_of, StandOnce}
use Rattle.rss_model.proofs.LogLists.{false_true, none_some}
use Rattle.rss_model.proofs.Mixing.{In}
use Rattle.rss_model.proofs.Standing.{tid_itself, by_tid, tid_apart, or_first, or_second, or_none}
use Rattle.rss_link.specs.Chains.{Lists}
use Rattle.rss_link.specs.Calls.{Follows, IsTheOne}
use Rattle.rss_link.proofs.Lists.{last_is, last_behind}

-- ---- lists and their first

heads : {x y : Tid} {xs ys : List Tid} → x ∷ xs ≡ y ∷ ys → x ≡ y
heads is = cc (is)

tails : {x y : Tid} {xs ys : List Tid} → x ∷ xs ≡ y ∷ ys → xs ≡ ys
tails is = cc (is)

not_none : {x : Tid} {xs : List Tid} → x ∷ xs ≡ [] → ⊥
not_none is = cc (is)

-- a tuple that isn't in a list is none of it
off_first : (x y : Tid) (xs : List Tid) → stands_in x (y ∷ xs) ≡ false → x ≡ y → ⊥
off_first x y xs off same = false_true (subst (λ (t : Tid). is_tid x t ≡ true) same (tid_itself x)) (or_none (is_tid x y) (stands_in x xs) off).0

off_rest : (x y : Tid) (xs : List Tid) → stands_in x (y ∷ xs) ≡ false → stands_in x xs ≡ false
off_rest x y xs off = (or_none (is_tid x y) (stands_in x xs) off).1

in_rest : (x y : Tid) (xs : List Tid) → (x ≡ y → ⊥) → stands_in x (y ∷ xs) ≡ true → stands_in x xs ≡ true
in_rest x y xs off there = let other : is_tid x y ≡ false = tid_apart x y off in sym (ap (λ (b : Bool). b || stands_in x xs) other) ∙ there

pub stands_between : (x : Tid) (before after : List Tid) → stands_in x (before ++ x ∷ after) ≡ true
stands_between x [] after = or_first (is_tid x x) (stands_in x after) (tid_itself x)
stands_between x (y ∷ before) after = or_second (is_tid x y) (stands_in x (before ++ x ∷ after)) (stands_between x before after)

-- ---- put behind another

behind_here : (left child : Tid) (tids : List Tid) (x : Tid) → x ≡ left → with_behind (Some left) child (x ∷ tids) ≡ x ∷ child ∷ tids
behind_here left child tids x same = let here : is_tid x left ≡ true = subst (λ (t : Tid). is_tid x t ≡ true) same (tid_itself x) in rw here refl

behind_later : (left child : Tid) (tids : List Tid) (x : Tid) → (x ≡ left → ⊥) → with_behind (Some left) child (x ∷ tids) ≡ x ∷ with_behind (Some left) child tids
behind_later left child tids x off = let here : is_tid x left ≡ false = tid_apart x left off in rw here refl

-- a list with a tuple behind another says behind which
pub one_left : (left other : Option Tid) (child : Tid) (tids : List Tid) → stands_in child tids ≡ false
    → IfSome left (λ t. stands_in t tids ≡ true) → IfSome other (λ t. stands_in t tids ≡ true)
    → with_behind left child tids ≡ with_behind other child tids → left ≡ other
one_left None None child tids off there there_too same = refl
one_left (Some a) other child [] off there there_too same = absurd (false_true there refl)
one_left None (Some b) child [] off there there_too same = absurd (false_true there_too refl)
one_left None (Some b) child (x ∷ tids) off there there_too same = by_tid x b
    (λ here. absurd (off_first child x tids off (heads (same ∙ behind_here b child tids x here))))
    (λ away. absurd (off_first child x tids off (heads (same ∙ behind_later b child tids x away))))
one_left (Some a) None child (x ∷ tids) off there there_too same = by_tid x a
    (λ here. absurd (off_first child x tids off (heads (sym same ∙ behind_here a child tids x here))))
    (λ away. absurd (off_first child x tids off (heads (sym same ∙ behind_later a child tids x away))))
one_left (Some a) (Some b) child (x ∷ tids) off there there_too same = by_tid x a
    (λ here. by_tid x b
    (λ here_too. ap (λ (t : Tid). Some t) (sym here ∙ here_too))
    (λ away. none_some (one_left None (Some b) child tids (off_rest child x tids off) tt (in_rest b x tids (λ e. away (sym e)) there_too)
    (tails (sym (behind_here a child tids x here) ∙ same ∙ behind_later b child tids x away)))))
    (λ away. by_tid x b
    (λ here. none_some (sym (one_left (Some a) None child tids (off_rest child x tids off) (in_rest a x tids (λ e. away (sym e)) there) tt
    (tails (sym (behind_later a child tids x away) ∙ same ∙ behind_here b child tids x here)))))
    (λ away_too. one_left (Some a) (Some b) child tids (off_rest child x tids off) (in_rest a x tids (λ e. away (sym e)) there) (in_rest b x tids (λ e. away_too (sym e)) there_too)
    (tails (sym (behind_later a child tids x away) ∙ same ∙ behind_later b child tids x away_too))))

-- ---- between those before it and those behind it

once_apart : (x : Tid) (before after : List Tid) → StandOnce (before ++ x ∷ after) → stands_in x before ≡ false
once_apart x [] after once = refl
once_apart x (y ∷ before) after once = by_tid x y
    (λ same. false_true (subst (λ (t : Tid). stands_in t (before ++ x ∷ after) ≡ true) same (stands_between x before after)) once.0)
    (λ off. let other : is_tid x y ≡ false = tid_apart x y off in rw other (once_apart x before after once.1))

-- the tuple stands at one place
one_place : (x : Tid) (b a c d : List Tid) → StandOnce (b ++ x ∷ a) → b ++ x ∷ a ≡ c ++ x ∷ d → (b ≡ c) × (a ≡ d)
one_place x [] a [] d once same = (refl, tails same)
one_place x [] a (z ∷ c) d once same = false_true (ap (stands_in x) (tails same) ∙ stands_between x c d) once.0
one_place x (y ∷ b) a [] d once same = false_true (subst (λ (t : Tid). stands_in t (b ++ x ∷ a) ≡ true) (sym (heads same)) (stands_between x b a)) once.0
one_place x (y ∷ b) a (z ∷ c) d once same =
    let rest = one_place x b a c d once.1 (tails same) in
    ((λ i. heads same i ∷ rest.0 i), rest.1)

kept : (child : Tid) (tids : List Tid) → stands_in child tids ≡ false → without child tids ≡ tids
kept child [] off = refl
kept child (x ∷ tids) off = let other : is_tid x child ≡ false = tid_apart x child (λ e. off_first child x tids off (sym e)) in rw other (ap (λ (l : List Tid). x ∷ l) (kept child tids (off_rest child x tids off)))

-- the others, where it is taken out
pub taken_out : (child : Tid) (before after : List Tid) → StandOnce (before ++ child ∷ after) → without child (before ++ child ∷ after) ≡ before ++ after
taken_out child [] after once = let here : is_tid child child ≡ true = tid_itself child in rw here (kept child after once.0)
taken_out child (x ∷ before) after once =
    let other : is_tid x child ≡ false = tid_apart x child (λ e. false_true (subst (λ (t : Tid). stands_in t (before ++ child ∷ after) ≡ true) (sym e) (stands_between child before after)) once.0) in
    rw other (ap (λ (l : List Tid). x ∷ l) (taken_out child before after once.1))

last_in : (x : Tid) (tids : List Tid) → (last : Tid) × (last_of (x ∷ tids) ≡ Some last) × (stands_in last (x ∷ tids) ≡ true)
last_in x [] = (x, refl, or_first (is_tid x x) false (tid_itself x))
last_in x (y ∷ tids) = let rest = last_in y tids in (rest.0, rest.1, or_second (is_tid rest.0 x) (stands_in rest.0 (y ∷ tids)) rest.2)

-- what of all tuples is so, is so of the last one
pub last_each : (P : Tid → Type 0) (tids : List Tid) → ((t : Tid) → In t tids → P t) → IfSome (last_of tids) P
last_each P [] each = tt
last_each P (x ∷ []) each = each x (inl refl)
last_each P (x ∷ y ∷ tids) each = last_each P (y ∷ tids) (λ t is. each t (inr is))

in_more : (x : Tid) (before after : List Tid) → stands_in x before ≡ true → stands_in x (before ++ after) ≡ true
in_more x [] after there = false_true there refl
in_more x (y ∷ before) after there = by_tid x y
    (λ same. or_first (is_tid x y) (stands_in x (before ++ after)) (subst (λ (t : Tid). is_tid x t ≡ true) same (tid_itself x)))
    (λ off. or_second (is_tid x y) (stands_in x (before ++ after)) (in_more x before after (in_rest x y before off there)))

-- and once it is put behind the last of those before it, it stands there again
pub put_again : (child : Tid) (before after : List Tid) → StandOnce (before ++ child ∷ after) → with_behind (last_of before) child (before ++ after) ≡ before ++ child ∷ after
put_again child [] after once = refl
put_again child (x ∷ []) after once = behind_here x child after x refl
put_again child (x ∷ y ∷ before) after once =
    let last = last_in y before in
    let off : x ≡ last.0 → ⊥ = λ same. false_true (subst (λ (t : Tid). stands_in t (y ∷ before ++ child ∷ after) ≡ true) (sym same) (in_more last.0 (y ∷ before) (child ∷ after) last.2)) once.0 in
    ap (λ (o : Option Tid). with_behind o child (x ∷ y ∷ before ++ after)) last.1
    ∙ behind_later last.0 child (y ∷ before ++ after) x off
    ∙ ap (λ (l : List Tid). x ∷ l) (ap (λ (o : Option Tid). with_behind o child (y ∷ before ++ after)) (sym last.1) ∙ put_again child (y ∷ before) after once.1)

pub left_stands : (before after : List Tid) → IfSome (last_of before) (λ left. stands_in left (before ++ after) ≡ true)
left_stands [] after = tt
left_stands (x ∷ before) after = let last = last_in x before in subst (λ (o : Option Tid). IfSome o (λ left. stands_in left (x ∷ before ++ after) ≡ true)) (sym last.1) (in_more last.0 (x ∷ before) after last.2)

-- what stands behind it
pub next_is : (child : Tid) (before after : List Tid) → StandOnce (before ++ child ∷ after) → next_of child (before ++ child ∷ after) ≡ first_of after
next_is child [] after once = let here : is_tid child child ≡ true = tid_itself child in rw here (first after)
  where
    first : (tids : List Tid) → slice_get tids 0 ≡ first_of tids
    first [] = refl
    first (x ∷ tids) = refl
next_is child (x ∷ before) after once =
    let other : is_tid x child ≡ false = tid_apart x child (λ e. false_true (subst (λ (t : Tid). stands_in t (before ++ child ∷ after) ≡ true) (sym e) (stands_between child before after)) once.0) in
    rw other (next_is child before after once.1)

-- ---- as a link answers

module _ (lists : Lists) (parent : Option Tid) (child : Tid) (alone : (other : Option Tid) → stands_in child (lists other) ≡ true → other ≡ parent) (before after : List Tid) (is : lists parent ≡ before ++ child ∷ after) (once : StandOnce (lists parent)) where
  once_here : StandOnce (before ++ child ∷ after)
  once_here = subst StandOnce is once

  -- where it is found once more
  same_place : (other : Option Tid) (b a : List Tid) → lists other ≡ b ++ child ∷ a → (before ≡ b) × (after ≡ a)
  same_place other b a is_too =
      let same : other ≡ parent = alone other (ap (stands_in child) is_too ∙ stands_between child b a) in
      one_place child before after b a once_here (sym is ∙ ap lists (sym same) ∙ is_too)

  pub left_is : (found : Option Tid) → IsTheOne (λ left. Follows lists left child) found → found ≡ last_of before
  left_is found one = by (last_of before) refl found one
    where
      by : (o : Option Tid) → last_of before ≡ o → (found : Option Tid) → IsTheOne (λ left. Follows lists left child) found → found ≡ o
      by (Some left) last found one =
          let front = last_is before left last in
          (one left).1 (record { parent = parent; before = front.0; after = after; is = is ∙ ap (λ (l : List Tid). l ++ child ∷ after) front.1 ∙ append_assoc front.0 (left ∷ []) (child ∷ after) })
      by None none None one = refl
      by None none (Some left) one =
          let follows = (one left).0 refl in
          let place = same_place follows.parent (follows.before ++ left ∷ []) follows.after (follows.is ∙ sym (append_assoc follows.before (left ∷ []) (child ∷ follows.after))) in
          none_some (sym none ∙ ap last_of place.0 ∙ last_behind follows.before [] left)

  pub right_is : (found : Option Tid) → IsTheOne (λ right. Follows lists child right) found → found ≡ first_of after
  right_is found one = by after refl found one
    where
      by : (a : List Tid) → after ≡ a → (found : Option Tid) → IsTheOne (λ right. Follows lists child right) found → found ≡ first_of a
      by (right ∷ rest) are found one = (one right).1 (record { parent = parent; before = before; after = rest; is = is ∙ ap (λ (l : List Tid). before ++ child ∷ l) are })
      by [] none None one = refl
      by [] none (Some right) one =
          let follows = (one right).0 refl in
          let place = same_place follows.parent follows.before (right ∷ follows.after) follows.is in
          absurd (not_none (sym place.1 ∙ none))
