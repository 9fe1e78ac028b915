-- The chains that are spelled once a child was put in or taken out.
use Rattle.std.proofs.Common.{◌≡◌, ◌⊎◌, inl, inr, ℕ, true, List, [], ◌∷◌, ◌++◌, length, Option, Some, None, refl, sym, ◌∙◌, ap, subst}
use Rattle.rss_base.specs.declared.tid.Tid.{Tid}
use Rattle.rss_tuple.specs.Directory.{Bodies}
use Rattle.rss_link.specs.declared.link.Chains.{Chains}
use Rattle.rss_base.specs.Prefixes.{Ends, first_of, last_of, ends_of}
use Rattle.rss_link.specs.declared.blocks.Standing.{Standing}
use Rattle.rss_link.specs.declared.blocks.Standing.TheVariants.{Within}
use Rattle.rss_link.specs.declared.blocks.Pointer.TheVariants.{Next, Previous}
use Rattle.rss_link.specs.Blocks.{IsPointer, IsStanding, child_size, parent_size}
use Rattle.rss_link.specs.Chains.{Lists, Linkage, Stands, StandsAs, IsParent, with_list, relinked}
use Rattle.rss_link.specs.Links.{Says, SaysEnds, AreApart, SpellChains, AgreeOff, KeepsBody, same, of_child, of_parent, KeepBodies}
use Rattle.rss_link.specs.Calls.{LinkView, Relinks}
use Rattle.rss_link.specs.Edits.{SaysSome, SaysSomeEnds, HasPointer, turn, Restates, Turns, with_end}
use Rattle.rss_link.proofs.Lists.{last_from, last_is_from, last_cases, last_from-append, never_some, some_one}
use Rattle.rss_link.proofs.Meaning.{says_within}
use Rattle.rss_link.proofs.Splices.{IsSplice, left_stands, right_stands, seams_apart, spliced}
use Rattle.std.proofs.lemmas.List.{append-nil}

-- ---- bodies that are kept twice

agree_then : (at size : ℕ) (a b c : List ℕ) → AgreeOff at size a b → AgreeOff at size b c → AgreeOff at size a c
agree_then at size a b c one two = record { same_length = two.same_length ∙ one.same_length; front = two.front ∙ one.front; back = two.back ∙ one.back }

module _ (link : Chains) (linkage : Linkage) (apart : AreApart link linkage) (s : ℕ) (t : Tid) where
  keeps_body : (a b c : Option (List ℕ)) → KeepsBody link linkage s t a b → KeepsBody link linkage s t b c → KeepsBody link linkage s t a c
  keeps_body a b c (same is) two = subst (λ (x : Option (List ℕ)). KeepsBody link linkage s t x c) is two
  keeps_body a b c (of_child here is_child was now agree) (same is) = of_child here is_child was (is ∙ now) agree
  keeps_body a b c (of_parent kind here is_parent was now agree) (same is) = of_parent kind here is_parent was (is ∙ now) agree
  keeps_body a b c (of_child {body = x} {now = y} here is_child was now agree) (of_child {body = z} {now = w} here_too is_child_too was_too now_too agree_too) =
      let one : z ≡ y = some_one _ _ (sym was_too ∙ now) in
      of_child here is_child was now_too (agree_then link.child_at (child_size link.unary) x y w agree (subst (λ (l : List ℕ). AgreeOff link.child_at (child_size link.unary) l w) one agree_too))
  keeps_body a b c (of_parent {body = x} {now = y} kind here is_parent was now agree) (of_parent {body = z} {now = w} kind_too here_too is_parent_too was_too now_too agree_too) =
      let one : z ≡ y = some_one _ _ (sym was_too ∙ now) in
      of_parent kind here is_parent was now_too (agree_then link.parent_at parent_size x y w agree (subst (λ (l : List ℕ). AgreeOff link.parent_at parent_size l w) one agree_too))
  keeps_body a b c (of_child here is_child was now agree) (of_parent kind here_too is_parent was_too now_too agree_too) = absurd (apart kind (sym here ∙ here_too) t is_child is_parent)
  keeps_body a b c (of_parent kind here is_parent was now agree) (of_child here_too is_child was_too now_too agree_too) = absurd (apart kind (sym here_too ∙ here) t is_child is_parent)

keeps_then : (link : Chains) (linkage : Linkage) → AreApart link linkage → (a b c : Bodies) → KeepBodies link linkage a b → KeepBodies link linkage b c → KeepBodies link linkage a c
keeps_then link linkage apart a b c one two s t = keeps_body link linkage apart s t (a s t) (b s t) (c s t) (one s t) (two s t)

-- ---- the ends of a list of which the middle is changed

firsts : (before mid now after : List Tid) → (last_of before ≡ None → ⊥) → first_of (before ++ (now ++ after)) ≡ first_of (before ++ (mid ++ after))
firsts [] mid now after some = absurd (some refl)
firsts (x ∷ before) mid now after some = refl

lasts : (before mid now after : List Tid) → (first_of after ≡ None → ⊥) → last_of (before ++ (now ++ after)) ≡ last_of (before ++ (mid ++ after))
lasts before mid now [] some = absurd (some refl)
lasts before mid now (x ∷ after) some = last_of_both before now x after ∙ sym (last_of_both before mid x after)
  where
    last_of_both : (xs ys : List Tid) (t : Tid) (m : List Tid) → last_of (xs ++ (ys ++ (t ∷ m))) ≡ last_from (Some t) m
    last_of_both xs ys t m = last_is_from (xs ++ (ys ++ (t ∷ m))) ∙ last_from-append None xs (ys ++ (t ∷ m)) ∙ last_from-append (last_from None xs) ys (t ∷ m)

pub none_before : (before : List Tid) → last_of before ≡ None → before ≡ []
none_before before none = elim (last_cases None before) [
  | inl empty ↦ empty
  | inr some ↦ absurd (never_some some.tid (last_of before) none (last_is_from before ∙ some.last))
]

none_after : (after : List Tid) → first_of after ≡ None → after ≡ []
none_after [] none = refl
none_after (x ∷ after) none = absurd (never_some x (Some x) none refl)

-- ---- a child is put in or taken out, and the pointers at the seams are turned

module _ {link : Chains} {linkage : Linkage} {s0 : LinkView} (spells : SpellChains link s0.ends s0.tuples.bodies linkage)
    {parent : Option Tid} {before mid now after : List Tid} {child : Tid} (splice : IsSplice linkage parent before mid now after child)
    (is_parent : IsParent link.unary linkage.parents parent) (is_child : linkage.children child ≡ true)
    (off_seams : (t : Tid) → (last_of before ≡ Some t) ⊎ (first_of after ≡ Some t) → t ≡ child → ⊥)
    {left right : Option Tid} (is_left : left ≡ last_of before) (is_right : right ≡ first_of after)
    {standing : Standing} {s1 : LinkView} (step1 : Restates link child standing linkage s0 s1) where
  at_left_says : (t : Tid) → last_of before ≡ Some t → SaysSome link s0.tuples.bodies t
  at_left_says t last = let stands = (left_stands spells.chains parent before mid now after child splice t last).0 in record { standing = _; says = says_within spells.chains t stands }

  at_right_says : (t : Tid) → first_of after ≡ Some t → SaysSome link s0.tuples.bodies t
  at_right_says t first = let stands = (right_stands spells.chains parent before mid now after child splice t first).0 in record { standing = _; says = says_within spells.chains t stands }

  pub left_child : (t : Tid) → last_of before ≡ Some t → linkage.children t ≡ true
  left_child t last = spells.chains.children t (left_stands spells.chains parent before mid now after child splice t last).0

  pub right_child : (t : Tid) → first_of after ≡ Some t → linkage.children t ≡ true
  right_child t first = spells.chains.children t (right_stands spells.chains parent before mid now after child splice t first).0

  ends_first : SaysEnds link s1.ends s1.tuples.bodies parent (ends_of (linkage.lists parent))
  ends_first = step1.keeps.ends parent (ends_of (linkage.lists parent)) is_parent (λ none. none) (spells.chains.ends parent is_parent)

  has_left_at : (l : Option Tid) → left ≡ l → HasPointer link s1 parent l
  has_left_at None is = record { ends = ends_of (linkage.lists parent); says = ends_first }
  has_left_at (Some t) is =
      let last : last_of before ≡ Some t = sym is_left ∙ is in
      let some = at_left_says t last in
      record { standing = some.standing; says = step1.keeps.says t some.standing (left_child t last) (off_seams t (inl last)) some.says }

  pub has_left : HasPointer link s1 parent left
  has_left = has_left_at left refl

  module _ {to_next : Option Tid} {s2 : LinkView} (fits_next : IsPointer to_next) (step2 : Turns link (turn Next parent left to_next) linkage s1 s2) where
    not_both : (t : Tid) → first_of after ≡ Some t → left ≡ Some t → ⊥
    not_both t first is = seams_apart spells.chains parent before mid now after child splice t (sym is_left ∙ is) first

    ends_second : (l : Option Tid) → left ≡ l → SaysSomeEnds link s2 parent
    ends_second None is = record { ends = with_end Next (ends_of (linkage.lists parent)) to_next; says = step2.end.each (ends_of (linkage.lists parent)) is fits_next ends_first }
    ends_second (Some t) is = record { ends = ends_of (linkage.lists parent); says = step2.keeps.ends parent (ends_of (linkage.lists parent)) is_parent (λ turned. never_some t left turned.0 is) ends_first }

    has_right_at : (r : Option Tid) → right ≡ r → HasPointer link s2 parent r
    has_right_at None is = ends_second left refl
    has_right_at (Some t) is =
        let first : first_of after ≡ Some t = sym is_right ∙ is in
        let some = at_right_says t first in
        record { standing = some.standing; says = step2.keeps.says t some.standing (right_child t first) (not_both t first) (step1.keeps.says t some.standing (right_child t first) (off_seams t (inr first)) some.says) }

    pub has_right : HasPointer link s2 parent right
    has_right = has_right_at right refl

    module _ {to_previous : Option Tid} {s3 : LinkView} (fits_previous : IsPointer to_previous) (step3 : Turns link (turn Previous parent right to_previous) linkage s2 s3)
        (is_next : to_next ≡ first_of (now ++ after)) (is_previous : to_previous ≡ last_of (before ++ now)) where
      -- ---- what the children say

      keeps_all : (t : Tid) (s : Standing) → linkage.children t ≡ true → (t ≡ child → ⊥) → (last_of before ≡ Some t → ⊥) → (first_of after ≡ Some t → ⊥)
          → Says link s0.tuples.bodies t s → Says link s3.tuples.bodies t s
      keeps_all t s role off not_left not_right says =
          step3.keeps.says t s role (λ is. not_right (sym is_right ∙ is)) (step2.keeps.says t s role (λ is. not_left (sym is_left ∙ is)) (step1.keeps.says t s role off says))

      turns_left : (t : Tid) (p l r : Option Tid) → last_of before ≡ Some t → Says link s0.tuples.bodies t (Within p l r) → Says link s3.tuples.bodies t (Within p l (first_of (now ++ after)))
      turns_left t p l r last says =
          let role = left_child t last in
          let first = step1.keeps.says t (Within p l r) role (off_seams t (inl last)) says in
          let second : Says link s2.tuples.bodies t (Within p l to_next) = step2.child.each t p l r (is_left ∙ last) fits_next first in
          let third : Says link s3.tuples.bodies t (Within p l to_next) = step3.keeps.says t (Within p l to_next) role (λ is. seams_apart spells.chains parent before mid now after child splice t last (sym is_right ∙ is)) second in
          subst (λ (n : Option Tid). Says link s3.tuples.bodies t (Within p l n)) is_next third

      turns_right : (t : Tid) (p l r : Option Tid) → first_of after ≡ Some t → Says link s0.tuples.bodies t (Within p l r) → Says link s3.tuples.bodies t (Within p (last_of (before ++ now)) r)
      turns_right t p l r first says =
          let role = right_child t first in
          let one = step1.keeps.says t (Within p l r) role (off_seams t (inr first)) says in
          let two : Says link s2.tuples.bodies t (Within p l r) = step2.keeps.says t (Within p l r) role (not_both t first) one in
          let three : Says link s3.tuples.bodies t (Within p to_previous r) = step3.child.each t p l r (is_right ∙ first) fits_previous two in
          subst (λ (n : Option Tid). Says link s3.tuples.bodies t (Within p n r)) is_previous three

      says_child : IsStanding link.unary standing → Says link s3.tuples.bodies child standing
      says_child fits =
          step3.keeps.says child standing is_child (λ is. off_seams child (inr (sym is_right ∙ is)) refl)
          (step2.keeps.says child standing is_child (λ is. off_seams child (inl (sym is_left ∙ is)) refl) (step1.here fits))

      -- ---- what the parents say

      ends_others : (q : Option Tid) (e : Ends) → IsParent link.unary linkage.parents q → (q ≡ parent → ⊥) → SaysEnds link s0.ends s0.tuples.bodies q e → SaysEnds link s3.ends s3.tuples.bodies q e
      ends_others q e is off says =
          step3.keeps.ends q e is (λ turned. off turned.1) (step2.keeps.ends q e is (λ turned. off turned.1) (step1.keeps.ends q e is (λ none. none) says))

      -- the ends of the chain now: the first, and then the last
      half : Ends
      half = record { first = first_of (before ++ (now ++ after)); last = last_of (linkage.lists parent) }

      half_says : (l : Option Tid) → left ≡ l → SaysEnds link s2.ends s2.tuples.bodies parent half
      unfolding half
      half_says None is =
          let empty : before ≡ [] = none_before before (sym is_left ∙ is) in
          let first : to_next ≡ first_of (before ++ (now ++ after)) = is_next ∙ ap (λ (l : List Tid). first_of (l ++ (now ++ after))) (sym empty) in
          subst (λ (f : Option Tid). SaysEnds link s2.ends s2.tuples.bodies parent (record { first = f; last = last_of (linkage.lists parent) })) first
          (step2.end.each (ends_of (linkage.lists parent)) is fits_next ends_first)
      half_says (Some t) is =
          let first : first_of (linkage.lists parent) ≡ first_of (before ++ (now ++ after)) = ap first_of splice.is ∙ sym (firsts before mid now after (λ none. never_some t (last_of before) none (sym is_left ∙ is))) in
          subst (λ (f : Option Tid). SaysEnds link s2.ends s2.tuples.bodies parent (record { first = f; last = last_of (linkage.lists parent) })) first
          (step2.keeps.ends parent (ends_of (linkage.lists parent)) is_parent (λ turned. never_some t left turned.0 is) ends_first)

      whole_says : (r : Option Tid) → right ≡ r → SaysEnds link s3.ends s3.tuples.bodies parent (ends_of (before ++ (now ++ after)))
      unfolding half
      whole_says None is =
          let empty : after ≡ [] = none_after after (sym is_right ∙ is) in
          let last : to_previous ≡ last_of (before ++ (now ++ after)) = is_previous ∙ ap (λ (l : List Tid). last_of (before ++ l)) (sym (append-nil now) ∙ ap (λ (l : List Tid). now ++ l) (sym empty)) in
          subst (λ (z : Option Tid). SaysEnds link s3.ends s3.tuples.bodies parent (record { first = first_of (before ++ (now ++ after)); last = z })) last
          (step3.end.each half is fits_previous (half_says left refl))
      whole_says (Some t) is =
          let last : last_of (linkage.lists parent) ≡ last_of (before ++ (now ++ after)) = ap last_of splice.is ∙ sym (lasts before mid now after (λ none. never_some t (first_of after) none (sym is_right ∙ is))) in
          subst (λ (z : Option Tid). SaysEnds link s3.ends s3.tuples.bodies parent (record { first = first_of (before ++ (now ++ after)); last = z })) last
          (step3.keeps.ends parent half is_parent (λ turned. never_some t right turned.0 is) (half_says left refl))

      -- ---- the chains

      abbrev lists_then : Lists
      lists_then = with_list linkage.lists parent (before ++ (now ++ after))

      pub relinks : IsStanding link.unary standing → StandsAs lists_then child standing
          → ((one other : Stands lists_then child) → (other.parent ≡ one.parent) × (length other.before ≡ length one.before))
          → Relinks link s0 s3 linkage (relinked linkage parent (before ++ (now ++ after)))
      relinks fits is once = record {
        spells = record {
          named = record { children = spells.named.children; parents = spells.named.parents };
          apart = spells.apart;
          chains = spliced spells.chains parent before mid now after child splice (Says link s3.tuples.bodies) keeps_all turns_left turns_right
              (SaysEnds link s3.ends s3.tuples.bodies) is_parent is_child (record { standing = standing; says_so = says_child fits; is = is }) once ends_others (whole_says right refl);
        };
        keeps = keeps_then link linkage spells.apart _ _ _ (keeps_then link linkage spells.apart _ _ _ step1.keeps.bodies step2.keeps.bodies) step3.keeps.bodies;
      }
