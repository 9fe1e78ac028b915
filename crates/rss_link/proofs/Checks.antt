-- What the loops of a check keep.
use Rattle.std.proofs.Common.{◌≡◌, ◌⊎◌, inl, inr, ℕ, ◌+◌, ◌^◌, ◌≤◌, Bool, true, false, List, [], ◌∷◌, ◌++◌, length, Option, Some, None, refl, sym, ◌∙◌, ap, subst, arith, length-append}
use Rattle.std.specs.Int.{from_bool}
use Rattle.std.specs.Prelude.{IfSome, MatchOption}
use Rattle.std.proofs.lemmas.Bool.{cond-true, cond-false}
use Rattle.rss_base.specs.DiskRule.{IsTold}
use Rattle.rss_base.specs.Prefixes.{Ends, last_of}
use Rattle.rss_base.specs.Steps.{no_page}
use Rattle.rss_base.specs.declared.tid.Tid.{Tid}
use Rattle.rss_base.proofs.Steps.{rests}
use Rattle.rss_tuple.specs.Directory.{Bodies, bodies_of}
use Rattle.rss_base.specs.Tids.{IsAfter}
use Rattle.rss_tuple.specs.Finding.{IsNext}
use Rattle.rss_tuple.specs.Heaps.{AreHeaps}
use Rattle.rss_tuple.specs.TupleSteps.{TuplesView, IsLive, IsLeast, NoneIs, no_tuple}
use Rattle.rss_link.specs.declared.link.Chains.{Chains}
use Rattle.rss_link.specs.declared.link.Relations.{Relations}
use Rattle.rss_link.specs.Blocks.{IsNamed, HasEnds}
use Rattle.rss_link.specs.Chains.{IsParent}
use Rattle.rss_link.specs.Links.{BodySaysEnds}
use Rattle.rss_link.specs.Calls.{seen_with}
use Rattle.rss_link.specs.Checking.{begins_with, children_of, parents_of, IsParentOf, HasChains, IsCounted, AreCounted, IsCount, IsChain, IsWalked, NoneIsWalked, IsFollowed, NotFollowed, IsTaken, IsNotTaken, AreWalked, AllWalked, NoneAreWalked}
use Rattle.rss_link.proofs.TupleSteps.{TuplesStep, then, same_bodies}
use Rattle.rss_link.proofs.Lists.{false_true, last_behind, some_one}
use Rattle.rss_link.proofs.Meaning.{ends_one}
use Rattle.rss_link.proofs.Ordered.{HasWidth, room_behind, less_room, IsSeen, seen_here, seen_still, seen_more, seen_all, begins_live, live_named}
use Rattle.rss_link.proofs.Chained.{IsFront, front_none, front_more, front_refused, front_done, front_open}
use Rattle.rss_link.proofs.Coming.{as_parent_of}
use Rattle.rss_link.proofs.Prefixed.{none_parent, only_none}
use Rattle.rss_link.proofs.Counted.{counted_none, counted_more, counted_all}
use Rattle.rss_link.proofs.Walked.{walked_none, walked_other, walked_more, never_too_long, never_fewer, all_spelled}

-- nothing was done
pub rested : (view : TuplesView) → (IsTold view.pages.disk → AreHeaps view.pages) → TuplesStep no_page no_tuple 0 view view
rested view heaps = record { below = rests view.pages; heaps = heaps; others = λ told segment tid off. refl }

-- what is so of bodies is so of those before
pub so_before : (P : Bodies → Type 0) {cost : ℕ} {old new : TuplesView} → TuplesStep no_page no_tuple cost old new → IsTold old.pages.disk → P new.bodies → P old.bodies
so_before P step told is = subst P (same_bodies step told) is

-- ---- the children are counted

pub record Counting (link : Chains) (relations : Relations) (start now : TuplesView) (last : Option Tid) (count : ℕ) : Type 0 where
  pub cost : ℕ
  pub step : TuplesStep no_page no_tuple cost start now
  pub within : IfSome last HasWidth
  pub room : count + room_behind last ≤ 2 ^ 48 + 1
  pub are : IsTold start.pages.disk → (list : List Tid) × AreCounted link relations start.bodies (IsSeen last) list × (length list ≡ count)

pub counting_none : (link : Chains) (relations : Relations) (start : TuplesView) → (IsTold start.pages.disk → AreHeaps start.pages) → Counting link relations start start None 0
counting_none link relations start heaps = record {
  cost = 0;
  step = rested start heaps;
  within = tt;
  room = omega arith;
  are = λ told. ([], counted_none (λ t seen. seen tt), refl);
}

module _ {link : Chains} {relations : Relations} {start now : TuplesView} {last : Option Tid} {count : ℕ} (so : Counting link relations start now last count) where
  -- a child is a tuple that is there
  child_live : IsTold start.pages.disk → (t : Tid) → children_of link relations start.bodies t ≡ true → IsLive now link.child_segment t
  child_live told t child = begins_live relations.child (now.bodies link.child_segment t) (subst (λ (b : Bodies). children_of link relations b t ≡ true) (sym (same_bodies so.step told)) child)

  pub counting_more : {cost cost_then : ℕ} (mid new : TuplesView) → TuplesStep no_page no_tuple cost now mid → TuplesStep no_page no_tuple cost_then mid new → (tid : Tid) → HasWidth tid → IsAfter last tid
      → now.bodies ≡ bodies_of now.pages.held → (IsTold now.pages.disk → IsLeast (IsNext now link.child_segment last) tid)
      → (stands : Bool) → (IsTold mid.pages.disk → IsCounted link relations mid.bodies tid stands) → (count_now : ℕ) → count_now ≡ count + from_bool stands → Counting link relations start new (Some tid) count_now
  counting_more mid new on after tid width behind bodies first stands looked count_now is = record {
    cost = _;
    step = then so.step (then on after);
    within = width;
    room = counted_room stands is;
    are = λ told.
        let was = so.are told in
        let told_now = so.step.below.passes.leaves.told.0 told in
        let at = first told_now in
        let list = counted_more was.1 tid (λ seen. seen behind) (seen_here tid) (λ t seen. seen_still last tid t behind seen)
        (λ t child seen. seen_more tid t at (child_live told t child) seen)
        (λ child. live_named now link.child_segment tid bodies width at.has.live)
        stands (so_before (λ b. IsCounted link relations b tid stands) (then so.step on) told (looked (on.below.passes.leaves.told.0 told_now))) in
        (list.0, list.1, list.2 ∙ ap (λ (n : ℕ). n + from_bool stands) was.2 ∙ sym is);
  }
    where
      counted_room : (s : Bool) → count_now ≡ count + from_bool s → count_now + room_behind (Some tid) ≤ 2 ^ 48 + 1
      counted_room true e = omega (arith, e, so.room, less_room last tid so.within width behind)
      counted_room false e = omega (arith, e, so.room, less_room last tid so.within width behind)

  pub counting_done : IsTold start.pages.disk → NoneIs (IsNext now link.child_segment last) → IsCount link relations start.bodies count
  counting_done told none =
      let was = so.are told in
      record { standing = was.0; are = counted_all was.1 (λ t child. seen_all t none (child_live told t child)); long = was.2 }

-- ---- a chain is walked

pub record Walking (link : Chains) (relations : Relations) (parent : Option Tid) (ends : Ends) (most : ℕ) (start now : TuplesView) (previous next : Option Tid) (count : ℕ) : Type 0 where
  pub cost : ℕ
  pub step : TuplesStep no_page no_tuple cost start now
  pub few : count ≤ most
  pub are : IsTold start.pages.disk → (front : List Tid) × IsFront link relations start.bodies parent ends front next × (previous ≡ last_of front) × (length front ≡ count)

pub walking_none : (link : Chains) (relations : Relations) (parent : Option Tid) (ends : Ends) (most : ℕ) (start : TuplesView) → (IsTold start.pages.disk → AreHeaps start.pages) → Walking link relations parent ends most start start None ends.first 0
walking_none link relations parent ends most start heaps = record { cost = 0; step = rested start heaps; few = omega arith; are = λ told. ([], front_none, refl, refl) }

module _ {link : Chains} {relations : Relations} {parent : Option Tid} {ends : Ends} {most : ℕ} {start now : TuplesView} {previous next : Option Tid} {count : ℕ} (so : Walking link relations parent ends most start now previous next count) where
  module _ (tid : Tid) (is : next ≡ Some tid) where
    pub walking_more : {cost : ℕ} (new : TuplesView) → TuplesStep no_page no_tuple cost now new → (behind : Option Tid) → (IsTold now.pages.disk → IsFollowed link relations now.bodies parent previous tid behind)
        → (count_now : ℕ) → count_now ≡ count + 1 → count_now ≤ most → Walking link relations parent ends most start new (Some tid) behind count_now
    walking_more new after behind followed count_now long few = record {
      cost = _;
      step = then so.step after;
      few = few;
      are = λ told.
          let was = so.are told in
          let said = so_before (λ b. IsFollowed link relations b parent previous tid behind) so.step told (followed (so.step.below.passes.leaves.told.0 told)) in (
            was.0 ++ tid ∷ [],
            front_more was.1 tid is behind (subst (λ (p : Option Tid). IsFollowed link relations start.bodies parent p tid behind) was.2 said),
            sym (last_behind was.0 [] tid),
            omega (arith, long, was.3, length-append was.0 (tid ∷ [])),
          );
    }

    pub walking_refused : (IsTold now.pages.disk → NotFollowed link relations now.bodies parent previous tid) → IsTold start.pages.disk → NoneIsWalked link relations start.bodies parent ends most
    walking_refused never told =
        let was = so.are told in
        let said = so_before (λ b. NotFollowed link relations b parent previous tid) so.step told (never (so.step.below.passes.leaves.told.0 told)) in
        λ list chain low. front_refused was.1 tid is (subst (λ (p : Option Tid). NotFollowed link relations start.bodies parent p tid) was.2 said) list chain

  pub walking_done : next ≡ None → previous ≡ ends.last → IsTold start.pages.disk → IsWalked link relations start.bodies parent ends count
  walking_done none last told = let was = so.are told in record { list = was.0; chain = front_done was.1 none (sym was.2 ∙ last); long = was.3 }

  pub walking_open : next ≡ None → (previous ≡ ends.last → ⊥) → IsTold start.pages.disk → NoneIsWalked link relations start.bodies parent ends most
  walking_open none differ told = let was = so.are told in λ list chain low. front_open was.1 none (λ last. differ (was.2 ∙ last)) list chain

-- ---- all chains are walked

-- the parents that don't stand behind the last one
abbrev pub IsSeenParent : Option Tid → Option Tid → Type 0
IsSeenParent last parent = (t : Tid) → parent ≡ Some t → IsSeen last t

pub record WalkingAll (link : Chains) (relations : Relations) (kept : Ends) (standing : ℕ) (start now : TuplesView) (last : Option Tid) (left : ℕ) : Type 0 where
  pub cost : ℕ
  pub step : TuplesStep no_page no_tuple cost start now
  pub within : IfSome last HasWidth
  pub few : left ≤ standing
  pub are : IsTold start.pages.disk → (walked : List Tid) × AreWalked link relations (seen_with kept start) (IsSeenParent last) walked × (left + length walked ≡ standing)

no_upper : (unary : Bool) (parents : Tid → Bool) (parent : Option Tid) → unary ≡ false → IsParent unary parents parent → (t : Tid) × (parent ≡ Some t) × (parents t ≡ true)
no_upper true parents parent kind is = absurd (false_true true kind refl)
no_upper false parents None kind is = absurd is
no_upper false parents (Some t) kind is = (t, refl, is)

upper_some : (unary : Bool) (parents : Tid → Bool) (parent : Option Tid) (t : Tid) → IsParent unary parents parent → parent ≡ Some t → parents t ≡ true
upper_some true parents None t is same = absurd cc
upper_some true parents (Some u) t is same = absurd is
upper_some false parents None t is same = absurd is
upper_some false parents (Some u) t is same = ap parents (sym (some_one u t same)) ∙ is

pub walking_all_none : (link : Chains) (relations : Relations) (kept : Ends) (standing : ℕ) (start : TuplesView) → link.unary ≡ false → (IsTold start.pages.disk → AreHeaps start.pages) → WalkingAll link relations kept standing start start None standing
walking_all_none link relations kept standing start kind heaps = record {
  cost = 0;
  step = rested start heaps;
  within = tt;
  few = omega arith;
  are = λ told. (
    [],
    walked_none
        (λ parent is seen. let its = no_upper link.unary (parents_of link relations start.bodies) parent kind is in seen its.0 its.1 tt)
        (λ t is seen. seen t refl tt),
    omega arith,
  );
}

module _ {link : Chains} {relations : Relations} {kept : Ends} {standing : ℕ} {start now : TuplesView} {last : Option Tid} {left : ℕ} (so : WalkingAll link relations kept standing start now last left) (kind : link.unary ≡ false) where
  -- a parent is a tuple that is there
  parent_live : IsTold start.pages.disk → (t : Tid) → parents_of link relations start.bodies t ≡ true → IsLive now link.parent_segment t
  parent_live told t is = begins_live relations.parent (now.bodies link.parent_segment t)
      (subst (λ (b : Bodies). begins_with relations.parent (b link.parent_segment t) ≡ true) (sym (same_bodies so.step told))
      (sym (cond-false link.unary false (begins_with relations.parent (start.bodies link.parent_segment t)) kind) ∙ is))

  module _ (tid : Tid) (width : HasWidth tid) (behind : IsAfter last tid) (bodies : now.bodies ≡ bodies_of now.pages.held) (first : IsTold now.pages.disk → IsLeast (IsNext now link.parent_segment last) tid) where
    one_more : IsTold start.pages.disk → (t : Tid) → parents_of link relations start.bodies t ≡ true → IsSeenParent (Some tid) (Some t) → (t ≡ tid) ⊎ IsSeenParent last (Some t)
    one_more told t is seen = elim (seen_more tid t (first (so.step.below.passes.leaves.told.0 told)) (parent_live told t is) (seen t refl)) [
      | inl same ↦ inl same
      | inr old ↦ inr (λ u same. subst (IsSeen last) (some_one t u same) old)
    ]

    one_more_of : IsTold start.pages.disk → (parent : Option Tid) → IsParentOf link relations start.bodies parent → IsSeenParent (Some tid) parent → (parent ≡ Some tid) ⊎ IsSeenParent last parent
    one_more_of told parent is seen =
        let its = no_upper link.unary (parents_of link relations start.bodies) parent kind is in
        elim (one_more told its.0 its.2 (subst (IsSeenParent (Some tid)) its.1 seen)) [
          | inl same ↦ inl (its.1 ∙ ap Some same)
          | inr old ↦ inr (subst (IsSeenParent last) (sym its.1) old)
        ]

    still : (parent : Option Tid) → IsSeenParent last parent → IsSeenParent (Some tid) parent
    still parent seen = λ t is. seen_still last tid t behind (seen t is)

    fresh : IsSeenParent last (Some tid) → ⊥
    fresh seen = seen tid refl behind

    named_more : IsTold start.pages.disk → (t : Tid) → parents_of link relations start.bodies t ≡ true → IsSeenParent (Some tid) (Some t) → IsNamed t
    named_more told t is seen = elim (one_more told t is seen) [
      | inl same ↦ subst IsNamed (sym same) (live_named now link.parent_segment tid bodies width (first (so.step.below.passes.leaves.told.0 told)).has.live)
      | inr old ↦ (so.are told).1.named t is old
    ]

    are_more : (told : IsTold start.pages.disk) (count : ℕ) → IsTaken link relations (seen_with kept start) tid count → (is_parent : Bool) → parents_of link relations start.bodies tid ≡ is_parent
        → (walked : List Tid) × AreWalked link relations (seen_with kept start) (IsSeenParent (Some tid)) walked × (length walked ≡ count + length (so.are told).0)
    are_more told count taken true is =
        let was = so.are told in
        let its = taken.of_parent is in (
          its.0 ++ was.0,
          walked_more was.1 still (Some tid) (as_parent_of link.unary (parents_of link relations start.bodies) tid kind is) fresh (λ t same. subst (IsSeen (Some tid)) (some_one tid t same) (seen_here tid)) its.0 its.1
              (one_more_of told) (named_more told),
          omega (arith, length-append its.0 was.0, its.2),
        )
    are_more told count taken false is =
        let was = so.are told in (
          was.0,
          walked_other was.1 still
              (λ parent upper seen. elim (one_more_of told parent upper seen) [
                | inl same ↦ absurd (false_true _ is (upper_some link.unary (parents_of link relations start.bodies) parent tid upper same))
                | inr old ↦ old
              ])
              (λ t upper seen. elim (one_more told t upper seen) [
                | inl same ↦ absurd (false_true _ is (ap (parents_of link relations start.bodies) (sym same) ∙ upper))
                | inr old ↦ old
              ]),
          omega (arith, taken.none is),
        )

    pub walking_all_more : {cost cost_then : ℕ} (mid new : TuplesView) → TuplesStep no_page no_tuple cost now mid → TuplesStep no_page no_tuple cost_then mid new → (count : ℕ) → (IsTold mid.pages.disk → IsTaken link relations (seen_with kept mid) tid count)
        → (left_now : ℕ) → left_now + count ≡ left → WalkingAll link relations kept standing start new (Some tid) left_now
    walking_all_more mid new on after count taken left_now sum = record {
      cost = _;
      step = then so.step (then on after);
      within = width;
      few = omega (arith, sum, so.few);
      are = λ told.
          let was = so.are told in
          let said = so_before (λ b. IsTaken link relations (record { ends = kept; tuples = record { pages = mid.pages; bodies = b } }) tid count) (then so.step on) told (taken ((then so.step on).below.passes.leaves.told.0 told)) in
          let its : IsTaken link relations (seen_with kept start) tid count = record { of_parent = λ is. let chain = said.of_parent is in (chain.0, record { ends = chain.1.ends; says = chain.1.says; chain = chain.1.chain }, chain.2); none = said.none } in
          let list = are_more told count its (parents_of link relations start.bodies tid) refl in
          (list.0, list.1, omega (arith, list.2, was.2, sum));
    }

    pub walking_all_refused : {cost : ℕ} (mid : TuplesView) → TuplesStep no_page no_tuple cost now mid → (IsTold mid.pages.disk → IsNotTaken link relations (seen_with kept mid) tid left) → IsTold start.pages.disk → NoneAreWalked link relations (seen_with kept start) standing
    walking_all_refused mid on refused told = λ counted has.
        let was = so.are told in
        let said = so_before (λ b. IsNotTaken link relations (record { ends = kept; tuples = record { pages = mid.pages; bodies = b } }) tid left) (then so.step on) told (refused ((then so.step on).below.passes.leaves.told.0 told)) in
        never_too_long was.1 counted.are (Some tid) (as_parent_of link.unary (parents_of link relations start.bodies) tid kind said.is_parent) fresh left (was.2 ∙ sym counted.long)
        (λ ends says list chain low. said.never ends says list chain low) has

  module _ (told : IsTold start.pages.disk) (none : NoneIs (IsNext now link.parent_segment last)) where
    all_seen : (t : Tid) → parents_of link relations start.bodies t ≡ true → IsSeenParent last (Some t)
    all_seen t is = λ u same. subst (IsSeen last) (some_one t u same) (seen_all t none (parent_live told t is))

    all_are : (walked : List Tid) × AreWalked link relations (seen_with kept start) (λ parent. Unit {0}) walked × (left + length walked ≡ standing)
    all_are =
        let was = so.are told in (
          was.0,
          walked_other was.1 (λ parent seen. tt)
              (λ parent is seen. let its = no_upper link.unary (parents_of link relations start.bodies) parent kind is in subst (IsSeenParent last) (sym its.1) (all_seen its.0 its.2))
              (λ t is seen. all_seen t is),
          was.2,
        )

    pub walking_all_done : left ≡ 0 → AllWalked link relations (seen_with kept start) standing
    walking_all_done is = let all = all_are in record { walked = all.0; are = all.1; long = omega (arith, all.2, is) }

    pub walking_all_left : (left ≡ 0 → ⊥) → NoneAreWalked link relations (seen_with kept start) standing
    walking_all_left some = λ counted has. let all = all_are in never_fewer all.1 counted.are (λ same. some (omega (arith, same, all.2, counted.long))) has

-- ---- the one chain of a unary link

no_parent : (link : Chains) (relations : Relations) (bodies : Bodies) (t : Tid) → link.unary ≡ true → parents_of link relations bodies t ≡ true → ⊥
no_parent link relations bodies t kind is = false_true false refl (sym (cond-true link.unary false (begins_with relations.parent (bodies link.parent_segment t)) kind) ∙ is)

none_yet : {link : Chains} {relations : Relations} {kept : Ends} {start : TuplesView} → AreWalked link relations (seen_with kept start) (λ parent. ⊥) []
none_yet = walked_none (λ parent is seen. seen) (λ t is seen. seen)

module _ {link : Chains} {relations : Relations} {kept : Ends} {start : TuplesView} (kind : link.unary ≡ true) where
  module _ {count : ℕ} (walked : IsWalked link relations start.bodies None kept count) where
    alone_all : (list : List Tid) × AreWalked link relations (seen_with kept start) (λ parent. Unit {0}) list × (length list ≡ count)
    alone_all = (
      walked.list ++ [],
      walked_more none_yet (λ parent seen. tt) None (none_parent link.unary (parents_of link relations start.bodies) kind) (λ seen. seen) tt walked.list
          (record { ends = kept; says = refl; chain = walked.chain })
          (λ parent is seen. inl (only_none link.unary (parents_of link relations start.bodies) parent kind is)) (λ t is seen. absurd (no_parent link relations start.bodies t kind is)),
      omega (arith, length-append walked.list [], walked.long),
    )

    pub alone_done : {standing : ℕ} → count ≡ standing → AllWalked link relations (seen_with kept start) standing
    alone_done is = record { walked = alone_all.0; are = alone_all.1; long = alone_all.2 ∙ is }

    pub alone_left : {standing : ℕ} → (count ≡ standing → ⊥) → NoneAreWalked link relations (seen_with kept start) standing
    alone_left differ = λ counted has. never_fewer alone_all.1 counted.are (λ same. differ (omega (arith, same, alone_all.2, counted.long))) has

  pub alone_refused : {standing : ℕ} → NoneIsWalked link relations start.bodies None kept standing → NoneAreWalked link relations (seen_with kept start) standing
  alone_refused {standing = standing} never = λ counted has. never_too_long none_yet counted.are None (none_parent link.unary (parents_of link relations start.bodies) kind) (λ seen. seen) standing (omega (arith, counted.long))
      (λ ends says list chain low. never list (subst (λ (e : Ends). IsChain link relations start.bodies None e list) (sym says) chain) low) has

-- ---- the chain below one parent

module _ {link : Chains} {bodies : Bodies} {t : Tid} {read slice : List ℕ} {at : ℕ} (body : bodies link.parent_segment t ≡ Some read) (bytes : slice ≡ read) (place : at ≡ link.parent_at) where
  pub ends_said : (ends : Ends) → HasEnds slice at ends → BodySaysEnds link bodies t ends
  ends_said ends has = record { body = slice; there = body ∙ ap Some (sym bytes); block = subst (λ (n : ℕ). HasEnds slice n ends) place has }

  pub ends_had : (ends : Ends) → BodySaysEnds link bodies t ends → HasEnds slice at ends
  ends_had ends says =
      let same : says.body ≡ slice = some_one _ _ (sym says.there ∙ body ∙ ap Some (sym bytes)) in
      subst (λ (n : ℕ). HasEnds slice n ends) (sym place) (subst (λ (l : List ℕ). HasEnds l link.parent_at ends) same says.block)

pub is_upper : (link : Chains) (relations : Relations) (bodies : Bodies) (t : Tid) → link.unary ≡ false → begins_with relations.parent (bodies link.parent_segment t) ≡ true → parents_of link relations bodies t ≡ true
is_upper link relations bodies t kind begins = cond-false link.unary false (begins_with relations.parent (bodies link.parent_segment t)) kind ∙ begins

module _ (link : Chains) (relations : Relations) (kept : Ends) {old mid : TuplesView} {cost : ℕ} (step : TuplesStep no_page no_tuple cost old mid) (told : IsTold old.pages.disk) where
  module _ {t : Tid} (most : ℕ) (upper : parents_of link relations old.bodies t ≡ true) (ends : Ends) (says : BodySaysEnds link old.bodies t ends) where
    pub taken_below : (found : Option ℕ) → MatchOption found (NoneIsWalked link relations mid.bodies (Some t) ends most) (IsWalked link relations mid.bodies (Some t) ends)
        → MatchOption found (IsNotTaken link relations (seen_with kept old) t most) (IsTaken link relations (seen_with kept old) t)
    taken_below None never =
        let said = so_before (λ b. NoneIsWalked link relations b (Some t) ends most) step told never in
        record {
          is_parent = upper;
          never = λ others says_too list chain low. said list
              (subst (λ (e : Ends). IsChain link relations old.bodies (Some t) e list) (ends_one link kept old.bodies (Some t) others ends says_too says) chain) low;
        }
    taken_below (Some count) walked =
        let said = so_before (λ b. IsWalked link relations b (Some t) ends count) step told walked in
        record {
          of_parent = λ is. (said.list, record { ends = ends; says = says; chain = said.chain }, said.long);
          none = λ other. absurd (false_true _ other upper);
        }

  -- ---- the answer

  module _ {standing : ℕ} (counted : IsCount link relations old.bodies standing) where
    pub checked_yes : AllWalked link relations (seen_with kept mid) standing → HasChains link relations (seen_with kept old)
    checked_yes all =
        let said = so_before (λ b. AllWalked link relations (record { ends = kept; tuples = record { pages = mid.pages; bodies = b } }) standing) step told all in
        let has = all_spelled said.are counted.are (said.long ∙ sym counted.long) in
        record { lists = has.lists; spells = has.spells }

    pub checked_no : NoneAreWalked link relations (seen_with kept mid) standing → HasChains link relations (seen_with kept old) → ⊥
    checked_no none has =
        let said = so_before (λ b. NoneAreWalked link relations (record { ends = kept; tuples = record { pages = mid.pages; bodies = b } }) standing) step told none in
        said counted (record { lists = has.lists; spells = has.spells })
