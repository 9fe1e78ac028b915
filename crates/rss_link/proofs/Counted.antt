-- The children that say that they stand in chains.
use Rattle.std.proofs.Common.{◌≡◌, ◌⊎◌, inl, inr, ℕ, ◌+◌, Bool, true, false, List, [], ◌∷◌, length, Option, Some, refl, sym, ◌∙◌, ap, subst, arith}
use Rattle.std.specs.Int.{from_bool}
use Rattle.rss_base.specs.declared.tid.Tid.{Tid}
use Rattle.rss_tuple.specs.Directory.{Bodies}
use Rattle.rss_model.specs.Chains.{stands_in}
use Rattle.rss_link.specs.declared.link.Chains.{Chains}
use Rattle.rss_link.specs.declared.link.Relations.{Relations}
use Rattle.rss_link.specs.declared.blocks.Standing.{Standing}
use Rattle.rss_link.specs.declared.blocks.Standing.TheVariants.{Outside, Within}
use Rattle.rss_link.specs.Blocks.{IsNamed, HasStanding}
use Rattle.rss_link.specs.Links.{Says}
use Rattle.rss_link.specs.Edits.{SaysSome}
use Rattle.rss_link.specs.Checking.{children_of, AreDistinct, SaysPlace, IsCounted, AreCounted, IsFollowed, NotFollowed}
use Rattle.rss_link.proofs.Lists.{false_true, false_where, some_one}
use Rattle.rss_link.proofs.Meaning.{says_one}
use Rattle.rss_link.proofs.Once.{stands_first, stands_more, stands_cases}

place_one : {p q l r m s : Option Tid} → Within p l r ≡ Within q m s → (p ≡ q) × (l ≡ m)
place_one same = (cc, cc)

-- it says one of the two
pub never_both : {link : Chains} {bodies : Bodies} {t : Tid} → SaysPlace link bodies t → (says : Standing) → says ≡ Outside → Says link bodies t says → ⊥
never_both {link = link} {bodies = bodies} {t = t} place says is said =
    let both : Within place.parent place.previous place.next ≡ says = says_one link bodies t _ _ place.says said in
    absurd cc

module _ {link : Chains} {relations : Relations} {bodies : Bodies} where
  pub counted_none : {seen : Tid → Type 0} → ((t : Tid) → seen t → ⊥) → AreCounted link relations bodies seen []
  counted_none none = record {
    says = λ t there child. absurd (none t there);
    named = λ t there child. absurd (none t there);
    distinct = λ t there child. absurd (none t there);
    within = λ t there. absurd (false_true false refl there);
    all = λ t there child place. absurd (none t there);
    once = tt;
  }

  -- of one more tuple
  module _ {seen now : Tid → Type 0} {standing : List Tid} (so : AreCounted link relations bodies seen standing) (tid : Tid) (fresh : seen tid → ⊥) (here : now tid) (keeps : (t : Tid) → seen t → now t)
      (back : (t : Tid) → children_of link relations bodies t ≡ true → now t → (t ≡ tid) ⊎ seen t) (named : children_of link relations bodies tid ≡ true → IsNamed tid) where
    each : (P : Tid → Type 0) → (children_of link relations bodies tid ≡ true → P tid) → ((t : Tid) → seen t → children_of link relations bodies t ≡ true → P t)
        → (t : Tid) → now t → children_of link relations bodies t ≡ true → P t
    each P one old t there child = elim (back t child there) [
      | inl same ↦ subst P (sym same) (one (ap (children_of link relations bodies) (sym same) ∙ child))
      | inr was ↦ old t was child
    ]

    pub counted_more : (stands : Bool) → IsCounted link relations bodies tid stands → (list : List Tid) × AreCounted link relations bodies now list × (length list ≡ length standing + from_bool stands)
    counted_more true looked = (
      tid ∷ standing,
      record {
        says = each (SaysSome link bodies) looked.says so.says;
        named = each IsNamed named so.named;
        distinct = each (λ t. AreDistinct link relations) looked.distinct so.distinct;
        within = λ t there. elim (stands_cases t tid standing there) [
          | inl same ↦ subst (λ (x : Tid). now x × (children_of link relations bodies x ≡ true) × SaysPlace link bodies x) (sym same) (here, (looked.within refl).0, (looked.within refl).1)
          | inr old ↦ let was = so.within t old in (keeps t was.0, was.1, was.2)
        ];
        all = λ t there child place. elim (back t child there) [
          | inl same ↦ stands_first t tid standing same
          | inr was ↦ stands_more t tid standing (so.all t was child place)
        ];
        once = (false_where (stands_in tid standing) (λ there. fresh (so.within tid there).0), so.once);
      },
      omega arith,
    )
    counted_more false looked = (
      standing,
      record {
        says = each (SaysSome link bodies) looked.says so.says;
        named = each IsNamed named so.named;
        distinct = each (λ t. AreDistinct link relations) looked.distinct so.distinct;
        within = λ t there. let was = so.within t there in (keeps t was.0, was.1, was.2);
        all = λ t there child place. elim (back t child there) [
          | inl same ↦ absurd (never_both (subst (SaysPlace link bodies) same place) Outside refl (looked.outside refl (ap (children_of link relations bodies) (sym same) ∙ child)))
          | inr was ↦ so.all t was child place
        ];
        once = so.once;
      },
      omega arith,
    )

  -- all were seen
  pub counted_all : {seen : Tid → Type 0} {standing : List Tid} → AreCounted link relations bodies seen standing → ((t : Tid) → children_of link relations bodies t ≡ true → seen t) → AreCounted link relations bodies (λ t. Unit {0}) standing
  counted_all so all = record {
    says = λ t there child. so.says t (all t child) child;
    named = λ t there child. so.named t (all t child) child;
    distinct = λ t there child. so.distinct t (all t child) child;
    within = λ t there. let was = so.within t there in (tt, was.1, was.2);
    all = λ t there child place. so.all t (all t child) child place;
    once = so.once;
  }

-- ---- what was read of a child

module _ {link : Chains} {bodies : Bodies} {t : Tid} {read slice : List ℕ} {at : ℕ} (body : bodies link.child_segment t ≡ Some read) (bytes : slice ≡ read) (place : at ≡ link.child_at) where
  pub says_read : (standing : Standing) → HasStanding link.unary slice at standing → Says link bodies t standing
  says_read standing has = record { body = slice; there = body ∙ ap Some (sym bytes); block = subst (λ (n : ℕ). HasStanding link.unary slice n standing) place has }

  pub block_read : (standing : Standing) → Says link bodies t standing → HasStanding link.unary slice at standing
  block_read standing says =
      let same : says.body ≡ slice = some_one _ _ (sym says.there ∙ body ∙ ap Some (sym bytes)) in
      subst (λ (n : ℕ). HasStanding link.unary slice n standing) (sym place) (subst (λ (l : List ℕ). HasStanding link.unary l link.child_at standing) same says.block)

module _ {link : Chains} {relations : Relations} {bodies : Bodies} {t : Tid} where
  pub counted_within : children_of link relations bodies t ≡ true → AreDistinct link relations → {parent previous next : Option Tid} → Says link bodies t (Within parent previous next) → IsCounted link relations bodies t true
  counted_within child distinct says = record {
    says = λ is. record { standing = _; says = says };
    distinct = λ is. distinct;
    within = λ is. (child, record { parent = _; previous = _; next = _; says = says });
    outside = λ never. absurd (false_true true never refl);
  }

  pub counted_outside : AreDistinct link relations → Says link bodies t Outside → IsCounted link relations bodies t false
  counted_outside distinct says = record {
    says = λ is. record { standing = Outside; says = says };
    distinct = λ is. distinct;
    within = λ never. absurd (false_true false refl never);
    outside = λ is child. says;
  }

  -- it stands in the chain of this parent, behind this one, or it doesn't say so
  pub followed : children_of link relations bodies t ≡ true → {other before parent previous next : Option Tid} → Says link bodies t (Within other before next) → other ≡ parent → before ≡ previous → IsFollowed link relations bodies parent previous t next
  followed child {next = next} says parents previouses = record { is_child = child; says = subst (λ (s : Standing). Says link bodies t s) (λ i. Within (parents i) (previouses i) next) says }

  pub other_place : {other before parent previous next : Option Tid} → Says link bodies t (Within other before next) → ((other ≡ parent) × (before ≡ previous) → ⊥) → NotFollowed link relations bodies parent previous t
  other_place says differ = λ found it. differ (place_one (says_one link bodies t _ _ says it.says))
