-- An index and the slots in use, as slots are given and taken.
use Rattle.std.proofs.Common.{◌≡◌, ◌≢◌, ◌⊎◌, inl, inr, ◌↔◌, ℕ, ◌+◌, ◌<◌, Bool, true, false, ◌||◌, List, [], ◌∷◌, length, set, refl, sym, ◌∙◌, ap, subst, arith, length-set, get_or-set_same, get_or-set_other}
use Rattle.std.specs.Prelude.{Option, Some, None, is_some, count_by, slice_index_or}
use Rattle.std.specs.List.{All}
use Rattle.std.proofs.lemmas.Bool.{cases_eq}
use Rattle.rss_base.specs.PageMap.{IsKey, owner_of, AreDistinct, page_count}
use Rattle.rss_base.specs.declared.key.PageKey.{PageKey}
use Rattle.rss_shadow.specs.Maps.{LacksPage}
use Rattle.rss_shadow.specs.Index.{Columns, column_at, slot_in, PutsSlot}
use Rattle.rss_shadow.specs.Shadow.{IsIndexOf, AreUsedBy}
use Rattle.rss_shadow.proofs.Columns.{column_at-injective, same_key}
use Rattle.rss_shadow.proofs.Counts.{Owners, Assigns, Cover}

-- two pages are one or not
cases_key : (slots : ℕ) (key other : PageKey) → IsKey slots key → IsKey slots other → (key ≡ other) ⊎ (key ≡ other → ⊥)
cases_key slots key other is also = elim (cases_eq key.number other.number) [
  | inl number ↦ elim (cases_eq (column_at key.space key.segment) (column_at other.space other.segment)) [
    | inl place ↦ inl (same_key key other (column_at-injective _ _ _ _ is.segment also.segment place) number)
    | inr apart ↦ inr (λ same. apart (ap (λ (k : PageKey). column_at k.space k.segment) same))
  ]
  | inr apart ↦ inr (λ same. apart (ap (λ (k : PageKey). k.number) same))
]

-- the page has this slot, or none, and every other page those that it had
pub record Changes (old new : Owners) (key : PageKey) (slot : Option ℕ) : Type 0 where
  pub here : (s : ℕ) → (slot ≡ Some s) ↔ (owner_of new s ≡ Some key)
  pub others : (s : ℕ) (other : PageKey) → other ≢ key → (owner_of old s ≡ Some other) ↔ (owner_of new s ≡ Some other)

pub Changes-then : (old mid new : Owners) (key : PageKey) (first second : Option ℕ) → Changes old mid key first → Changes mid new key second → Changes old new key second
Changes-then old mid new key first second one two = record {
  here = two.here;
  others = λ s other apart. (λ is. (two.others s other apart).0 ((one.others s other apart).0 is), λ is. (one.others s other apart).1 ((two.others s other apart).1 is));
}

pub Changes-gains : (old new : Owners) (key : PageKey) (slot : ℕ) → Assigns old new slot (Some key) → owner_of old slot ≡ None → LacksPage old key → Changes old new key (Some slot)
Changes-gains old new key slot one free lacks = record {
  here = λ s. (
    λ is. subst (λ (t : ℕ). owner_of new t ≡ Some key) (cc) one.here,
    λ is. elim (cases_eq s slot) [
      | inl same ↦ ap Some (sym same)
      | inr apart ↦ absurd (lacks s (sym (one.others s apart) ∙ is))
    ],
  );
  others = λ s other off. elim (cases_eq s slot) [
    | inl same ↦ (
      λ is. absurd (let was : owner_of old s ≡ None = ap (owner_of old) same ∙ free in cc),
      λ is. absurd (off (let now : owner_of new s ≡ Some key = ap (owner_of new) same ∙ one.here in cc)),
    )
    | inr apart ↦ (λ is. one.others s apart ∙ is, λ is. sym (one.others s apart) ∙ is)
  ];
}

pub Changes-loses : (old new : Owners) (key : PageKey) (slot : ℕ) → Assigns old new slot None → owner_of old slot ≡ Some key → AreDistinct old → Changes old new key None
Changes-loses old new key slot one owned distinct = record {
  here = λ s. (
    λ is. absurd (cc),
    λ is. elim (cases_eq s slot) [
      | inl same ↦ absurd (let now : owner_of new s ≡ None = ap (owner_of new) same ∙ one.here in cc)
      | inr apart ↦ absurd (apart (distinct s slot key (sym (one.others s apart) ∙ is) owned))
    ],
  );
  others = λ s other off. elim (cases_eq s slot) [
    | inl same ↦ (
      λ is. absurd (off (let was : owner_of old s ≡ Some key = ap (owner_of old) same ∙ owned in cc)),
      λ is. absurd (let now : owner_of new s ≡ None = ap (owner_of new) same ∙ one.here in cc),
    )
    | inr apart ↦ (λ is. one.others s apart ∙ is, λ is. sym (one.others s apart) ∙ is)
  ];
}

-- 1 for a slot
abbrev pub one_slot : Option ℕ → ℕ
one_slot slot = count_by is_some (slot ∷ [])

pub IsIndexOf-puts : (slots : ℕ) (old new : Owners) (index after : Columns) (key : PageKey) (slot : Option ℕ) → IsKey slots key → IsIndexOf slots old index → PutsSlot index after key slot → Changes old new key slot → page_count new + count_by is_some (slot_in index key ∷ []) ≡ page_count old + count_by is_some (slot ∷ []) → IsIndexOf slots new after
IsIndexOf-puts slots old new index after key slot is holds puts changes count = record {
  numbers = puts.numbers ∙ holds.numbers;
  indexed = λ other s also. elim (cases_key slots other key also is) [
    | inl same ↦ subst (λ (k : PageKey). (slot_in after k ≡ Some s) ↔ (owner_of new s ≡ Some k)) (sym same)
        (λ there. (changes.here s).0 (sym puts.here ∙ there), λ there. puts.here ∙ (changes.here s).1 there)
    | inr apart ↦
        let same : slot_in after other ≡ slot_in index other = puts.others other (subst (λ (n : ℕ). IsKey n other) (sym holds.numbers) also) apart in (
          λ there. (changes.others s other apart).0 ((holds.indexed other s also).0 (sym same ∙ there)),
          λ there. same ∙ (holds.indexed other s also).1 ((changes.others s other apart).1 there),
        )
  ];
  counted = omega (arith, puts.pages, holds.counted, count);
}

pub unindexed : (slots : ℕ) (owners : Owners) (index : Columns) (key : PageKey) → IsIndexOf slots owners index → IsKey slots key → LacksPage owners key → slot_in index key ≡ None
unindexed slots owners index key holds is lacks = none_of (slot_in index key) (λ s there. lacks s ((holds.indexed key s is).0 there))
  where
    none_of : (o : Option ℕ) → ((s : ℕ) → o ≡ Some s → ⊥) → o ≡ None
    none_of None not = refl
    none_of (Some s) not = absurd (not s refl)

pub lacks_unindexed : (slots : ℕ) (owners : Owners) (index : Columns) (key : PageKey) → IsIndexOf slots owners index → IsKey slots key → slot_in index key ≡ None → LacksPage owners key
lacks_unindexed slots owners index key holds is none s owned = let there : slot_in index key ≡ Some s = (holds.indexed key s is).1 owned in absurd (cc)

-- ---- the slots in use

pub AreUsedBy-set : (slots : ℕ) (old new shadow : Owners) (used : List Bool) (slot : ℕ) (owner : Option PageKey) (now : Bool) → slot < slots → Assigns old new slot owner → now ≡ (is_some owner || is_some (owner_of shadow slot)) → AreUsedBy slots old shadow used → AreUsedBy slots new shadow (set used slot now)
AreUsedBy-set slots old new shadow used slot owner now within one is holds = record {
  count = length-set used slot now ∙ holds.count;
  uses = λ s s_in. elim (cases_eq s slot) [
    | inl same ↦ ap (λ (t : ℕ). slice_index_or (set used slot now) t true) same
        ∙ get_or-set_same used slot now true (omega (arith, holds.count)) ∙ is
        ∙ ap (λ (o : Option PageKey). is_some o || is_some (owner_of shadow slot)) (sym one.here)
        ∙ ap (λ (t : ℕ). is_some (owner_of new t) || is_some (owner_of shadow t)) (sym same)
    | inr apart ↦ get_or-set_other used slot s now true apart ∙ holds.uses s s_in ∙ ap (λ (o : Option PageKey). is_some o || is_some (owner_of shadow s)) (sym (one.others s apart))
  ];
}

pub AreUsedBy-stays : (slots : ℕ) (old new shadow : Owners) (used : List Bool) (slot : ℕ) (owner : Option PageKey) → Assigns old new slot owner → (is_some (owner_of old slot) || is_some (owner_of shadow slot)) ≡ (is_some owner || is_some (owner_of shadow slot)) → AreUsedBy slots old shadow used → AreUsedBy slots new shadow used
AreUsedBy-stays slots old new shadow used slot owner one is holds = record {
  count = holds.count;
  uses = λ s s_in. holds.uses s s_in ∙ elim (cases_eq s slot) [
    | inl same ↦ ap (λ (t : ℕ). is_some (owner_of old t) || is_some (owner_of shadow t)) same ∙ is
        ∙ ap (λ (o : Option PageKey). is_some o || is_some (owner_of shadow slot)) (sym one.here)
        ∙ ap (λ (t : ℕ). is_some (owner_of new t) || is_some (owner_of shadow t)) (sym same)
    | inr apart ↦ ap (λ (o : Option PageKey). is_some o || is_some (owner_of shadow s)) (sym (one.others s apart))
  ];
}

-- a slot that isn't in use is used by neither map
pub unused : (slots : ℕ) (current shadow : Owners) (used : List Bool) (slot : ℕ) → AreUsedBy slots current shadow used → slot < slots → slice_index_or used slot true ≡ false → (owner_of current slot ≡ None) × (owner_of shadow slot ≡ None)
unused slots current shadow used slot holds within is = neither _ _ (sym (holds.uses slot within) ∙ is)
  where
    neither : (x y : Option PageKey) → (is_some x || is_some y) ≡ false → (x ≡ None) × (y ≡ None)
    neither None None is = (refl, refl)
    neither None (Some key) is = absurd (cc)
    neither (Some key) y is = absurd (cc)

-- if all slots are in use, each is used by one map or the other
pub Cover-used : (current shadow : Owners) (used : List Bool) → AreUsedBy (length current) current shadow used → All (λ (u : Bool). u ≡ true) used → Cover current shadow
Cover-used current shadow used holds all s within = sym (holds.uses s within) ∙ all s true (omega (arith, holds.count))
