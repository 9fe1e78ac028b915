-- Which slot a page has, by the owners of the slots.
use Rattle.std.proofs.Common.{◌≡◌, ◌≢◌, ◌↔◌, inl, inr, ℕ, ◌+◌, zero, suc, true, false, List, [], ◌∷◌, Option, Some, None, refl, sym, ◌∙◌, ap}
use Rattle.std.specs.Prelude.{is_some, IfSome, IfNone}
use Rattle.std.proofs.Math.Path.{fun_ext}
use Rattle.std.proofs.lemmas.Bool.{cases_Bool, cond-true, cond-false}
use Rattle.rss_base.specs.PageMap.{owner_of, AreDistinct}
use Rattle.rss_base.specs.Paged.{is_same, with_mapped}
use Rattle.rss_base.specs.declared.key.PageKey.{PageKey}
use Rattle.rss_shadow.specs.Maps.{HasPage, LacksPage}
use Rattle.rss_shadow.proofs.Slots.{Changes}
use Rattle.rss_base.specs.StoredPages.{slot_from, slot_of, mapped_by}
use Rattle.rss_base.proofs.Keys.{is_same-itself, is_same-true, owner_of-slot_of, the_slot}

abbrev Owners : Type 0
Owners = List (Option PageKey)

-- a page that has a slot is found
some_found : (n : ℕ) (owners : Owners) (key : PageKey) (t : ℕ) → owner_of owners t ≡ Some key → (s : ℕ) × (slot_from n owners key ≡ Some s)
some_found n [] key t is = absurd (cc)
some_found n (None ∷ owners) key zero is = absurd (cc)
some_found n (None ∷ owners) key (suc t) is = some_found (n + 1) owners key t is
some_found n (Some owner ∷ owners) key zero is =
    let at : owner ≡ key = cc in
    (n, cond-true (is_same owner key) (Some n) (slot_from (n + 1) owners key) (ap (λ (k : PageKey). is_same k key) at ∙ is_same-itself key))
some_found n (Some owner ∷ owners) key (suc t) is = elim (cases_Bool (is_same owner key)) [
  | inl here ↦ (n, cond-true (is_same owner key) (Some n) (slot_from (n + 1) owners key) here)
  | inr later ↦
      let rest = some_found (n + 1) owners key t is in
      (rest.0, cond-false (is_same owner key) (Some n) (slot_from (n + 1) owners key) later ∙ rest.1)
]

pub slot_of-owned : (owners : Owners) (key : PageKey) (s : ℕ) → AreDistinct owners → owner_of owners s ≡ Some key → slot_of owners key ≡ Some s
slot_of-owned owners key s distinct is =
    let found = some_found 0 owners key s is in
    found.1 ∙ ap Some (distinct found.0 s key (owner_of-slot_of owners key found.0 found.1) is)

pub slot_of-lacks : (owners : Owners) (key : PageKey) → LacksPage owners key → slot_of owners key ≡ None
slot_of-lacks owners key lacks = none_by (slot_of owners key) (λ s is. lacks s (owner_of-slot_of owners key s is))
  where
    none_by : (o : Option ℕ) → ((s : ℕ) → o ≡ Some s → ⊥) → o ≡ None
    none_by None none = refl
    none_by (Some s) none = absurd (none s refl)

-- ---- the pages of a map

pub mapped-owned : (owners : Owners) (key : PageKey) (s : ℕ) → owner_of owners s ≡ Some key → mapped_by owners key ≡ true
mapped-owned owners key s is = ap (λ (o : Option ℕ). is_some o) (some_found 0 owners key s is).1

pub mapped-has : (owners : Owners) (key : PageKey) → HasPage owners key → mapped_by owners key ≡ true
mapped-has owners key has = mapped-owned owners key has.slot has.owned

pub HasPage-mapped : (owners : Owners) (key : PageKey) → mapped_by owners key ≡ true → HasPage owners key
HasPage-mapped owners key is = let slot = the_slot owners key is in record { slot = slot.0; owned = owner_of-slot_of owners key slot.0 slot.1 }

pub mapped-lacks : (owners : Owners) (key : PageKey) → LacksPage owners key → mapped_by owners key ≡ false
mapped-lacks owners key lacks = ap (λ (o : Option ℕ). is_some o) (slot_of-lacks owners key lacks)

pub LacksPage-unmapped : (owners : Owners) (key : PageKey) → mapped_by owners key ≡ false → LacksPage owners key
LacksPage-unmapped owners key is s owned = let mapped = mapped-owned owners key s owned in absurd (cc)

-- what a look for a page's slot answered
pub mapped-answer : (owners : Owners) (key : PageKey) (answer : Option ℕ) → IfSome answer (λ slot. owner_of owners slot ≡ Some key) → IfNone answer (LacksPage owners key) → is_some answer ≡ mapped_by owners key
mapped-answer owners key None some none = sym (mapped-lacks owners key none)
mapped-answer owners key (Some slot) some none = sym (mapped-owned owners key slot some)

-- ---- after a change of one page's slot

same_option : (a b : Option ℕ) → ((s : ℕ) → (a ≡ Some s) ↔ (b ≡ Some s)) → a ≡ b
same_option None None alike = refl
same_option None (Some s) alike = (alike s).1 refl
same_option (Some s) b alike = sym ((alike s).0 refl)

slot_of-iff : (owners : Owners) (key : PageKey) (s : ℕ) → AreDistinct owners → (slot_of owners key ≡ Some s) ↔ (owner_of owners s ≡ Some key)
slot_of-iff owners key s distinct = (owner_of-slot_of owners key s, slot_of-owned owners key s distinct)

module _ (old new : Owners) (key : PageKey) (slot : Option ℕ) (was : AreDistinct old) (is : AreDistinct new) (changes : Changes old new key slot) where
  pub slot_of-here : slot_of new key ≡ slot
  slot_of-here = same_option (slot_of new key) slot (λ s. (
    λ found. (changes.here s).1 ((slot_of-iff new key s is).0 found),
    λ here. (slot_of-iff new key s is).1 ((changes.here s).0 here),
  ))

  pub slot_of-others : (other : PageKey) → other ≢ key → slot_of new other ≡ slot_of old other
  slot_of-others other apart = same_option (slot_of new other) (slot_of old other) (λ s. (
    λ found. (slot_of-iff old other s was).1 ((changes.others s other apart).1 ((slot_of-iff new other s is).0 found)),
    λ found. (slot_of-iff new other s is).1 ((changes.others s other apart).0 ((slot_of-iff old other s was).0 found)),
  ))

  pub mapped-changed : mapped_by new ≡ with_mapped (mapped_by old) key (is_some slot)
  mapped-changed = fun_ext (λ other. elim (cases_Bool (is_same other key)) [
    | inl same ↦ ap (λ (k : PageKey). mapped_by new k) (is_same-true other key same) ∙ ap (λ (o : Option ℕ). is_some o) slot_of-here ∙ sym (cond-true (is_same other key) (is_some slot) (mapped_by old other) same)
    | inr off ↦ ap (λ (o : Option ℕ). is_some o) (slot_of-others other (λ at. let same : is_same other key ≡ true = ap (λ (k : PageKey). is_same k key) at ∙ is_same-itself key in absurd (cc))) ∙ sym (cond-false (is_same other key) (is_some slot) (mapped_by old other) off)
  ])
