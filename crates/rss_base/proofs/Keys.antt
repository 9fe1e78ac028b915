-- When two keys name one page, and which slot a page has.
use Rattle.std.proofs.Common.{◌≡◌, ◌≢◌, ℕ, ◌+◌, suc, true, false, inl, inr, List, [], ◌∷◌, Option, Some, None, rules, refl, sym, ◌∙◌, ap, arith}
use Rattle.std.specs.Prelude.{is_some}
use Rattle.std.proofs.lemmas.Bool.{cases_Bool, cond-true, cond-false, false_from_ne_true}
use Rattle.rss_base.specs.PageMap.{owner_of}
use Rattle.rss_base.specs.Paged.{is_same}
use Rattle.rss_base.specs.StoredPages.{slot_from, slot_of, mapped_by}
use Rattle.rss_base.specs.declared.key.PageKey.{PageKey}

pub is_same-true : (a b : PageKey) → is_same a b ≡ true → a ≡ b
is_same-true a b is = search rules

pub is_same-itself : (a : PageKey) → is_same a a ≡ true
is_same-itself a = search rules

pub is_same-other : (a b : PageKey) → a ≢ b → is_same a b ≡ false
is_same-other a b apart = false_from_ne_true (is_same a b) (λ same. apart (is_same-true a b same))

-- ---- the slot of a page

-- what is found of a page is a slot of it
pub found_at : (n : ℕ) (owners : List (Option PageKey)) (key : PageKey) (s : ℕ) → slot_from n owners key ≡ Some s → (t : ℕ) × (s ≡ n + t) × (owner_of owners t ≡ Some key)
found_at n [] key s is = absurd (cc)
found_at n (None ∷ owners) key s is =
    let rest = found_at (n + 1) owners key s is in
    (suc rest.0, omega (arith, rest.1), rest.2)
found_at n (Some owner ∷ owners) key s is = elim (cases_Bool (is_same owner key)) [
  | inl here ↦
      let first : Some n ≡ Some s = sym (cond-true (is_same owner key) (Some n) (slot_from (n + 1) owners key) here) ∙ is in
      let at : n ≡ s = cc in
      (0, omega arith, ap Some (is_same-true owner key here))
  | inr later ↦
      let rest = found_at (n + 1) owners key s (sym (cond-false (is_same owner key) (Some n) (slot_from (n + 1) owners key) later) ∙ is) in
      (suc rest.0, omega (arith, rest.1), rest.2)
]

pub owner_of-slot_of : (owners : List (Option PageKey)) (key : PageKey) (s : ℕ) → slot_of owners key ≡ Some s → owner_of owners s ≡ Some key
owner_of-slot_of owners key s is =
    let found = found_at 0 owners key s is in
    let at : s ≡ found.0 = omega (arith, found.1) in
    ap (λ (n : ℕ). owner_of owners n) at ∙ found.2

-- a number that is there
pub the_number : (o : Option ℕ) → is_some o ≡ true → (s : ℕ) × (o ≡ Some s)
the_number None is = absurd (cc)
the_number (Some s) is = (s, refl)

pub the_slot : (owners : List (Option PageKey)) (key : PageKey) → mapped_by owners key ≡ true → (s : ℕ) × (slot_of owners key ≡ Some s)
the_slot owners key is = the_number (slot_of owners key) is
