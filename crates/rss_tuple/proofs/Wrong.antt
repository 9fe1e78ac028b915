-- The first page that isn't right, as the pages are looked at one after the other.
use Rattle.std.proofs.Common.{◌≡◌, ◌⊎◌, inl, inr, ℕ, ◌<◌, ◌≤◌, List, Some, refl, sym, ◌∙◌, ap, subst, arith}
use Rattle.std.proofs.lemmas.Bool.{cases_lt}
use Rattle.rss_base.specs.DiskRule.{IsTold}
use Rattle.rss_base.specs.Paged.{Held, page_key}
use Rattle.rss_base.specs.Steps.{PagesView, Keys, only, pages_in}
use Rattle.rss_base.specs.declared.key.PageKey.{PageKey}
use Rattle.rss_base.specs.declared.key.Space.{Space}
use Rattle.rss_base.specs.declared.key.Space.TheVariants.{Home, Overflow}
use Rattle.rss_base.specs.declared.place.Place.{Place}
use Rattle.rss_base.specs.declared.place.Place.TheVariants.{Page as PagePlace}
use Rattle.rss_base.proofs.Steps.{is_in}
use Rattle.rss_tuple.specs.Checked.{pages_of}
use Rattle.rss_tuple.specs.Flaws.{IsPageRight, ArePagesRight, ComesBefore, NamesPage}
use Rattle.rss_tuple.specs.Looks.{pages_from, IsRightAt, IsNotedAt, LooksAt}

-- ---- one page

-- no page comes before itself
not_before : (a b : PageKey) → a ≡ b → ComesBefore a b → ⊥
not_before a b same before = elim before [
  | inl spaces ↦
      let never : Home ≡ Overflow = sym spaces.0 ∙ ap (λ (k : PageKey). k.space) same ∙ spaces.1 in
      absurd (cc)
  | inr less ↦ let number = ap (λ (k : PageKey). k.number) same in omega (arith, less.1, number)
]

-- it isn't right
pub names_one : (held : Held) (key : PageKey) (bytes : List ℕ) → held key ≡ Some bytes → (IsPageRight key bytes → ⊥) → NamesPage held (only key) (PagePlace key)
names_one held key bytes there wrong = record {
  key = key;
  is = refl;
  first = record {
    inside = refl;
    bytes = bytes;
    there = there;
    wrong = wrong;
    earlier = λ other others both is. absurd (not_before other key both.0 both.1);
  };
}

-- ---- among more pages

-- it is the first of more pages, if those of them that come before it are right
pub names_wider : {held : Held} {keys more : Keys} {place : Place} → ((key : PageKey) → keys key → more key) → ((key other : PageKey) (bytes : List ℕ) → keys key → more other → ComesBefore other key → held other ≡ Some bytes → keys other ⊎ IsPageRight other bytes) → NamesPage held keys place → NamesPage held more place
names_wider inside rest names = record {
  key = names.key;
  is = names.is;
  first = record {
    inside = inside names.key names.first.inside;
    bytes = names.first.bytes;
    there = names.first.there;
    wrong = names.first.wrong;
    earlier = λ other bytes both is. elim (rest names.key other bytes names.first.inside both.0 both.1 is) [
      | inl too ↦ names.first.earlier other bytes (too, both.1) is
      | inr right ↦ right
    ];
  };
}

-- two pages of one space are in the order of their numbers
in_order : (segment : ℕ) (space : Space) (a b : PageKey) → pages_in segment space a → pages_in segment space b → ComesBefore a b → a.number < b.number
in_order segment space a b one two before = elim before [
  | inl spaces ↦
      let never : Home ≡ Overflow = sym spaces.0 ∙ ap (λ (k : PageKey). k.space) one ∙ sym (ap (λ (k : PageKey). k.space) two) ∙ spaces.1 in
      absurd (cc)
  | inr less ↦ less.1
]

module _ (held : Held) (segment : ℕ) (space : Space) where
  right_at : (key : PageKey) → pages_in segment space key → IsRightAt held (page_key segment space key.number) → IsRightAt held key
  right_at key is right = subst (IsRightAt held) (sym is) right

  -- the pages in front of it are right
  pub names_next : {place : Place} (first number : ℕ) → first ≤ number → ((k : ℕ) → first ≤ k → k < number → IsRightAt held (page_key segment space k)) → NamesPage held (only (page_key segment space number)) place → NamesPage held (pages_from segment space first) place
  names_next first number later right = names_wider
      (λ key is. (is_in (page_key segment space number) refl key is, subst (λ (k : PageKey). first ≤ k.number) (sym is) later))
      (λ key other bytes is inside before there.
      let at : key.number ≡ number = ap (λ (k : PageKey). k.number) is in
      let less = in_order segment space other key inside.0 (is_in (page_key segment space number) refl key is) before in
      inr (right_at other inside.0 (right other.number inside.1 (omega (arith, less, at))) bytes there))

  -- and so it is the first of its space
  pub names_first : {place : Place} → NamesPage held (pages_from segment space 0) place → NamesPage held (pages_in segment space) place
  names_first = names_wider (λ key is. is.0) (λ key other bytes is inside before there. inl (inside, omega arith))

  -- it stands behind pages that are right
  pub names_behind : {place : Place} (from : ℕ) → ((k : ℕ) → k < from → IsRightAt held (page_key segment space k)) → NamesPage held (pages_from segment space from) place → NamesPage held (pages_in segment space) place
  names_behind from right = names_wider (λ key is. is.0) (λ key other bytes is inside before there. elim (cases_lt other.number from) [
    | inl low ↦ inr (right_at other inside (right other.number low) bytes there)
    | inr high ↦ inl (inside, high)
  ])

  -- all pages are right
  pub right_both : (from : ℕ) → ((k : ℕ) → k < from → IsRightAt held (page_key segment space k)) → ArePagesRight held (pages_from segment space from) → ArePagesRight held (pages_in segment space)
  right_both from right rest = λ key bytes inside there. elim (cases_lt key.number from) [
    | inl low ↦ right_at key inside (right key.number low) bytes there
    | inr high ↦ rest key bytes (inside, high) there
  ]

  pub right_each : ((k : ℕ) → IsRightAt held (page_key segment space k)) → ArePagesRight held (pages_in segment space)
  right_each right = λ key bytes inside there. right_at key inside (right key.number) bytes there

-- ---- both spaces of a segment

key_as : (segment : ℕ) (space : Space) (key : PageKey) → key.segment ≡ segment → key.space ≡ space → pages_in segment space key
key_as segment space key in_segment in_space = λ i. record { segment = in_segment i; space = in_space i; number = key.number }

module _ (held : Held) (segment : ℕ) where
  pub names_home : {place : Place} → NamesPage held (pages_in segment Home) place → NamesPage held (pages_of segment) place
  names_home = names_wider (λ key is. (ap (λ (k : PageKey). k.segment) is, inl (ap (λ (k : PageKey). k.space) is))) (λ key other bytes is inside before there. elim before [
    | inl spaces ↦
        let never : Home ≡ Overflow = sym (ap (λ (k : PageKey). k.space) is) ∙ spaces.1 in
        absurd (cc)
    | inr less ↦ inl (key_as segment Home other inside.0 (less.0 ∙ ap (λ (k : PageKey). k.space) is))
  ])

  pub names_overflow : {place : Place} → ArePagesRight held (pages_in segment Home) → NamesPage held (pages_in segment Overflow) place → NamesPage held (pages_of segment) place
  names_overflow right = names_wider (λ key is. (ap (λ (k : PageKey). k.segment) is, inr (ap (λ (k : PageKey). k.space) is))) (λ key other bytes is inside before there. elim inside.1 [
    | inl home ↦ inr (right other bytes (key_as segment Home other inside.0 home) there)
    | inr over ↦ inl (key_as segment Overflow other inside.0 over)
  ])

  pub right_all : ArePagesRight held (pages_in segment Home) → ArePagesRight held (pages_in segment Overflow) → ArePagesRight held (pages_of segment)
  right_all homes overflows = λ key bytes inside there. elim inside.1 [
    | inl home ↦ homes key bytes (key_as segment Home key inside.0 home) there
    | inr over ↦ overflows key bytes (key_as segment Overflow key inside.0 over) there
  ]

-- each of these is right
module _ (held : Held) (segment : ℕ) (space : Space) where
  pub right_onward : (from : ℕ) → ((k : ℕ) → from ≤ k → IsRightAt held (page_key segment space k)) → ArePagesRight held (pages_from segment space from)
  right_onward from right = λ key bytes inside there. right_at held segment space key inside.0 (right key.number inside.1) bytes there

-- it was looked at
pub right_looked : (held : Held) (key : PageKey) (page : List ℕ) (now new : PagesView) → now.held ≡ held → IsTold now.disk → LooksAt key page now new → IsRightAt held key
right_looked held key page now new same told at = λ bytes is.
    let both : Some page ≡ Some bytes = sym (at.held told) ∙ ap (λ (h : Held). h key) same ∙ is in
    let one : page ≡ bytes = cc in
    subst (λ (b : List ℕ). IsPageRight key b) one at.noted.right

pub right_noted : (held : Held) (now : PagesView) (key : PageKey) → IsNotedAt held now key → IsRightAt held key
right_noted held now key noted = λ bytes is. (noted bytes is).right
