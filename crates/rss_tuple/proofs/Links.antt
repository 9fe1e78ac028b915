-- Forwards and their goals stay one to one, and other bodies stay, where one tuple is put, moved or taken away.
use Rattle.std.proofs.Common.{◌≡◌, ◌≢◌, ◌⊎◌, inl, inr, ℕ, refl, sym, ◌∙◌, ap, subst}
use Rattle.std.proofs.lemmas.Bool.{cases_eq}
use Rattle.rss_page.specs.Content.{Content, Empty, Here, Forward}
use Rattle.rss_tuple.specs.Directory.{Entries, body_in, body_by}
use Rattle.rss_tuple.specs.Heaps.{HasBody, IsLed, AreLinked}
use Rattle.rss_tuple.specs.Edits.{Moves}

-- what holds a body isn't empty
pub not_empty : (content : Content) → HasBody content → content ≡ Empty → ⊥
not_empty content has is = let there = has.is in cc

-- an entry leads to this place, or it doesn't
pub leads_there : (content : Content) (page slot : ℕ) → (content ≡ Forward page slot) ⊎ (content ≢ Forward page slot)
leads_there Empty page slot = inr (λ is. absurd (cc))
leads_there (Here body) page slot = inr (λ is. absurd (cc))
leads_there (Forward p s) page slot = elim (cases_eq p page) [
  | inl same_page ↦ elim (cases_eq s slot) [
    | inl same_slot ↦ inl (λ i. Forward (same_page i) (same_slot i))
    | inr differ ↦ inr (λ is. let at : s ≡ slot = cc in differ at)
  ]
  | inr differ ↦ inr (λ is. let at : p ≡ page = cc in differ at)
]

-- two places are one, or they aren't
pub same_place : (p s page slot : ℕ) → ((p ≡ page) × (s ≡ slot)) ⊎ ((p ≡ page) → (s ≡ slot) → ⊥)
same_place p s page slot = elim (cases_eq p page) [
  | inl same_page ↦ elim (cases_eq s slot) [
    | inl same_slot ↦ inl (same_page, same_slot)
    | inr differ ↦ inr (λ _ is. differ is)
  ]
  | inr differ ↦ inr (λ is _. differ is)
]

module _ (page slot : ℕ) (home overflow home_now overflow_now : Entries) (was : AreLinked home overflow) (moves : Moves page slot home overflow home_now overflow_now) where
  at_tuple : (p s a b : ℕ) → (p ≡ page) × (s ≡ slot) → home_now p s ≡ Forward a b → home_now page slot ≡ Forward a b
  at_tuple p s a b here is = sym (λ i. home_now (here.0 i) (here.1 i)) ∙ is

  -- where another entry leads, no entry of the tuple did or does
  not_before : (p s a b : ℕ) → ((p ≡ page) → (s ≡ slot) → ⊥) → home p s ≡ Forward a b → home page slot ≡ Forward a b → ⊥
  not_before p s a b off is here = let same = was.once page slot p s a b here is in off same.0 same.1

  not_now : (p s a b : ℕ) → ((p ≡ page) → (s ≡ slot) → ⊥) → home p s ≡ Forward a b → home_now page slot ≡ Forward a b → ⊥
  not_now p s a b off is here = not_empty (overflow a b) (was.leads p s a b is) (moves.fresh a b here (not_before p s a b off is))

  stays : (p s a b : ℕ) → ((p ≡ page) → (s ≡ slot) → ⊥) → home p s ≡ Forward a b → overflow_now a b ≡ overflow a b
  stays p s a b off is = moves.kept a b (not_before p s a b off is) (not_now p s a b off is)

  before : (p s a b : ℕ) → ((p ≡ page) → (s ≡ slot) → ⊥) → home_now p s ≡ Forward a b → home p s ≡ Forward a b
  before p s a b off is = sym (moves.homes p s off) ∙ is

  leads_now : (p s a b : ℕ) → home_now p s ≡ Forward a b → HasBody (overflow_now a b)
  leads_now p s a b is = elim (same_place p s page slot) [
    | inl here ↦ moves.came a b (at_tuple p s a b here is)
    | inr off ↦
        let old = before p s a b off is in
        subst HasBody (sym (stays p s a b off old)) (was.leads p s a b old)
  ]

  led_now : (a b : ℕ) → (overflow_now a b ≡ Empty → ⊥) → IsLed home_now a b
  led_now a b some = elim (leads_there (home_now page slot) a b) [
    | inl here ↦ record { from_page = page; from_slot = slot; forward = here }
    | inr not_there ↦ elim (leads_there (home page slot) a b) [
      | inl old ↦ absurd (some (moves.left a b old not_there))
      | inr never ↦
          let same = moves.kept a b never not_there in
          let from = was.led a b (λ none. some (same ∙ none)) in
          elim (same_place from.from_page from.from_slot page slot) [
            | inl here ↦ absurd (never (sym (λ i. home (here.0 i) (here.1 i)) ∙ from.forward))
            | inr off ↦ record { from_page = from.from_page; from_slot = from.from_slot; forward = moves.homes from.from_page from.from_slot off ∙ from.forward }
          ]
    ]
  ]

  once_now : (p s q t a b : ℕ) → home_now p s ≡ Forward a b → home_now q t ≡ Forward a b → (q ≡ p) × (t ≡ s)
  once_now p s q t a b first second = elim (same_place p s page slot) [
    | inl one ↦ elim (same_place q t page slot) [
      | inl other ↦ (other.0 ∙ sym one.0, other.1 ∙ sym one.1)
      | inr off ↦ absurd (not_now q t a b off (before q t a b off second) (at_tuple p s a b one first))
    ]
    | inr off ↦ elim (same_place q t page slot) [
      | inl other ↦ absurd (not_now p s a b off (before p s a b off first) (at_tuple q t a b other second))
      | inr off_too ↦ was.once p s q t a b (before p s a b off first) (before q t a b off_too second)
    ]
  ]

  pub linked_now : AreLinked home_now overflow_now
  linked_now = record { leads = leads_now; led = led_now; once = once_now }

  by_same : (p s : ℕ) → ((p ≡ page) → (s ≡ slot) → ⊥) → (content : Content) → home p s ≡ content → body_by overflow_now content ≡ body_by overflow content
  by_same p s off Empty is = refl
  by_same p s off (Here body) is = refl
  by_same p s off (Forward a b) is = ap body_in (stays p s a b off is)

  -- other bodies stay
  pub body_same : (p s : ℕ) → ((p ≡ page) → (s ≡ slot) → ⊥) → body_by overflow_now (home_now p s) ≡ body_by overflow (home p s)
  body_same p s off = ap (body_by overflow_now) (moves.homes p s off) ∙ by_same p s off (home p s) refl
