-- The pages of a segment and a space, looked at in the order of their numbers.
use Rattle.std.proofs.Common.{◌≡◌, inl, inr, ℕ, ◌+◌, ◌*◌, ◌<◌, ◌≤◌, Bool, List, Option, Some, None, get_or, refl, sym, ◌∙◌, ap, subst, arith}
use Rattle.std.specs.Prelude.{is_some}
use Rattle.std.proofs.lemmas.Bool.{cases_lt, cases_Bool}
use Rattle.rss_base.specs.DiskRule.{IsTold}
use Rattle.rss_base.specs.Paged.{Held, Mapped, page_key, IsMappedAt}
use Rattle.rss_base.specs.Steps.{PagesView, Keys, only, pages_in}
use Rattle.rss_base.specs.declared.key.PageKey.{PageKey}
use Rattle.rss_base.specs.declared.key.Space.{Space}
use Rattle.rss_base.proofs.Steps.{is_in}
use Rattle.rss_page.specs.Content.{Empty}
use Rattle.rss_tuple.specs.Directory.{contents, contents_in, content_at, homes, overflows}
use Rattle.rss_base.specs.Looking.{LooksStep}
use Rattle.rss_tuple.specs.Checked.{Rows, rows_on, tuples_of}
use Rattle.rss_tuple.specs.Looks.{IsRightAt, IsRoomNoted, IsNotedAt, AreMarked, Sees, in_front, AreSeen}
use Rattle.rss_base.proofs.Looking.{looks_then, looks_within}
use Rattle.rss_tuple.proofs.Sets.{none_held}
use Rattle.rss_tuple.proofs.SeenHomes.{seen_same, front_page, front_pages, front_next, front_whole, tuples_skip, tuples_more, sees_as, sees_then}

module _ (start now : PagesView) (segment : ℕ) (space : Space) (from limit : ℕ) (mapped : now.mapped ≡ start.mapped) (holds : IsTold start.disk → (key : PageKey) → is_some (start.held key) ≡ start.mapped key) (none : (k : ℕ) → from ≤ k → k < limit → IsMappedAt now.mapped segment space k → ⊥) where
  -- between the pages that are mapped there is nothing
  pub none_between : IsTold start.disk → (k : ℕ) → from ≤ k → k < limit → start.held (page_key segment space k) ≡ None
  none_between told k low high = elim (cases_Bool (is_some (start.held (page_key segment space k)))) [
    | inl some ↦ absurd (none k low high (ap (λ (m : Mapped). m (page_key segment space k)) mapped ∙ sym (holds told (page_key segment space k)) ∙ some))
    | inr not ↦ none_held (start.held (page_key segment space k)) not
  ]

  pub empty_between : IsTold start.disk → (k slot : ℕ) → from ≤ k → k < limit → content_at start.held (page_key segment space k) slot ≡ Empty
  empty_between told k slot low high = ap (λ (p : Option (List ℕ)). get_or (contents_in p) slot Empty) (none_between told k low high)

  pub noted_between : (new : PagesView) → IsTold start.disk → (k : ℕ) → from ≤ k → k < limit → IsNotedAt start.held new (page_key segment space k)
  noted_between new told k low high = λ bytes is. absurd (let never : None ≡ Some bytes = sym (none_between told k low high) ∙ is in cc)

  pub right_between : IsTold start.disk → (k : ℕ) → from ≤ k → k < limit → IsRightAt start.held (page_key segment space k)
  right_between told k low high = λ bytes is. absurd (let never : None ≡ Some bytes = sym (none_between told k low high) ∙ is in cc)

  pub marked_between : (word : ℕ) → IsTold start.disk → (k : ℕ) → from ≤ k → k < limit → AreMarked (contents start.held (page_key segment space k)) word
  marked_between word told k low high = λ slot few some. absurd (some (empty_between told k slot low high))

-- one page more was noted
pub noted_more : {touched : Keys} {cost asks : ℕ} {start now new : PagesView} (segment : ℕ) (space : Space) (from number : ℕ) → LooksStep touched cost start now → (IsTold start.disk → (key : PageKey) → is_some (start.held key) ≡ start.mapped key) → ((k : ℕ) → from ≤ k → k < number → IsMappedAt now.mapped segment space k → ⊥) → from ≤ number → IsTold start.disk
    → LooksStep (only (page_key segment space number)) asks now new → ((k : ℕ) → k < from → IsNotedAt start.held now (page_key segment space k)) → (IsTold now.disk → IsNotedAt now.held new (page_key segment space number)) → (k : ℕ) → k < number + 1 → IsNotedAt start.held new (page_key segment space k)
noted_more {start = start} {now = now} {new = new} segment space from number so holds none later told looks before last k low = elim (cases_lt k from) [
  | inl early ↦ λ bytes is. subst (λ (n : Option ℕ). IsRoomNoted (page_key segment space k) bytes n) (sym (looks.step.notes_off (page_key segment space k) (λ at. let here : k ≡ number = ap (λ (key : PageKey). key.number) at in omega arith))) (before k early bytes is)
  | inr late ↦ elim (cases_lt k number) [
    | inl between ↦ noted_between start now segment space from number so.mapped holds none new told k late between
    | inr there ↦
        let at : number ≡ k = omega arith in
        subst (λ (n : ℕ). IsNotedAt start.held new (page_key segment space n)) at (subst (λ (h : Held). IsNotedAt h new (page_key segment space number)) (so.held told) (last (so.step.passes.leaves.told.0 told)))
  ]
]

-- all were
pub noted_all : {touched : Keys} {cost : ℕ} {start now : PagesView} (segment : ℕ) (space : Space) (from : ℕ) → LooksStep touched cost start now → (IsTold start.disk → (key : PageKey) → is_some (start.held key) ≡ start.mapped key) → ((k : ℕ) → from ≤ k → IsMappedAt now.mapped segment space k → ⊥) → IsTold start.disk → ((k : ℕ) → k < from → IsNotedAt start.held now (page_key segment space k)) → (k : ℕ) → IsNotedAt start.held now (page_key segment space k)
noted_all {start = start} {now = now} segment space from so holds none told before k = elim (cases_lt k from) [
  | inl early ↦ before k early
  | inr late ↦ noted_between start now segment space from (k + 1) so.mapped holds (λ n low high. none n low) now told k late (omega arith)
]

-- the same of marks
pub marked_more : {touched : Keys} {cost : ℕ} {start now : PagesView} (segment : ℕ) (space : Space) (from number : ℕ) (marks : List ℕ) → LooksStep touched cost start now → (IsTold start.disk → (key : PageKey) → is_some (start.held key) ≡ start.mapped key) → ((k : ℕ) → from ≤ k → k < number → IsMappedAt now.mapped segment space k → ⊥) → from ≤ number → IsTold start.disk
    → ((k : ℕ) → k < from → AreMarked (contents start.held (page_key segment space k)) (get_or marks k 0)) → (IsTold now.disk → AreMarked (contents now.held (page_key segment space number)) (get_or marks number 0)) → (k : ℕ) → k < number + 1 → AreMarked (contents start.held (page_key segment space k)) (get_or marks k 0)
marked_more {start = start} {now = now} segment space from number marks so holds none later told before last k low = elim (cases_lt k from) [
  | inl early ↦ before k early
  | inr late ↦ elim (cases_lt k number) [
    | inl between ↦ marked_between start now segment space from number so.mapped holds none (get_or marks k 0) told k late between
    | inr there ↦
        let at : number ≡ k = omega arith in
        subst (λ (n : ℕ). AreMarked (contents start.held (page_key segment space n)) (get_or marks n 0)) at (subst (λ (h : Held). AreMarked (contents h (page_key segment space number)) (get_or marks number 0)) (so.held told) (last (so.step.passes.leaves.told.0 told)))
  ]
]

pub marked_all : {touched : Keys} {cost : ℕ} {start now : PagesView} (segment : ℕ) (space : Space) (from : ℕ) (marks : List ℕ) → LooksStep touched cost start now → (IsTold start.disk → (key : PageKey) → is_some (start.held key) ≡ start.mapped key) → ((k : ℕ) → from ≤ k → IsMappedAt now.mapped segment space k → ⊥) → IsTold start.disk
    → ((k : ℕ) → k < from → AreMarked (contents start.held (page_key segment space k)) (get_or marks k 0)) → (k : ℕ) → AreMarked (contents start.held (page_key segment space k)) (get_or marks k 0)
marked_all {start = start} {now = now} segment space from marks so holds none told before k = elim (cases_lt k from) [
  | inl early ↦ before k early
  | inr late ↦ marked_between start now segment space from (k + 1) so.mapped holds (λ n low high. none n low) (get_or marks k 0) told k late (omega arith)
]

-- one page more was looked at
pub looked_more : {start now new : PagesView} (cost segment : ℕ) (space : Space) (from number : ℕ) → from ≤ number → LooksStep (pages_in segment space) (cost * from) start now → LooksStep (only (page_key segment space number)) cost now new → LooksStep (pages_in segment space) (cost * (number + 1)) start new
looked_more cost segment space from number later before last = looks_within (λ key is. is) few (looks_then before (looks_within (is_in (page_key segment space number) refl) enough last))
  where
    enough : cost ≤ cost
    enough = omega arith

    few : cost * from + cost ≤ cost * (number + 1)
    few = grind arith

module _ (held : Held) (segment : ℕ) (is_good : List ℕ → Bool) (marks : List ℕ) where
  -- the pages in front of the next one
  pub seen_up_to : (from number : ℕ) → from ≤ number → ((p s : ℕ) → from ≤ p → p < number → homes held segment p s ≡ Empty) → AreSeen (homes held segment) (overflows held segment) is_good marks (in_front from 0) → AreSeen (homes held segment) (overflows held segment) is_good marks (in_front number 0)
  seen_up_to from number later none seen = seen_same (homes held segment) (overflows held segment) is_good marks (in_front from 0) seen (in_front number 0) (front_page (homes held segment) from number later none) (front_pages from number later)

  pub seen_page : (number : ℕ) → AreSeen (homes held segment) (overflows held segment) is_good marks (in_front number 128) → AreSeen (homes held segment) (overflows held segment) is_good marks (in_front (number + 1) 0)
  seen_page number seen = seen_same (homes held segment) (overflows held segment) is_good marks (in_front number 128) seen (in_front (number + 1) 0) (front_next held segment number) (front_whole number)

-- the tuples of the pages in front of the next one, and of that one
module _ {V : Type 0} {is_good : V → List ℕ → Bool} {saw : V → Rows → Type 0} (held : Held) (segment from number : ℕ) (later : from ≤ number) (none : (p s : ℕ) → from ≤ p → p < number → homes held segment p s ≡ Empty) where
  pub shown_all : {first old : V} → Sees is_good saw first old (tuples_of held segment from) → Sees is_good saw first old (tuples_of held segment number)
  shown_all before = sees_as (sym (tuples_skip held segment from number later none)) before

  pub shown_more : {first old new : V} → Sees is_good saw first old (tuples_of held segment from) → Sees is_good saw old new (rows_on held segment number) → Sees is_good saw first new (tuples_of held segment (number + 1))
  shown_more before last = sees_as (sym (tuples_more held segment number)) (sees_then (shown_all before) last)

-- the pages in front of the next one are right
pub right_next : {touched : Keys} {cost : ℕ} {start now : PagesView} (segment : ℕ) (space : Space) (first from number : ℕ) → LooksStep touched cost start now → (IsTold start.disk → (key : PageKey) → is_some (start.held key) ≡ start.mapped key) → ((k : ℕ) → from ≤ k → k < number → IsMappedAt now.mapped segment space k → ⊥) → IsTold start.disk
    → ((k : ℕ) → first ≤ k → k < from → IsRightAt start.held (page_key segment space k)) → (k : ℕ) → first ≤ k → k < number → IsRightAt start.held (page_key segment space k)
right_next {start = start} {now = now} segment space first from number so holds none told before k over low = elim (cases_lt k from) [
  | inl early ↦ before k over early
  | inr late ↦ right_between start now segment space from number so.mapped holds none told k late low
]

-- and then that one
pub right_more : {touched : Keys} {cost : ℕ} {start now : PagesView} (segment : ℕ) (space : Space) (first from number : ℕ) → LooksStep touched cost start now → (IsTold start.disk → (key : PageKey) → is_some (start.held key) ≡ start.mapped key) → ((k : ℕ) → from ≤ k → k < number → IsMappedAt now.mapped segment space k → ⊥) → IsTold start.disk
    → ((k : ℕ) → first ≤ k → k < from → IsRightAt start.held (page_key segment space k)) → IsRightAt start.held (page_key segment space number) → (k : ℕ) → first ≤ k → k < number + 1 → IsRightAt start.held (page_key segment space k)
right_more {start = start} {now = now} segment space first from number so holds none told before last k over low = elim (cases_lt k number) [
  | inl early ↦ right_next {start = start} {now = now} segment space first from number so holds none told before k over early
  | inr there ↦
      let at : number ≡ k = omega arith in
      subst (λ (n : ℕ). IsRightAt start.held (page_key segment space n)) at last
]

-- all are
pub right_rest : {touched : Keys} {cost : ℕ} {start now : PagesView} (segment : ℕ) (space : Space) (first from : ℕ) → LooksStep touched cost start now → (IsTold start.disk → (key : PageKey) → is_some (start.held key) ≡ start.mapped key) → ((k : ℕ) → from ≤ k → IsMappedAt now.mapped segment space k → ⊥) → IsTold start.disk
    → ((k : ℕ) → first ≤ k → k < from → IsRightAt start.held (page_key segment space k)) → (k : ℕ) → first ≤ k → IsRightAt start.held (page_key segment space k)
right_rest {start = start} {now = now} segment space first from so holds none told before k over = elim (cases_lt k from) [
  | inl early ↦ before k over early
  | inr late ↦ right_between start now segment space from (k + 1) so.mapped holds (λ n low high. none n low) told k late (omega arith)
]

-- what stands in front of the next page is marked
pub marked_next : {touched : Keys} {cost : ℕ} {start now : PagesView} (segment : ℕ) (space : Space) (from number : ℕ) (marks : List ℕ) → LooksStep touched cost start now → (IsTold start.disk → (key : PageKey) → is_some (start.held key) ≡ start.mapped key) → ((k : ℕ) → from ≤ k → k < number → IsMappedAt now.mapped segment space k → ⊥) → IsTold start.disk
    → ((k : ℕ) → k < from → AreMarked (contents start.held (page_key segment space k)) (get_or marks k 0)) → (k : ℕ) → k < number → AreMarked (contents start.held (page_key segment space k)) (get_or marks k 0)
marked_next {start = start} {now = now} segment space from number marks so holds none told before k low = elim (cases_lt k from) [
  | inl early ↦ before k early
  | inr late ↦ marked_between start now segment space from number so.mapped holds none (get_or marks k 0) told k late low
]
