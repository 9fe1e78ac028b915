-- How many pages are mapped, where a call maps one more at most.
use Rattle.std.proofs.Common.{◌≡◌, inl, inr, ℕ, zero, suc, ◌+◌, ◌<◌, ◌≤◌, Bool, true, false, cond, refl, sym, ◌∙◌, ap, arith}
use Rattle.std.specs.Prelude.{sum_by, count_by}
use Rattle.std.specs.List.{range_with_len}
use Rattle.std.proofs.lemmas.Bool.{cases_lt}
use Rattle.std.proofs.lemmas.List.Sums.{sum_by-cons}
use Rattle.rss_base.specs.Paged.{Mapped, page_key, mapped_in, mapped_of, mapped_pages}
use Rattle.rss_base.specs.declared.key.PageKey.{PageKey}
use Rattle.rss_base.specs.declared.key.Space.{Space}
use Rattle.rss_base.specs.declared.key.Space.TheVariants.{Home, Overflow, Image, System}
use Rattle.rss_page.specs.Slotted.{IsHeapKey}

-- ---- sums over a range of numbers

no_more : {before now : ℕ} → (before < now → ⊥) → now ≤ before
no_more {before = before} {now = now} not = elim (cases_lt before now) [
  | inl rises ↦ absurd (not rises)
  | inr below ↦ below
]

module _ (f g : ℕ → ℕ) where
  none_rises : (a n : ℕ) → ((j : ℕ) → a ≤ j → g j ≤ f j) → sum_by g (range_with_len a n) ≤ sum_by f (range_with_len a n)
  none_rises a zero below = omega arith
  none_rises a (suc n) below =
      omega (arith, none_rises (a + 1) n (λ j from. below j (omega arith)), below a (omega arith), sum_by-cons f a (range_with_len (a + 1) n), sum_by-cons g a (range_with_len (a + 1) n))

  -- where the sum rises, so does some number's
  one_that_rises : (a n : ℕ) → sum_by f (range_with_len a n) < sum_by g (range_with_len a n) → (j : ℕ) × (f j < g j)
  one_that_rises a zero lt = absurd (omega arith)
  one_that_rises a (suc n) lt = elim (cases_lt (f a) (g a)) [
    | inl here ↦ (a, here)
    | inr below ↦ one_that_rises (a + 1) n (omega (arith, below, lt, sum_by-cons f a (range_with_len (a + 1) n), sum_by-cons g a (range_with_len (a + 1) n)))
  ]

  -- one number's rises at most, and by one
  one_rises : (a n : ℕ) → ((j : ℕ) → g j ≤ f j + 1) → ((j k : ℕ) → f j < g j → f k < g k → j ≡ k) → sum_by g (range_with_len a n) ≤ sum_by f (range_with_len a n) + 1
  one_rises a zero most alone = omega arith
  one_rises a (suc n) most alone = elim (cases_lt (f a) (g a)) [
    | inl here ↦
        let rest = none_rises (a + 1) n (λ j from. no_more (λ rises. let same = alone a j here rises in omega (arith, same, from))) in
        omega (arith, most a, rest, sum_by-cons f a (range_with_len (a + 1) n), sum_by-cons g a (range_with_len (a + 1) n))
    | inr below ↦ omega (arith, below, one_rises (a + 1) n most alone, sum_by-cons f a (range_with_len (a + 1) n), sum_by-cons g a (range_with_len (a + 1) n))
  ]

-- ---- one page more at most

abbrev count_of : Bool → ℕ
count_of b = cond b 1 0

counts_one : (was is : Bool) → count_of is ≤ count_of was + 1
counts_one false false = omega arith
counts_one false true = omega arith
counts_one true false = omega arith
counts_one true true = omega arith

counts_more : (was is : Bool) → count_of was < count_of is → (is ≡ true) × (was ≡ false)
counts_more false false lt = absurd (omega arith)
counts_more false true lt = (refl, refl)
counts_more true false lt = absurd (omega arith)
counts_more true true lt = absurd (omega arith)

-- a page of a space that is mapped now and wasn't
record IsNew (old new : Mapped) (space : Space) (key : PageKey) : Type 0 where
  in_space : key.space ≡ space
  now : new key ≡ true
  before : old key ≡ false

module _ (old new : Mapped) (space : Space) (one : (key other : PageKey) → key.space ≡ space → other.space ≡ space → new key ≡ true → old key ≡ false → new other ≡ true → old other ≡ false → key ≡ other) where
  new_in : (limit segment : ℕ) → mapped_in old space limit segment < mapped_in new space limit segment → (number : ℕ) × IsNew old new space (page_key segment space number)
  new_in limit segment lt =
      let at = one_that_rises (λ n. count_of (old (page_key segment space n))) (λ n. count_of (new (page_key segment space n))) 0 limit lt in
      let is = counts_more _ _ at.1 in
      (at.0, record { in_space = refl; now = is.0; before = is.1 })

  in_one : (limit segment : ℕ) → mapped_in new space limit segment ≤ mapped_in old space limit segment + 1
  in_one limit segment = one_rises (λ n. count_of (old (page_key segment space n))) (λ n. count_of (new (page_key segment space n))) 0 limit (λ n. counts_one _ _) (λ j k first second.
      let a = counts_more _ _ first in
      let b = counts_more _ _ second in
      ap (λ (key : PageKey). key.number) (one (page_key segment space j) (page_key segment space k) refl refl a.0 a.1 b.0 b.1))

  new_of : (limit : ℕ) → mapped_of old space limit < mapped_of new space limit → (key : PageKey) × IsNew old new space key
  new_of limit lt =
      let at = one_that_rises (mapped_in old space limit) (mapped_in new space limit) 1 8 lt in
      let is = new_in limit at.0 at.1 in
      (page_key at.0 space is.0, is.1)

  -- of one space
  of_one : (limit : ℕ) → mapped_of new space limit ≤ mapped_of old space limit + 1
  of_one limit = one_rises (mapped_in old space limit) (mapped_in new space limit) 1 8 (in_one limit) (λ j k first second.
      let a = new_in limit j first in
      let b = new_in limit k second in
      ap (λ (key : PageKey). key.segment) (one (page_key j space a.0) (page_key k space b.0) refl refl a.1.now a.1.before b.1.now b.1.before))

-- ---- pages of a space that are mapped as before

pub mapped_same : (old new : Mapped) (space : Space) (limit : ℕ) → ((key : PageKey) → key.space ≡ space → new key ≡ old key) → mapped_of new space limit ≡ mapped_of old space limit
mapped_same old new space limit same = λ i. sum_by (λ segment. count_by (λ number. same (page_key segment space number) refl i) (range_with_len 0 limit)) (range_with_len 1 8)

-- ---- home and overflow pages

two : {a b a' b' : ℕ} → a' ≤ a + 1 → b' ≤ b + 1 → (a < a' → b < b' → ⊥) → a' + b' ≤ a + b + 1
two {a = a} {b = b} {a' = a'} {b' = b'} in_a in_b both = elim (cases_lt a a') [
  | inl first ↦ omega (arith, in_a, no_more (both first))
  | inr first ↦ omega (arith, first, in_b)
]

module _ (old new : Mapped) (one : (key other : PageKey) → IsHeapKey key → IsHeapKey other → new key ≡ true → old key ≡ false → new other ≡ true → old other ≡ false → key ≡ other) where
  one_home : (key other : PageKey) → key.space ≡ Home → other.space ≡ Home → new key ≡ true → old key ≡ false → new other ≡ true → old other ≡ false → key ≡ other
  one_home key other here there = one key other (inl here) (inl there)

  one_over : (key other : PageKey) → key.space ≡ Overflow → other.space ≡ Overflow → new key ≡ true → old key ≡ false → new other ≡ true → old other ≡ false → key ≡ other
  one_over key other here there = one key other (inr here) (inr there)

  apart : {home over : PageKey} → IsNew old new Home home → IsNew old new Overflow over → ⊥
  apart {home = home} {over = over} a b =
      let same : home ≡ over = one home over (inl a.in_space) (inr b.in_space) a.now a.before b.now b.before in
      let spaces : Home ≡ Overflow = sym a.in_space ∙ ap (λ (k : PageKey). k.space) same ∙ b.in_space in
      absurd (cc)

  -- one overflow page more at most
  pub overflows_one : (slots : ℕ) → mapped_of new Overflow slots ≤ mapped_of old Overflow slots + 1
  overflows_one slots = of_one old new Overflow one_over slots

  -- one of both at most
  pub heap_one : (slots : ℕ) → mapped_of new Home slots + mapped_of new Overflow slots ≤ mapped_of old Home slots + mapped_of old Overflow slots + 1
  heap_one slots = two (of_one old new Home one_home slots) (overflows_one slots) (λ a b. apart (new_of old new Home one_home slots a).1 (new_of old new Overflow one_over slots b).1)

  -- and of all pages, where only those are mapped
  pub pages_one : (slots : ℕ) → ((key : PageKey) → (IsHeapKey key → ⊥) → new key ≡ old key) → mapped_pages slots new ≤ mapped_pages slots old + 1
  unfolding mapped_pages
  pages_one slots off =
      let images : mapped_of new Image slots ≡ mapped_of old Image slots = mapped_same old new Image slots (λ key image. off key (λ heap. no_heap key heap Image image (λ home. absurd (cc)) (λ over. absurd (cc)))) in
      let system : mapped_in new System 10 0 ≡ mapped_in old System 10 0 = (λ i. count_by (λ number. off (page_key 0 System number) (λ heap. no_heap (page_key 0 System number) heap System refl (λ home. absurd (cc)) (λ over. absurd (cc))) i) (range_with_len 0 10)) in
      omega (arith, heap_one slots, images, system)
    where
      no_heap : (key : PageKey) → IsHeapKey key → (space : Space) → key.space ≡ space → (space ≡ Home → ⊥) → (space ≡ Overflow → ⊥) → ⊥
      no_heap key (inl home) space is off_home off_over = off_home (sym is ∙ home)
      no_heap key (inr over) space is off_home off_over = off_over (sym is ∙ over)
