-- Home pages that were walked over in search of the next tuple.
use Rattle.std.proofs.Common.{◌≡◌, inl, inr, ◌↔◌, ℕ, ◌+◌, ◌≤◌, ◌<◌, true, Option, refl, sym, ◌∙◌, ap, subst, arith}
use Rattle.std.specs.Prelude.{is_some, IsSome, Result, Err, IsErrAnd}
use Rattle.std.proofs.lemmas.Bool.{cases_lt, cases_eq}
use Rattle.rss_base.specs.DiskRule.{IsTold}
use Rattle.rss_base.specs.PageMap.{IsKey}
use Rattle.rss_base.specs.Paged.{Held, Mapped, page_key, IsMappedAt, IsFirstFrom, NoneFrom}
use Rattle.rss_base.specs.Steps.{PagesView, no_page, PagesStep, PagesCall}
use Rattle.rss_base.specs.declared.fault.PageFault.{PageFault}
use Rattle.rss_base.specs.declared.key.PageKey.{PageKey}
use Rattle.rss_base.specs.declared.key.Space.TheVariants.{Home}
use Rattle.rss_base.specs.declared.tid.Tid.{Tid}
use Rattle.rss_base.proofs.Steps.{rests, then, then_call, within, fails, all_held, all_mapped}
use Rattle.rss_page.specs.Content.{Content, Empty, Here, Forward}
use Rattle.rss_page.specs.Surveyed.{held_at}
use Rattle.rss_tuple.specs.Directory.{Entries, contents, content_at, homes, overflows, body_in, body_by, tid_at}
use Rattle.rss_tuple.specs.Heaps.{HasBody, AreHeaps}
use Rattle.rss_tuple.specs.TupleSteps.{IsLive, IsLeast, NoneIs, tuples_in}
use Rattle.rss_base.specs.Tids.{IsAfter}
use Rattle.rss_tuple.specs.Finding.{IsFrom, IsNext, IsFirstTaken, NoneTaken}
use Rattle.rss_tuple.proofs.Seen.{high_empty, some_there}
use Rattle.rss_tuple.proofs.Changes.{live_some}

-- an entry that isn't empty has or leads to a body
some_live : (overflow : Entries) (content : Content) → ((p s : ℕ) → content ≡ Forward p s → HasBody (overflow p s)) → (content ≡ Empty → ⊥) → IsSome (body_by overflow content)
some_live overflow Empty leads some = absurd (some refl)
some_live overflow (Here body) leads some = refl
some_live overflow (Forward p s) leads some = let has = leads p s refl in subst (λ (c : Content). IsSome (body_in c)) (sym has.is) refl

-- where a tuple stands, its home entry holds something
live_there : (view : PagesView) (segment : ℕ) (tid : Tid) → IsLive (tuples_in view) segment tid → content_at view.held (page_key segment Home tid.page) tid.slot ≡ Empty → ⊥
live_there view segment tid live = live_some (overflows view.held segment) (homes view.held segment tid.page tid.slot) live

live_low : (view : PagesView) (segment : ℕ) (tid : Tid) → IsLive (tuples_in view) segment tid → tid.slot < 128
live_low view segment tid live = elim (cases_lt tid.slot 128) [
  | inl low ↦ low
  | inr high ↦ absurd (live_there view segment tid live (high_empty view.held (page_key segment Home tid.page) tid.slot high))
]

live_mapped : (view : PagesView) (segment : ℕ) (tid : Tid) → ((key : PageKey) → is_some (view.held key) ≡ view.mapped key) → IsLive (tuples_in view) segment tid → view.mapped (page_key segment Home tid.page) ≡ true
live_mapped view segment tid holds live = let key = page_key segment Home tid.page in sym (holds key) ∙ some_there view.held key tid.slot (live_there view segment tid live)

-- So many pages were looked at, and each next tuple stands at this identifier or behind it.
pub record Walked (start now : PagesView) (segment : ℕ) (after : Option Tid) (from : Tid) : Type 0 where
  pub count : ℕ
  pub few : count ≤ start.slots
  pub below : count ≤ from.page
  pub step : PagesStep no_page count count start now
  pub low : from.slot ≤ 128
  pub none : IsTold start.disk → (tid : Tid) → IsNext (tuples_in start) segment after tid → IsFrom from tid
  pub ahead : (tid : Tid) → tid.slot < 128 → IsFrom from tid → IsAfter after tid

pub walked_none : (start : PagesView) (segment : ℕ) (after : Option Tid) (from : Tid) → from.slot ≤ 128 → ((tid : Tid) → tid.slot < 128 → IsFrom from tid ↔ IsAfter after tid) → Walked start start segment after from
walked_none start segment after from low is = record {
  count = 0;
  few = omega arith;
  below = omega arith;
  step = rests start;
  low = low;
  none = λ told tid next. (is tid (live_low start segment tid next.live)).1 next.behind;
  ahead = λ tid slot there. (is tid slot).0 there;
}

module _ (start now : PagesView) (segment : ℕ) (after : Option Tid) (from : Tid) (so : Walked start now segment after from) (holds : IsTold start.disk → (key : PageKey) → is_some (start.held key) ≡ start.mapped key) where
  mapped_now : (tid : Tid) → IsTold start.disk → IsNext (tuples_in start) segment after tid → now.mapped (page_key segment Home tid.page) ≡ true
  mapped_now tid told next = ap (λ (m : Mapped). m (page_key segment Home tid.page)) (all_mapped so.step) ∙ live_mapped start segment tid (holds told) next.live

  from_page : (tid : Tid) → IsFrom from tid → from.page ≤ tid.page
  from_page tid there = elim there [ inl later ↦ omega arith | inr same ↦ omega (arith, same.0) ]

  pub none_next : NoneFrom (IsMappedAt now.mapped segment Home) from.page → IsTold start.disk → NoneIs (IsNext (tuples_in start) segment after)
  none_next none told = λ tid next. none tid.page (from_page tid (so.none told tid next)) (mapped_now tid told next)

  module _ (number low : ℕ) (first : IsFirstFrom (IsMappedAt now.mapped segment Home) from.page number) (same : from.page ≡ number → low ≡ from.slot) (other : (from.page ≡ number → ⊥) → low ≡ 0) where
    -- a next tuple doesn't stand in front of the page that was found
    at_page : (tid : Tid) → IsTold start.disk → IsNext (tuples_in start) segment after tid → number ≤ tid.page
    at_page tid told next = elim (cases_lt tid.page number) [
      | inl before ↦ absurd (first.none_before tid.page (from_page tid (so.none told tid next)) before (mapped_now tid told next))
      | inr there ↦ there
    ]

    -- nor in front of the slot where the search in it begins
    at_slot : (tid : Tid) → IsTold start.disk → IsNext (tuples_in start) segment after tid → tid.page ≡ number → low ≤ tid.slot
    at_slot tid told next here = elim (cases_eq from.page number) [
      | inl begins ↦ elim (so.none told tid next) [
        | inl later ↦ absurd (omega (arith, here, begins))
        | inr there ↦ omega (arith, same begins, there.1)
      ]
      | inr differ ↦ omega (arith, other differ)
    ]

    here_live : (tid : Tid) → tid.page ≡ number → IsLive (tuples_in start) segment tid → held_at (contents start.held (page_key segment Home number)) tid.slot ≡ Empty → ⊥
    here_live tid here live = subst (λ (n : ℕ). content_at start.held (page_key segment Home n) tid.slot ≡ Empty → ⊥) here (live_there start segment tid live)

    pub found_next : (slot : ℕ) → AreHeaps start → IsTold start.disk → IsFirstTaken (contents start.held (page_key segment Home number)) low slot → IsLeast (IsNext (tuples_in start) segment after) (tid_at number slot)
    found_next slot are told found = record {
      has = record {
        behind = so.ahead (tid_at number slot) found.low (elim (cases_eq from.page number) [
          | inl begins ↦ inr (begins, omega (arith, same begins, found.from_there))
          | inr differ ↦ inl (omega (arith, first.later, differ))
        ]);
        live = some_live (overflows start.held segment) (homes start.held segment number slot) (λ p s is. (are.linked segment).leads number slot p s is) found.taken;
      };
      least = λ tid before next. elim before [
        | inl page ↦ absurd (omega (arith, page, at_page tid told next))
        | inr there ↦ here_live tid there.0 next.live (found.lesser tid.slot (at_slot tid told next there.0) there.1)
      ];
    }

    pub walked_more : (new : PagesView) {T : Type 0} {result : Result T PageFault} → number < start.slots → (IsTold start.disk → NoneTaken (contents start.held (page_key segment Home number)) low) → PagesCall no_page 1 1 now new result → Walked start new segment after (tid_at (number + 1) 0)
    walked_more new in_slots none call = record {
      count = so.count + 1;
      few = omega (arith, so.below, first.later);
      below = omega (arith, so.below, first.later);
      step = then so.step call.step;
      low = omega arith;
      none = λ told tid next. elim (cases_eq tid.page number) [
        | inl here ↦ absurd (here_live tid here next.live (none told tid.slot (at_slot tid told next here)))
        | inr differ ↦ elim (cases_eq (number + 1) tid.page) [
          | inl next_page ↦ inr (next_page, omega arith)
          | inr later ↦ inl (omega (arith, at_page tid told next, differ, later))
        ]
      ];
      ahead = λ tid slot there. so.ahead tid slot (inl (elim there [ inl later ↦ omega (arith, first.later) | inr here ↦ omega (arith, first.later, here.0) ]));
    }

    pub walk_call : (new : PagesView) {T : Type 0} {result : Result T PageFault} → number < start.slots → PagesCall no_page 1 1 now new result → PagesStep no_page start.slots start.slots start new
    walk_call new in_slots call = within (λ key there. there) (omega (arith, so.below, first.later)) (omega (arith, so.below, first.later)) (then so.step call.step)

    pub walk_fails : (new : PagesView) {T U : Type 0} {fault : PageFault} (result : Result U PageFault) → IsErrAnd result (λ why. why ≡ fault) → number < start.slots → PagesCall {T = T} no_page 1 1 now new (Err fault) → PagesCall no_page start.slots start.slots start new result
    walk_fails new result is in_slots call = fails result is (λ key there. there) (omega (arith, so.below, first.later)) (omega (arith, so.below, first.later)) (then_call so.step call)

-- what a page holds now is what it held when the search began
pub contents_before : {asks outs : ℕ} {start now : PagesView} {key one : PageKey} → PagesStep no_page asks outs start now → key ≡ one → IsTold start.disk → contents now.held key ≡ contents start.held one
contents_before {start = start} {now = now} {key = key} {one = one} step at told = ap (λ (k : PageKey). contents now.held k) at ∙ ap (λ (h : Held). contents h one) (all_held step told)

-- the page that is looked at has a number below the slots
pub low_home : (start now : PagesView) (segment number : ℕ) → now.slots ≡ start.slots → IsKey now.slots (page_key segment Home number) → number < start.slots
low_home start now segment number same key = omega (arith, same, key.number)
