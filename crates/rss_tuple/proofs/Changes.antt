-- One tuple has changed: all pages are still those of a tuple store, and all other bodies stay.
use Rattle.std.proofs.Common.{◌≡◌, ◌≢◌, inl, inr, ⊎_elim, ℕ, ◌<◌, ◌≤◌, length, true, false, ◌&&◌, ◌==◌, List, Option, Some, None, refl, sym, ◌∙◌, ap, subst, arith, rules}
use Rattle.std.specs.Prelude.{Result, OnOk, IsSome}
use Rattle.std.proofs.lemmas.Bool.{cases_Bool, cases_lt, cases_eq, cond-true, cond-false}
use Rattle.rss_base.specs.DiskRule.{IsTold}
use Rattle.rss_base.specs.PageMap.{page_count}
use Rattle.rss_base.specs.Paged.{Held, Backing, page_key, mapped_pages}
use Rattle.rss_base.specs.Steps.{PagesView, AreCounted, Keys, no_page, PagesStep, PagesCall}
use Rattle.rss_base.specs.declared.fault.PageFault.{PageFault}
use Rattle.rss_base.specs.declared.key.PageKey.{PageKey}
use Rattle.rss_base.specs.declared.key.Space.TheVariants.{Home, Overflow}
use Rattle.rss_base.specs.declared.tid.Tid.{Tid}
use Rattle.std.proofs.lemmas.List.Sums.{sum_by-set}
use Rattle.rss_base.proofs.Steps.{all_held, all_mapped}
use Rattle.rss_page.specs.Content.{Content, Empty, Here, Forward, body_length}
use Rattle.rss_page.specs.Slotted.{entries, HasRoom, IsSlotted}
use Rattle.rss_page.specs.Surveyed.{held_at}
use Rattle.rss_page.proofs.Contents.{length-entries}
use Rattle.rss_page.proofs.Sums.{bodies_fit}
use Rattle.rss_tuple.specs.Directory.{Entries, contents_in, homes, overflows, body_in, body_by, bodies_of, is_same_tid, with_body}
use Rattle.rss_tuple.specs.Heaps.{HasBody, AreLinked, AreHeaps}
use Rattle.rss_tuple.specs.TupleSteps.{TuplesCall, tuples_in, only_tuple, pages_for}
use Rattle.rss_tuple.specs.Calls.{MayInsert, HasTuple, HasSpare, MayReplace, PutsTuple}
use Rattle.rss_tuple.specs.Puts.{Changed, MovesBody}
use Rattle.rss_tuple.proofs.Links.{linked_now, body_same, not_empty}
use Rattle.rss_tuple.proofs.Spots.{the_bytes}
use Rattle.rss_tuple.proofs.Seen.{on_ok_then, content_after, heaps_after, some_there}
use Rattle.rss_tuple.proofs.Placed.{same_at}

same_tuple : (s segment : ℕ) (t tid : Tid) → (s == segment) && is_same_tid t tid ≡ true → (s ≡ segment) × (t ≡ tid)
same_tuple s segment t tid is = search rules

itself : (segment : ℕ) (tid : Tid) → (segment == segment) && is_same_tid tid tid ≡ true
itself segment tid = search rules

-- pages of other segments aren't those for a tuple
segment_off : (segment s p : ℕ) (tid : Tid) → s ≢ segment → pages_for segment tid (page_key s Home p) → ⊥
segment_off segment s p tid differ is = ⊎_elim (λ home. differ (ap (λ (k : PageKey). k.segment) home)) (λ over. differ (ap (λ (k : PageKey). k.segment) over)) is

segment_off_too : (segment s p : ℕ) (tid : Tid) → s ≢ segment → pages_for segment tid (page_key s Overflow p) → ⊥
segment_off_too segment s p tid differ is = ⊎_elim (λ home. differ (ap (λ (k : PageKey). k.segment) home)) (λ over. differ (ap (λ (k : PageKey). k.segment) over)) is

module _ {asks outs : ℕ} {segment : ℕ} {tid : Tid} {now : Option (List ℕ)} {old new : PagesView} (step : PagesStep (pages_for segment tid) asks outs old new) (told : IsTold old.disk) (are : AreHeaps old) (changed : Changed segment tid now old new) where
  homes_off : (s : ℕ) → s ≢ segment → homes new.held s ≡ homes old.held s
  homes_off s differ = λ i p q. same_at step told (page_key s Home p) q (segment_off segment s p tid differ) i

  overflows_off : (s : ℕ) → s ≢ segment → overflows new.held s ≡ overflows old.held s
  overflows_off s differ = λ i p q. same_at step told (page_key s Overflow p) q (segment_off_too segment s p tid differ) i

  linked_at : (s : ℕ) → AreLinked (homes new.held s) (overflows new.held s)
  linked_at s = elim (cases_eq s segment) [
    | inl same ↦ subst (λ (n : ℕ). AreLinked (homes new.held n) (overflows new.held n)) (sym same) (linked_now tid.page tid.slot (homes old.held segment) (overflows old.held segment) (homes new.held segment) (overflows new.held segment) (are.linked segment) changed.moves)
    | inr differ ↦ subst (λ (h : Entries). AreLinked h (overflows new.held s)) (sym (homes_off s differ)) (subst (λ (o : Entries). AreLinked (homes old.held s) o) (sym (overflows_off s differ)) (are.linked s))
  ]

  pub heaps_now : AreHeaps new
  heaps_now = record { formed = changed.formed; linked = linked_at }

  pub other_bodies : (s : ℕ) (t : Tid) → (only_tuple segment tid s t → ⊥) → bodies_of new.held s t ≡ bodies_of old.held s t
  other_bodies s t off = elim (cases_eq s segment) [
    | inl same ↦ subst (λ (n : ℕ). bodies_of new.held n t ≡ bodies_of old.held n t) (sym same) (body_same tid.page tid.slot (homes old.held segment) (overflows old.held segment) (homes new.held segment) (overflows new.held segment) (are.linked segment) changed.moves t.page t.slot (λ page slot. off (same, λ i. record { page = page i; slot = slot i })))
    | inr differ ↦
        let home : homes new.held s t.page t.slot ≡ homes old.held s t.page t.slot = ap (λ (h : Entries). h t.page t.slot) (homes_off s differ) in
        ap (λ (o : Entries). body_by o (homes new.held s t.page t.slot)) (overflows_off s differ) ∙ ap (body_by (overflows old.held s)) home
  ]

  body_at : (s : ℕ) (t : Tid) → bodies_of new.held s t ≡ with_body (bodies_of old.held) segment tid now s t
  body_at s t = elim (cases_Bool ((s == segment) && is_same_tid t tid)) [
    | inl same ↦
        let is = same_tuple s segment t tid same in
        (λ i. bodies_of new.held (is.0 i) (is.1 i)) ∙ changed.body ∙ sym (cond-true ((s == segment) && is_same_tid t tid) now (bodies_of old.held s t) same)
    | inr differ ↦ other_bodies s t (λ is. let same : (s == segment) && is_same_tid t tid ≡ true = (λ i. (is.0 i == segment) && is_same_tid (is.1 i) tid) ∙ itself segment tid in let never : true ≡ false = sym same ∙ differ in absurd (cc))
        ∙ sym (cond-false ((s == segment) && is_same_tid t tid) now (bodies_of old.held s t) differ)
  ]

  pub bodies_now : bodies_of new.held ≡ with_body (bodies_of old.held) segment tid now
  bodies_now = λ i s t. body_at s t i

pub changed_call : {T : Type 0} {cost segment : ℕ} {tid : Tid} (now : Option (List ℕ)) {old new : PagesView} {result : Result T PageFault} → (IsTold old.disk → AreHeaps old) → PagesCall (pages_for segment tid) cost cost old new result → OnOk result (IsTold old.disk → Changed segment tid now old new) → TuplesCall (pages_for segment tid) (only_tuple segment tid) cost (tuples_in old) (tuples_in new) result
changed_call now {result = result} are call changed = record {
  below = call;
  heaps = on_ok_then result (λ did told. heaps_now call.step told (are told) (did told)) changed;
  others = on_ok_then result (λ did told s t off. other_bodies call.step told (are told) (did told) s t off) changed;
}

pub puts_tuple : {T : Type 0} {cost segment : ℕ} {tid : Tid} {body : List ℕ} {old new : PagesView} {result : Result T PageFault} → (IsTold old.disk → AreHeaps old) → MovesBody segment tid body cost old new result → PutsTuple segment tid body cost (tuples_in old) (tuples_in new) result
puts_tuple {body = body} {result = result} are moves =
    let changed = on_ok_then result (λ moved told. (moved told).changed) moves.moved in
    record {
      put = on_ok_then result (λ did told. bodies_now moves.did.step told (are told) (did told)) changed;
      placed = on_ok_then result (λ moved told. (moved told).placed) moves.moved;
      takes = moves.takes;
      did = changed_call (Some body) are moves.did changed;
    }

-- ---- what stands at an identifier

pub absent_empty : (overflow : Entries) (content : Content) → ((p s : ℕ) → content ≡ Forward p s → HasBody (overflow p s)) → body_by overflow content ≡ None → content ≡ Empty
absent_empty overflow Empty leads none = refl
absent_empty overflow (Here body) leads none = absurd (cc)
absent_empty overflow (Forward p s) leads none = let has = leads p s refl in let there = ap body_in has.is in absurd (cc)

pub empty_absent : (overflow : Entries) (content : Content) → content ≡ Empty → body_by overflow content ≡ None
empty_absent overflow content is = ap (body_by overflow) is

pub live_some : (overflow : Entries) (content : Content) → IsSome (body_by overflow content) → content ≡ Empty → ⊥
live_some overflow Empty live is = absurd (cc)
live_some overflow (Here body) live is = absurd (cc)
live_some overflow (Forward p s) live is = absurd (cc)

-- the home entry of a tuple holds something
pub entry_there : (view : PagesView) (segment : ℕ) (tid : Tid) → HasTuple (tuples_in view) segment tid → IsTold view.disk → homes view.held segment tid.page tid.slot ≡ Empty → ⊥
entry_there view segment tid has told = live_some (overflows view.held segment) (homes view.held segment tid.page tid.slot) (has.live told)

-- the home entry where no tuple stands holds nothing
pub entry_free : (view : PagesView) (segment : ℕ) (tid : Tid) (count : ℕ) → MayInsert (tuples_in view) segment tid count → IsTold view.disk → homes view.held segment tid.page tid.slot ≡ Empty
entry_free view segment tid count may told = absent_empty (overflows view.held segment) (homes view.held segment tid.page tid.slot) (λ p s is. ((may.heaps told).linked segment).leads tid.page tid.slot p s is) (may.absent told)

-- nor after a page was read
pub free_after : {asks outs count segment : ℕ} {tid : Tid} {old new : PagesView} → PagesStep no_page asks outs old new → MayInsert (tuples_in old) segment tid count → IsTold new.disk → homes new.held segment tid.page tid.slot ≡ Empty
free_after {count = count} {segment = segment} {tid = tid} {old = old} step may told =
    let before = step.passes.leaves.told.1 told in
    content_after step (page_key segment Home tid.page) tid.slot before ∙ entry_free old segment tid count may before

pub fits_unmapped : (held : Held) (key : PageKey) (slot count : ℕ) → held key ≡ None → count ≤ 2400 → HasRoom (contents_in (held key)) slot count
fits_unmapped held key slot count none few = subst (λ (page : Option (List ℕ)). HasRoom (contents_in page) slot count) (sym none) (omega arith)

-- ---- after a page was read

pub has_after : {asks outs segment : ℕ} {tid : Tid} {old new : PagesView} → PagesStep no_page asks outs old new → HasTuple (tuples_in old) segment tid → HasTuple (tuples_in new) segment tid
has_after {segment = segment} {tid = tid} step has = record {
  heaps = heaps_after step has.heaps;
  live = λ told.
      let before = step.passes.leaves.told.1 told in
      subst (λ (h : Held). IsSome (bodies_of h segment tid)) (sym (all_held step before)) (has.live before);
}

-- ---- the room

-- a body that isn't longer fits where one stands
pub fits_again : (page : List ℕ) (slot count : ℕ) (body : List ℕ) → IsSlotted page → slot < 128 → held_at (entries page) slot ≡ Here body → count ≤ length body → HasRoom (entries page) slot count
fits_again page slot count body slotted low here few =
    let sums = sum_by-set body_length (entries page) slot Empty Empty (omega (arith, length-entries page)) in
    let long : body_length (held_at (entries page) slot) ≡ length body = ap body_length here in
    omega (arith, sums, long, few, bodies_fit page slotted)

-- so a body for which a page is wanted is longer
pub spare_longer : (view : PagesView) (segment : ℕ) (tid : Tid) (count : ℕ) (page : List ℕ) (slot : ℕ) (body : List ℕ) → HasSpare (tuples_in view) segment tid count → IsTold view.disk → bodies_of view.held segment tid ≡ Some body → IsSlotted page → slot < 128 → held_at (entries page) slot ≡ Here body → (HasRoom (entries page) slot count → ⊥) → 0 < view.spare
spare_longer view segment tid count page slot body spare told is slotted low here full = elim (cases_lt (length body) count) [
  | inl longer ↦ spare told body is longer
  | inr few ↦ absurd (full (fits_again page slot count body slotted low here few))
]

pub spare_after : {touched : Keys} {asks outs : ℕ} {old new : PagesView} → PagesStep touched asks outs old new → new.mapped ≡ old.mapped → AreCounted old → AreCounted new → new.spare ≡ old.spare
spare_after {old = old} {new = new} step mapped before after =
    let pages : mapped_pages new.slots new.mapped ≡ mapped_pages old.slots old.mapped = (λ i. mapped_pages (step.passes.slots i) (mapped i)) in
    let shadow : page_count new.backing.shadow ≡ page_count old.backing.shadow = ap (λ (b : Backing). page_count b.shadow) step.passes.backing in
    omega (arith, before, after, pages, shadow, step.passes.slots)

pub replace_after : {asks outs segment count : ℕ} {tid : Tid} {old new : PagesView} → PagesStep no_page asks outs old new → AreCounted old → AreCounted new → MayReplace (tuples_in old) segment tid count → MayReplace (tuples_in new) segment tid count
replace_after {segment = segment} {tid = tid} step before after may = record {
  may = may.may;
  there = has_after step may.there;
  room = λ told bytes is longer.
      let was = step.passes.leaves.told.1 told in
      let spare = may.room was bytes (ap (λ (h : Held). bodies_of h segment tid) (sym (all_held step was)) ∙ is) longer in
      omega (arith, spare, spare_after step (all_mapped step) before after);
}

-- the same where it stands in an overflow page
pub spare_away : (view : PagesView) (segment : ℕ) (tid : Tid) (count page slot : ℕ) (key : PageKey) → key ≡ page_key segment Overflow page → HasSpare (tuples_in view) segment tid count → IsTold view.disk → AreHeaps view → homes view.held segment tid.page tid.slot ≡ Forward page slot → slot < 128 → (HasRoom (contents_in (view.held key)) slot count → ⊥) → 0 < view.spare
spare_away view segment tid count page slot key at spare told are leads low full =
    let one = page_key segment Overflow page in
    let has = (are.linked segment).leads tid.page tid.slot page slot leads in
    let there = the_bytes (view.held one) (some_there view.held one slot (not_empty (overflows view.held segment page slot) has)) in
    let heap = are.formed one there.0 (inr refl) there.1 in
    let here : held_at (entries there.0) slot ≡ Here has.body = sym (ap (λ (p : Option (List ℕ)). held_at (contents_in p) slot) there.1) ∙ has.is in
    let body = ap (body_by (overflows view.held segment)) leads ∙ ap body_in has.is in
    spare_longer view segment tid count there.0 slot has.body spare told body heap.formed.slotted low here
    (λ room. full (subst (λ (k : PageKey). HasRoom (contents_in (view.held k)) slot count) (sym at) (subst (λ (p : Option (List ℕ)). HasRoom (contents_in p) slot count) (sym there.1) room)))
