-- What pages say, through calls that change none of them.
use Rattle.std.proofs.Common.{◌≡◌, ℕ, ◌≤◌, true, List, Option, Some, None, get_or, refl, sym, ◌∙◌, ap, subst, arith}
use Rattle.std.specs.Prelude.{is_some, Result, Ok, Err, IfSome, IfOk, IfErr, OnOk, OnErr, IsErrAnd}
use Rattle.std.proofs.lemmas.List.{get_or_past}
use Rattle.rss_base.specs.DiskRule.{IsTold}
use Rattle.rss_base.specs.Paged.{Held}
use Rattle.rss_base.specs.Notes.{Noted}
use Rattle.rss_base.specs.Steps.{PagesView, Keys, no_page, PagesStep, PagesCall}
use Rattle.rss_base.specs.declared.place.Place.{Place}
use Rattle.rss_base.specs.declared.fault.PageFault.{PageFault}
use Rattle.rss_base.specs.declared.fault.PageFault.TheVariants.{Device as DeviceFailed, Damaged, NoMemory}
use Rattle.rss_base.specs.declared.key.PageKey.{PageKey}
use Rattle.rss_base.proofs.Steps.{done, fails, all_mapped, all_held, all_notes, none_changed_more}
use Rattle.rss_tuple.specs.Edits.{KeepsEntries}
use Rattle.rss_page.specs.Content.{Empty}
use Rattle.rss_page.proofs.Contents.{length-entries}
use Rattle.rss_tuple.specs.Directory.{contents_in, content_at, homes, overflows, bodies_of}
use Rattle.rss_tuple.specs.Heaps.{IsHeap, AreFormed, AreLinked, AreHeaps}
use Rattle.rss_tuple.specs.TupleSteps.{Tuples, TuplesView, TuplesCall, tuples_in, no_tuple}

-- a fact about a success
pub on_ok : {T E : Type 0} {P : Type 0} (result : Result T E) → P → OnOk result P
on_ok (Ok value) fact = fact
on_ok (Err e) fact = tt

pub on_err : {T E : Type 0} {P : Type 0} (result : Result T E) → P → OnErr result P
on_err (Ok value) fact = tt
on_err (Err e) fact = fact

-- ---- entries

pub high_empty : (held : Held) (key : PageKey) (slot : ℕ) → 128 ≤ slot → content_at held key slot ≡ Empty
high_empty held key slot high = past (held key)
  where
    past : (page : Option (List ℕ)) → get_or (contents_in page) slot Empty ≡ Empty
    past None = refl
    past (Some bytes) = get_or_past (contents_in (Some bytes)) slot Empty (omega (arith, length-entries bytes))

-- an entry that isn't empty stands in a page that holds something
pub some_there : (held : Held) (key : PageKey) (slot : ℕ) → (content_at held key slot ≡ Empty → ⊥) → is_some (held key) ≡ true
some_there held key slot some = there (held key) some
  where
    there : (page : Option (List ℕ)) → (get_or (contents_in page) slot Empty ≡ Empty → ⊥) → is_some page ≡ true
    there None none = absurd (none refl)
    there (Some bytes) none = refl

-- ---- where the same is held and noted

pub formed_same : (old new : PagesView) → new.held ≡ old.held → new.notes ≡ old.notes → AreFormed old → AreFormed new
formed_same old new held notes formed = λ key bytes heap is.
    subst (λ (n : Option ℕ). IsHeap key bytes n) (sym (ap (λ (f : Noted). f key) notes)) (formed key bytes heap (sym (ap (λ (f : Held). f key) held) ∙ is))

pub linked_same : (old new : Held) → new ≡ old → ((segment : ℕ) → AreLinked (homes old segment) (overflows old segment)) → (segment : ℕ) → AreLinked (homes new segment) (overflows new segment)
linked_same old new held linked = λ segment. subst (λ (h : Held). AreLinked (homes h segment) (overflows h segment)) (sym held) (linked segment)

pub heaps_same : (old new : PagesView) → new.held ≡ old.held → new.notes ≡ old.notes → AreHeaps old → AreHeaps new
heaps_same old new held notes are = record { formed = formed_same old new held notes are.formed; linked = linked_same old.held new.held held are.linked }

module _ {asks outs : ℕ} {old new : PagesView} (step : PagesStep no_page asks outs old new) where
  pub formed_after : (IsTold old.disk → AreFormed old) → IsTold new.disk → AreFormed new
  formed_after formed told = let before = step.passes.leaves.told.1 told in formed_same old new (all_held step before) (all_notes step) (formed before)

  pub heaps_after : (IsTold old.disk → AreHeaps old) → IsTold new.disk → AreHeaps new
  heaps_after are told = let before = step.passes.leaves.told.1 told in heaps_same old new (all_held step before) (all_notes step) (are before)

  pub content_after : (key : PageKey) (slot : ℕ) → IsTold old.disk → content_at new.held key slot ≡ content_at old.held key slot
  content_after key slot told = ap (λ (h : Held). content_at h key slot) (all_held step told)

-- a call that touched nothing
pub kept_after : {asks outs : ℕ} {old new : PagesView} → PagesStep no_page asks outs old new → (IsTold old.disk → AreFormed old) → KeepsEntries old new
kept_after step formed = record {
  mapped = all_mapped step;
  held = λ told. all_held step told;
  changed = none_changed_more step;
  formed = λ told. formed_after step formed (step.passes.leaves.told.0 told);
}

pub looked : {T : Type 0} {cost : ℕ} {old new : PagesView} {result : Result T PageFault} → (IsTold old.disk → AreHeaps old) → PagesCall no_page cost cost old new result → TuplesCall no_page no_tuple cost (tuples_in old) (tuples_in new) result
looked {old = old} {new = new} {result = result} are call = record {
  below = call;
  heaps = on_ok result (λ told. heaps_same old new (all_held call.step told) (all_notes call.step) (are told));
  others = on_ok result (λ told segment tid off. ap (λ (h : Held). bodies_of h segment tid) (all_held call.step told));
}

-- a page that isn't what it should be
pub found_damaged : {T : Type 0} {touched : Keys} {asks outs : ℕ} {old new : PagesView} {place : Place} (fault : PageFault) → fault ≡ Damaged place → PagesStep touched asks outs old new → (IsTold old.disk → ⊥) → PagesCall {T = T} touched asks outs old new (Err fault)
found_damaged {place = place} fault is step never = record {
  step = step;
  failed = λ failed. let same : Damaged place ≡ DeviceFailed = cc in absurd (cc);
  sound = λ other named told. never told;
  memory = λ lacks. let same : Damaged place ≡ NoMemory = cc in absurd (cc);
}

-- a test of what was brought into memory, whose one error is damage
pub tested : {T : Type 0} {touched : Keys} {asks outs : ℕ} {old new : PagesView} (place : Place) (result : Result T PageFault) → IfErr result (λ fault. fault ≡ Damaged place) → OnErr result (IsTold old.disk → ⊥) → PagesStep touched asks outs old new → PagesCall touched asks outs old new result
tested place (Ok value) names never step = done value step
tested place (Err fault) names never step = found_damaged fault names step never

-- what follows from a fact about a success
pub on_ok_then : {T E : Type 0} {P Q : Type 0} (result : Result T E) → (P → Q) → OnOk result P → OnOk result Q
on_ok_then (Ok value) follows fact = follows fact
on_ok_then (Err e) follows fact = tt

-- nothing is said of a failure
pub not_ok : {U : Type 0} (fault : PageFault) (P : Type 0) (result : Result U PageFault) → IsErrAnd result (λ why. why ≡ fault) → OnOk result P
not_ok fault P (Ok value) is = absurd is
not_ok fault P (Err e) is = tt

pub if_some_then : {T : Type 0} {P Q : T → Type 0} (found : Option T) → ((value : T) → P value → Q value) → IfSome found P → IfSome found Q
if_some_then None follows fact = tt
if_some_then (Some value) follows fact = follows value fact

pub if_ok_then : {T E : Type 0} {P Q : T → Type 0} (result : Result T E) → ((value : T) → P value → Q value) → IfOk result P → IfOk result Q
if_ok_then (Ok value) follows fact = follows value fact
if_ok_then (Err e) follows fact = tt

-- ---- calls on tuples

-- a call whose answer follows from that of another one, which was all that it did
pub answers : {T U : Type 0} {touched : Keys} {tuples : Tuples} {cost : ℕ} {old new : TuplesView} {found : T} (value : U) → TuplesCall touched tuples cost old new (Ok found) → TuplesCall touched tuples cost old new (Ok value)
answers value call = record { below = done value call.below.step; heaps = call.heaps; others = call.others }

-- its error is passed on
pub hands_on : {T U : Type 0} {touched : Keys} {tuples : Tuples} {cost : ℕ} {old new : TuplesView} {fault : PageFault} (result : Result U PageFault) → IsErrAnd result (λ why. why ≡ fault) → TuplesCall {T = T} touched tuples cost old new (Err fault) → TuplesCall touched tuples cost old new result
hands_on {fault = fault} result is call = record {
  below = fails result is (λ key there. there) (omega arith) (omega arith) call.below;
  heaps = not_ok fault _ result is;
  others = not_ok fault _ result is;
}
