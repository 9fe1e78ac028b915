-- How calls on pages follow one another.
use Rattle.std.proofs.Common.{◌≡◌, ◌⊎◌, inl, inr, ⊎_elim, List, Option, Some, None, ℕ, ◌+◌, ◌≤◌, Bool, true, false, refl, sym, ◌∙◌, ap, subst, arith}
use Rattle.std.specs.Prelude.{Result, Ok, Err, IsErrAnd}
use Rattle.std.proofs.lemmas.Result.{err_from_is_err_and}
use Rattle.std.proofs.lemmas.Bool.{cases_Bool, cond-true, cond-false, true≢false}
use Rattle.rss_base.specs.DiskRule.{IsTold}
use Rattle.rss_base.specs.Paged.{AreAmong, Mapped, Held, HasPageCause, Backing, is_same, with_mapped, with_page, page_key, mapped_pages}
use Rattle.rss_base.specs.Notes.{Noted, with_note}
use Rattle.rss_base.specs.Devices.{OnlyReads}
use Rattle.rss_base.specs.Steps.{PagesView, Keys, NoneChanged, AreInMemory, StaysIdle, no_page, only, pages_in, WritesPage, TakesPage, GivesPage, NotesPage, PassesOn, PagesStep, PagesCall, device_below, driven}
use Rattle.rss_base.specs.declared.fault.PageFault.{PageFault}
use Rattle.rss_base.specs.declared.fault.PageFault.TheVariants.{Device as DeviceFailed, Damaged, NoMemory}
use Rattle.rss_base.specs.declared.key.PageKey.{PageKey}
use Rattle.rss_base.specs.declared.key.Space.{Space}
use Rattle.rss_base.proofs.Calls.{leaves_then, leaves_rests}
use Rattle.rss_base.proofs.Keys.{is_same-itself, is_same-other}
use Rattle.rss_base.proofs.Moments.{reads_none, reads_then, same_device, same_then, drives_nothing, drives_then}

-- ---- what is passed on

passes_nothing : (view : PagesView) {asks outs : ℕ} → PassesOn asks outs view view
passes_nothing view = record {
  slots = refl;
  backing = refl;
  leaves = leaves_rests _ _ _;
  later = omega arith;
  asks_low = omega arith;
  asks_high = omega arith;
  writes_low = omega arith;
  writes_high = omega arith;
  outs_high = omega arith;
  drives = drives_nothing (driven view);
}

passes_then : {asks asks_then outs outs_then : ℕ} {old mid new : PagesView} → PassesOn asks outs old mid → PassesOn asks_then outs_then mid new → PassesOn (asks + asks_then) (outs + outs_then) old new
passes_then one two = record {
  slots = two.slots ∙ one.slots;
  backing = two.backing ∙ one.backing;
  leaves = leaves_then one.leaves two.leaves;
  later = omega (arith, one.later, two.later);
  asks_low = omega (arith, one.asks_low, two.asks_low);
  asks_high = omega (arith, one.asks_high, two.asks_high);
  writes_low = omega (arith, one.writes_low, two.writes_low);
  writes_high = omega (arith, one.writes_high, two.writes_high);
  outs_high = omega (arith, one.outs_high, two.outs_high);
  drives = drives_then one.drives two.drives;
}

passes_within : {asks outs asks_now outs_now : ℕ} {old new : PagesView} → asks ≤ asks_now → outs ≤ outs_now → PassesOn asks outs old new → PassesOn asks_now outs_now old new
passes_within few_asks few_outs passes = record {
  slots = passes.slots;
  backing = passes.backing;
  leaves = passes.leaves;
  later = passes.later;
  asks_low = passes.asks_low;
  asks_high = omega (arith, few_asks, passes.asks_high);
  writes_low = passes.writes_low;
  writes_high = omega (arith, few_outs, passes.writes_high);
  outs_high = omega (arith, few_outs, passes.outs_high);
  drives = passes.drives;
}

-- ---- steps

-- where no page was touched, none has changed
still_none : {touched : Keys} (old new : PagesView) → ((key : PageKey) → new.changed key ≡ true → (old.changed key ≡ true) ⊎ touched key) → ((key : PageKey) → touched key → ⊥) → NoneChanged old → NoneChanged new
still_none old new changed off none key = elim (cases_Bool (new.changed key)) [
  | inl is ↦ ⊎_elim (λ was. absurd (true≢false (sym was ∙ none key))) (λ there. absurd (off key there)) (changed key is)
  | inr not ↦ not
]

-- nothing was done to the device, nor to what is in memory
pub idle_rests : (view : PagesView) → StaysIdle view view
idle_rests view = record { device = same_device (device_below view); in_memory = refl }

pub idle_then : {old mid new : PagesView} → StaysIdle old mid → StaysIdle mid new → StaysIdle old new
idle_then one two = record { device = same_then one.device two.device; in_memory = two.in_memory ∙ one.in_memory }

-- where no page was touched and the same ones are in memory, all of them are there still
pub still_in_memory : {touched : Keys} {asks outs : ℕ} {old new : PagesView} → PagesStep touched asks outs old new → ((key : PageKey) → touched key → ⊥) → AreInMemory old → StaysIdle old new → AreInMemory new
still_in_memory {old = old} {new = new} step off are idle =
    let same : new.mapped ≡ old.mapped = λ i key. step.mapped_off key (off key) i in
    let count : mapped_pages new.slots new.mapped ≡ mapped_pages old.slots old.mapped = λ i. mapped_pages (step.passes.slots i) (same i) in
    record {
      each = λ key is. ap (λ (m : Mapped). m key) idle.in_memory ∙ are.each key (sym (step.mapped_off key (off key)) ∙ is);
      room = omega (arith, are.room, count, ap (λ (b : Backing). b.frames) step.passes.backing);
    }

-- nothing is done
pub rests : {touched : Keys} {asks outs : ℕ} (view : PagesView) → PagesStep touched asks outs view view
rests view = record {
  passes = passes_nothing view;
  unwritten = λ off none. reads_none (device_below view);
  idle = λ off are. idle_rests view;
  changed_off = λ key is. inl is;
  mapped_off = λ key off. refl;
  held_off = λ told key off. refl;
  notes_off = λ key off. refl;
}

-- one step after another
pub then : {touched : Keys} {asks asks_then outs outs_then : ℕ} {old mid new : PagesView} → PagesStep touched asks outs old mid → PagesStep touched asks_then outs_then mid new → PagesStep touched (asks + asks_then) (outs + outs_then) old new
then {old = old} {mid = mid} one two = record {
  passes = passes_then one.passes two.passes;
  unwritten = λ off none. reads_then (one.unwritten off none) (two.unwritten off (still_none old mid one.changed_off off none));
  idle = λ off are. let idle = one.idle off are in idle_then idle (two.idle off (still_in_memory one off are idle));
  changed_off = λ key is. ⊎_elim (one.changed_off key) (λ there. inr there) (two.changed_off key is);
  mapped_off = λ key off. two.mapped_off key off ∙ one.mapped_off key off;
  held_off = λ told key off. two.held_off (one.passes.leaves.told.0 told) key off ∙ one.held_off told key off;
  notes_off = λ key off. two.notes_off key off ∙ one.notes_off key off;
}

-- more pages may be touched, and more asked for and written
pub within : {touched more : Keys} {asks outs asks_now outs_now : ℕ} {old new : PagesView} → ((key : PageKey) → touched key → more key) → asks ≤ asks_now → outs ≤ outs_now → PagesStep touched asks outs old new → PagesStep more asks_now outs_now old new
within is few_asks few_outs step = record {
  passes = passes_within few_asks few_outs step.passes;
  unwritten = λ off none. step.unwritten (λ key there. off key (is key there)) none;
  idle = λ off are. step.idle (λ key there. off key (is key there)) are;
  changed_off = λ key there. ⊎_elim (λ before. inl before) (λ touched. inr (is key touched)) (step.changed_off key there);
  mapped_off = λ key off. step.mapped_off key (λ there. off (is key there));
  held_off = λ told key off. step.held_off told key (λ there. off (is key there));
  notes_off = λ key off. step.notes_off key (λ there. off (is key there));
}

pub among : {touched more : Keys} {asks outs : ℕ} {old new : PagesView} → ((key : PageKey) → touched key → more key) → PagesStep touched asks outs old new → PagesStep more asks outs old new
among {asks = asks} {outs = outs} is step = within is (omega arith) (omega arith) step

-- a step that touched nothing, among those that touch something
pub untouched : {more : Keys} {asks outs : ℕ} {old new : PagesView} → PagesStep no_page asks outs old new → PagesStep more asks outs old new
untouched step = among (λ key none. absurd none) step

-- a call after a step
pub then_call : {T : Type 0} {touched : Keys} {asks asks_then outs outs_then : ℕ} {old mid new : PagesView} {result : Result T PageFault} → PagesStep touched asks outs old mid → PagesCall touched asks_then outs_then mid new result → PagesCall touched (asks + asks_then) (outs + outs_then) old new result
then_call step call = record {
  step = then step call.step;
  failed = λ is. let rose = call.failed is in omega (arith, rose, step.passes.later);
  sound = λ place is told. call.sound place is (step.passes.leaves.told.0 told);
  memory = call.memory;
}

-- a step that is done
pub done : {T : Type 0} {touched : Keys} {asks outs : ℕ} {old new : PagesView} (value : T) → PagesStep touched asks outs old new → PagesCall touched asks outs old new (Ok value)
done value step = record { step = step; failed = λ is. absurd (cc); sound = λ place is. absurd (cc); memory = λ is. absurd (cc) }

-- the error of a call is passed on
pub fails : {T U : Type 0} {touched more : Keys} {asks outs asks_now outs_now : ℕ} {old new : PagesView} {fault : PageFault} (result : Result U PageFault) → IsErrAnd result (λ why. why ≡ fault) → ((key : PageKey) → touched key → more key) → asks ≤ asks_now → outs ≤ outs_now
    → PagesCall {T = T} touched asks outs old new (Err fault) → PagesCall more asks_now outs_now old new result
fails {U = U} {more = more} {asks_now = asks_now} {outs_now = outs_now} {old = old} {new = new} {fault = fault} result is wider few_asks few_outs call =
    let why = err_from_is_err_and result is in
    subst (λ (r : Result U PageFault). PagesCall more asks_now outs_now old new r) (sym (why.1 ∙ ap Err why.2)) (record {
      step = within wider few_asks few_outs call.step;
      failed = λ is. let same : fault ≡ DeviceFailed = cc in call.failed (ap Err same);
      sound = λ place is told. let same : fault ≡ Damaged place = cc in call.sound place (ap Err same) told;
      memory = λ is. let same : fault ≡ NoMemory = cc in call.memory (ap Err same);
    })

-- ---- what a call on one page leaves of it, and of the others

module _ (key : PageKey) (old new : PagesView) where
  pub written_here : {bytes : List ℕ} → WritesPage key bytes old new → IsTold old.disk → new.held key ≡ Some bytes
  written_here {bytes = bytes} does told = ap (λ (h : Held). h key) (does.held told) ∙ cond-true (is_same key key) (Some bytes) (old.held key) (is_same-itself key)

  pub mapped_off-with : (now : Bool) → new.mapped ≡ with_mapped old.mapped key now → (other : PageKey) → (other ≡ key → ⊥) → new.mapped other ≡ old.mapped other
  mapped_off-with now is other off = ap (λ (m : Mapped). m other) is ∙ cond-false (is_same other key) now (old.mapped other) (is_same-other other key off)

  pub held_off-with : (bytes : Option (List ℕ)) → new.held ≡ with_page old.held key bytes → (other : PageKey) → (other ≡ key → ⊥) → new.held other ≡ old.held other
  held_off-with bytes is other off = ap (λ (h : Held). h other) is ∙ cond-false (is_same other key) bytes (old.held other) (is_same-other other key off)

  pub notes_off-with : (note : Option ℕ) → new.notes ≡ with_note old.notes key note → (other : PageKey) → (other ≡ key → ⊥) → new.notes other ≡ old.notes other
  notes_off-with note is other off = ap (λ (n : Noted). n other) is ∙ cond-false (is_same other key) note (old.notes other) (is_same-other other key off)

-- one page was written, taken or given
pub wrote : {T : Type 0} {key : PageKey} {bytes : List ℕ} {asks outs : ℕ} {old new : PagesView} (value : T) → PassesOn asks outs old new → ((other : PageKey) → new.changed other ≡ true → (old.changed other ≡ true) ⊎ (other ≡ key)) → WritesPage key bytes old new → PagesCall (only key) asks outs old new (Ok value)
wrote {key = key} {bytes = bytes} {old = old} {new = new} value passes changed does = done value (record {
  passes = passes;
  unwritten = λ off none. absurd (off key refl);
  idle = λ off are. absurd (off key refl);
  changed_off = changed;
  mapped_off = λ other off. ap (λ (m : Mapped). m other) does.mapped;
  held_off = λ told. held_off-with key old new (Some bytes) (does.held told);
  notes_off = notes_off-with key old new None does.notes;
})

pub took : {T : Type 0} {key : PageKey} {asks outs : ℕ} {old new : PagesView} (value : T) → PassesOn asks outs old new → ((other : PageKey) → new.changed other ≡ true → (old.changed other ≡ true) ⊎ (other ≡ key)) → TakesPage key old new → PagesCall (only key) asks outs old new (Ok value)
took {key = key} {old = old} {new = new} value passes changed does = done value (record {
  passes = passes;
  unwritten = λ off none. absurd (off key refl);
  idle = λ off are. absurd (off key refl);
  changed_off = changed;
  mapped_off = mapped_off-with key old new true does.mapped;
  held_off = λ told. held_off-with key old new _ (does.held told);
  notes_off = notes_off-with key old new None does.notes;
})

pub gave : {T : Type 0} {key : PageKey} {asks outs : ℕ} {old new : PagesView} (value : T) → PassesOn asks outs old new → ((other : PageKey) → new.changed other ≡ true → (old.changed other ≡ true) ⊎ (other ≡ key)) → GivesPage key old new → PagesCall (only key) asks outs old new (Ok value)
gave {key = key} {old = old} {new = new} value passes changed does = done value (record {
  passes = passes;
  unwritten = λ off none. absurd (off key refl);
  idle = λ off are. absurd (off key refl);
  changed_off = changed;
  mapped_off = mapped_off-with key old new false does.mapped;
  held_off = λ told. held_off-with key old new _ (does.held told);
  notes_off = notes_off-with key old new None does.notes;
})

-- a number was noted on one page
pub noted : {key : PageKey} {number asks outs : ℕ} {old new : PagesView} → PassesOn asks outs old new → NotesPage key number old new → PagesStep (only key) asks outs old new
noted {key = key} {number = number} {old = old} {new = new} passes does = record {
  passes = passes;
  unwritten = λ off none. absurd (off key refl);
  idle = λ off are. absurd (off key refl);
  changed_off = λ other is. inl (sym (ap (λ (m : Mapped). m other) does.changed) ∙ is);
  mapped_off = λ other off. ap (λ (m : Mapped). m other) does.mapped;
  held_off = λ told other off. ap (λ (h : Held). h other) does.held;
  notes_off = notes_off-with key old new (Some number) does.notes;
}

-- no page was changed
pub kept_all : {touched : Keys} {asks outs : ℕ} {old new : PagesView} → PassesOn asks outs old new → new.changed ≡ old.changed → new.mapped ≡ old.mapped → (IsTold old.disk → new.held ≡ old.held) → new.notes ≡ old.notes → (NoneChanged old → OnlyReads (device_below old) (device_below new)) → (AreInMemory old → StaysIdle old new) → PagesStep touched asks outs old new
kept_all passes changed mapped held notes unwritten idle = record {
  passes = passes;
  unwritten = λ off none. unwritten none;
  idle = λ off are. idle are;
  changed_off = λ key is. inl (sym (ap (λ (m : Mapped). m key) changed) ∙ is);
  mapped_off = λ key off. ap (λ (m : Mapped). m key) mapped;
  held_off = λ told key off. ap (λ (h : Held). h key) (held told);
  notes_off = λ key off. ap (λ (n : Noted). n key) notes;
}

-- a fault below ends the call
pub fails_by : {T U : Type 0} {touched : Keys} {asks outs : ℕ} {old new : PagesView} {fault : PageFault} (result : Result U PageFault) → IsErrAnd result (λ why. why ≡ fault) → HasPageCause {T = T} old.disk old.faults new.faults (Err fault) → PagesStep touched asks outs old new → PagesCall touched asks outs old new result
fails_by {T = T} {U = U} {touched = touched} {asks = asks} {outs = outs} {old = old} {new = new} {fault = fault} result is cause step =
    fails {T = T} result is (λ key there. there) (omega arith) (omega arith) (record { step = step; failed = cause.failed; sound = cause.sound; memory = cause.memory })

-- more pages may be touched by a call, and more asked for and written
pub widens : {T : Type 0} {touched more : Keys} {asks outs asks_now outs_now : ℕ} {old new : PagesView} {result : Result T PageFault} → ((key : PageKey) → touched key → more key) → asks ≤ asks_now → outs ≤ outs_now → PagesCall touched asks outs old new result → PagesCall more asks_now outs_now old new result
widens is few_asks few_outs call = record { step = within is few_asks few_outs call.step; failed = call.failed; sound = call.sound; memory = call.memory }

-- where nothing was touched, all is as it was
pub all_mapped : {asks outs : ℕ} {old new : PagesView} → PagesStep no_page asks outs old new → new.mapped ≡ old.mapped
all_mapped step = λ i key. step.mapped_off key (λ none. none) i

pub all_held : {asks outs : ℕ} {old new : PagesView} → PagesStep no_page asks outs old new → IsTold old.disk → new.held ≡ old.held
all_held step told = λ i key. step.held_off told key (λ none. none) i

pub all_notes : {asks outs : ℕ} {old new : PagesView} → PagesStep no_page asks outs old new → new.notes ≡ old.notes
all_notes step = λ i key. step.notes_off key (λ none. none) i

pub none_changed_more : {asks outs : ℕ} {old new : PagesView} → PagesStep no_page asks outs old new → AreAmong new.changed old.changed
none_changed_more step = λ key is. ⊎_elim (λ there. there) (λ none. absurd none) (step.changed_off key is)

pub only_reads : {asks outs : ℕ} {old new : PagesView} → PagesStep no_page asks outs old new → NoneChanged old → OnlyReads (device_below old) (device_below new)
only_reads step none = step.unwritten (λ key none. none) none

pub cause_of : {T : Type 0} {touched : Keys} {asks outs : ℕ} {old new : PagesView} {result : Result T PageFault} → PagesCall touched asks outs old new result → HasPageCause old.disk old.faults new.faults result
cause_of call = record { later = call.step.passes.later; failed = call.failed; sound = call.sound; memory = call.memory }

-- a page of a segment and a space is one of theirs
pub is_in : {segment : ℕ} {space : Space} {number : ℕ} (one : PageKey) → one ≡ page_key segment space number → (key : PageKey) → key ≡ one → pages_in segment space key
is_in {segment = segment} {space = space} one there key is = let at = is ∙ there in at ∙ ap (page_key segment space) (sym (ap (λ (k : PageKey). k.number) at))

-- a call that touched nothing, among those that touch something
pub untouched_call : {T : Type 0} {more : Keys} {asks outs : ℕ} {old new : PagesView} {result : Result T PageFault} → PagesCall no_page asks outs old new result → PagesCall more asks outs old new result
untouched_call call = record { step = untouched call.step; failed = call.failed; sound = call.sound; memory = call.memory }
