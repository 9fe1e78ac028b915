-- How looks at pages follow one another.
use Rattle.std.proofs.Common.{◌≡◌, inl, inr, ◌+◌, ℕ, ◌≤◌, refl, sym, ◌∙◌, ap, arith}
use Rattle.std.specs.Prelude.{Result, Err, IsErrAnd}
use Rattle.std.proofs.lemmas.Bool.{cases_Bool}
use Rattle.std.proofs.lemmas.Result.{err_from_is_err_and}
use Rattle.rss_base.specs.Paged.{AreAmong}
use Rattle.rss_base.specs.Steps.{PagesView, Keys, no_page, PagesStep, PagesCall, NoneChanged, device_below}
use Rattle.rss_base.specs.Looking.{LooksStep, ChecksPages}
use Rattle.rss_base.specs.declared.fault.PageFault.{PageFault}
use Rattle.rss_base.specs.declared.fault.PageFault.TheVariants.{Device as DeviceFailed}
use Rattle.rss_base.specs.declared.key.PageKey.{PageKey}
use Rattle.rss_base.proofs.Moments.{reads_none, reads_then}
use Rattle.rss_base.proofs.Steps.{rests, then, within, all_mapped, all_held, none_changed_more, only_reads}

-- ---- steps

pub still_none : (old new : PagesView) → AreAmong new.changed old.changed → NoneChanged old → NoneChanged new
still_none old new among none key = elim (cases_Bool (new.changed key)) [
  | inl is ↦ let was = among key is in let not = none key in cc
  | inr not ↦ not
]

-- nothing is done
pub looks_none : {noted : Keys} {asks : ℕ} (view : PagesView) → LooksStep noted asks view view
looks_none view = record {
  step = rests view;
  mapped = refl;
  held = λ told. refl;
  changed = λ key is. is;
  unwritten = λ none. reads_none (device_below view);
}

pub looks_then : {noted : Keys} {asks asks_then : ℕ} {old mid new : PagesView} → LooksStep noted asks old mid → LooksStep noted asks_then mid new → LooksStep noted (asks + asks_then) old new
looks_then {old = old} {mid = mid} one two = record {
  step = then one.step two.step;
  mapped = two.mapped ∙ one.mapped;
  held = λ told. two.held (one.step.passes.leaves.told.0 told) ∙ one.held told;
  changed = λ key is. one.changed key (two.changed key is);
  unwritten = λ none. reads_then (one.unwritten none) (two.unwritten (still_none old mid one.changed none));
}

-- more pages may be noted, and more asked for
pub looks_within : {noted more : Keys} {asks asks_now : ℕ} {old new : PagesView} → ((key : PageKey) → noted key → more key) → asks ≤ asks_now → LooksStep noted asks old new → LooksStep more asks_now old new
looks_within is few looks = record {
  step = within is few few looks.step;
  mapped = looks.mapped;
  held = looks.held;
  changed = looks.changed;
  unwritten = looks.unwritten;
}

pub looks_more : {more : Keys} {asks : ℕ} {old new : PagesView} → LooksStep no_page asks old new → LooksStep more asks old new
looks_more {asks = asks} looks = looks_within (λ key none. absurd none) (omega arith) looks

-- a page was brought into memory
pub brought : {old new : PagesView} → PagesStep no_page 1 1 old new → LooksStep no_page 1 old new
brought step = record { step = step; mapped = all_mapped step; held = λ told. all_held step told; changed = none_changed_more step; unwritten = only_reads step }

-- ---- looks by their results

-- nothing is done
pub checks_none : {T : Type 0} {noted : Keys} {asks : ℕ} (view : PagesView) (result : Result T PageFault) → (result ≡ Err DeviceFailed → ⊥) → ChecksPages noted asks view view result
checks_none view result sound = record { looks = looks_none view; failed = λ is. absurd (sound is) }

-- a page was brought into memory
pub checks_load : {T U : Type 0} {noted : Keys} {old new : PagesView} {first : Result T PageFault} (result : Result U PageFault) → PagesCall no_page 1 1 old new first → (result ≡ Err DeviceFailed → first ≡ Err DeviceFailed) → ChecksPages noted 1 old new result
checks_load result call is = record { looks = looks_more (brought call.step); failed = λ failed. call.failed (is failed) }

pub checks_then : {T U : Type 0} {noted : Keys} {asks asks_then : ℕ} {old mid new : PagesView} {first : Result T PageFault} {second : Result U PageFault} → ChecksPages noted asks old mid first → ChecksPages noted asks_then mid new second → ChecksPages noted (asks + asks_then) old new second
checks_then one two = record {
  looks = looks_then one.looks two.looks;
  failed = λ is. let rose = two.failed is in omega (arith, rose, one.looks.step.passes.later);
}

-- more pages may be noted, and more asked for
pub checks_within : {T : Type 0} {noted more : Keys} {asks asks_now : ℕ} {old new : PagesView} {result : Result T PageFault} → ((key : PageKey) → noted key → more key) → asks ≤ asks_now → ChecksPages noted asks old new result → ChecksPages more asks_now old new result
checks_within is few did = record { looks = looks_within is few did.looks; failed = did.failed }

-- another result, which is no fault of the device unless the first is
pub checks_as : {T U : Type 0} {noted : Keys} {asks : ℕ} {old new : PagesView} {first : Result T PageFault} (second : Result U PageFault) → (second ≡ Err DeviceFailed → first ≡ Err DeviceFailed) → ChecksPages noted asks old new first → ChecksPages noted asks old new second
checks_as second is did = record { looks = did.looks; failed = λ failed. did.failed (is failed) }

-- the error of a call is passed on
pub passed_on : {T U : Type 0} {fault why : PageFault} (result : Result U PageFault) → IsErrAnd result (λ e. e ≡ fault) → result ≡ Err why → ◌≡◌ {A = Result T PageFault} (Err fault) (Err why)
passed_on {fault = fault} {why = why} result is error =
    let from = err_from_is_err_and result is in
    let same : fault ≡ why = let e = sym (from.1 ∙ ap Err from.2) ∙ error in cc in
    ap Err same
