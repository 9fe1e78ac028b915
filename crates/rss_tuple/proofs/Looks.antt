-- How looks at pages follow one another, and how calls that look end.
use Rattle.std.proofs.Common.{◌≡◌, ◌+◌, ℕ, ◌≤◌, sym, ◌∙◌, ap, subst, arith}
use Rattle.std.specs.Prelude.{Result, Ok, Err, IsErrAnd}
use Rattle.std.proofs.lemmas.Result.{err_from_is_err_and}
use Rattle.rss_base.specs.DiskRule.{IsTold}
use Rattle.rss_base.specs.Paged.{Mapped}
use Rattle.rss_base.specs.Steps.{PagesView, Keys, only, NotesPage, StaysIdle, PagesStep}
use Rattle.rss_base.specs.declared.place.Place.{Place}
use Rattle.rss_base.specs.declared.place.Place.TheVariants.{Room, Page as PagePlace}
use Rattle.rss_base.specs.declared.fault.PageFault.{PageFault}
use Rattle.rss_base.specs.declared.fault.PageFault.TheVariants.{Device as DeviceFailed, Damaged}
use Rattle.rss_base.specs.declared.key.PageKey.{PageKey}
use Rattle.rss_base.proofs.Looking.{looks_then, looks_within}
use Rattle.rss_base.proofs.Moments.{same_reads}
use Rattle.rss_base.specs.Looking.{LooksStep}
use Rattle.rss_tuple.specs.Looks.{LooksCall}

-- ---- looks

-- a page was noted
pub noted_one : {key : PageKey} {number : ℕ} {old new : PagesView} → NotesPage key number old new → StaysIdle old new → PagesStep (only key) 0 0 old new → LooksStep (only key) 0 old new
noted_one notes idle step = record {
  step = step;
  mapped = notes.mapped;
  held = λ told. notes.held;
  changed = λ key is. sym (ap (λ (m : Mapped). m key) notes.changed) ∙ is;
  unwritten = λ none. same_reads idle.device;
}

-- ---- calls

pub looks_done : {T : Type 0} {names : Place → Type 0} {noted : Keys} {asks : ℕ} {old new : PagesView} (value : T) → LooksStep noted asks old new → LooksCall names noted asks old new (Ok value)
looks_done value looks = record { looks = looks; failed = λ is. absurd (cc); flawed = λ place is told. absurd (cc); elsewhere = λ is. absurd (cc) }

-- a page is damaged
pub looks_damaged : {T : Type 0} {names : Place → Type 0} {noted : Keys} {asks : ℕ} {old new : PagesView} (fault : PageFault) (key : PageKey) → fault ≡ Damaged (PagePlace key) → LooksStep noted asks old new → (IsTold old.disk → names (PagePlace key)) → LooksCall {T = T} names noted asks old new (Err fault)
looks_damaged {names = names} fault key is looks named = record {
  looks = looks;
  failed = λ failed. let same : Damaged (PagePlace key) ≡ DeviceFailed = cc in absurd (cc);
  flawed = λ place at told. let same : PagePlace key ≡ place = let both : Damaged (PagePlace key) ≡ Damaged place = cc in cc in subst names same (named told);
  elsewhere = λ room. let same : Damaged (PagePlace key) ≡ Damaged Room = cc in let both : PagePlace key ≡ Room = cc in absurd (cc);
}

-- a last call after looks
pub looks_call : {T : Type 0} {names names_then : Place → Type 0} {noted : Keys} {asks asks_then : ℕ} {old mid new : PagesView} {result : Result T PageFault} → LooksStep noted asks old mid → (IsTold old.disk → (place : Place) → names_then place → names place) → LooksCall names_then noted asks_then mid new result → LooksCall names noted (asks + asks_then) old new result
looks_call looks is call = record {
  looks = looks_then looks call.looks;
  failed = λ failed. let rose = call.failed failed in omega (arith, rose, looks.step.passes.later);
  flawed = λ place flawed told. is told place (call.flawed place flawed (looks.step.passes.leaves.told.0 told));
  elsewhere = call.elsewhere;
}

-- more pages may be noted, and more asked for
pub looks_wider : {T : Type 0} {names names_then : Place → Type 0} {noted more : Keys} {asks asks_now : ℕ} {old new : PagesView} {result : Result T PageFault} → ((key : PageKey) → noted key → more key) → asks ≤ asks_now → (IsTold old.disk → (place : Place) → names_then place → names place) → LooksCall names_then noted asks old new result → LooksCall names more asks_now old new result
looks_wider wider few is call = record {
  looks = looks_within wider few call.looks;
  failed = call.failed;
  flawed = λ place flawed told. is told place (call.flawed place flawed told);
  elsewhere = call.elsewhere;
}

-- the error of a call is passed on
pub looks_fails : {T U : Type 0} {names : Place → Type 0} {noted : Keys} {asks : ℕ} {old new : PagesView} {fault : PageFault} (result : Result U PageFault) → IsErrAnd result (λ why. why ≡ fault) → LooksCall {T = T} names noted asks old new (Err fault) → LooksCall names noted asks old new result
looks_fails {U = U} {names = names} {noted = noted} {asks = asks} {old = old} {new = new} {fault = fault} result is call =
    let why = err_from_is_err_and result is in
    subst (λ (r : Result U PageFault). LooksCall names noted asks old new r) (sym (why.1 ∙ ap Err why.2)) (record {
      looks = call.looks;
      failed = λ is. let same : fault ≡ DeviceFailed = cc in call.failed (ap Err same);
      flawed = λ place is. let same : fault ≡ Damaged place = cc in call.flawed place (ap Err same);
      elsewhere = λ is. let same : fault ≡ Damaged Room = cc in call.elsewhere (ap Err same);
    })
