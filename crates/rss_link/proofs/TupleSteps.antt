-- How calls on tuples follow one another.
use Rattle.std.proofs.Common.{◌≡◌, ◌⊎◌, inl, inr, ℕ, ◌+◌, ◌≤◌, true, refl, sym, ◌∙◌, ap, subst, arith}
use Rattle.std.specs.Prelude.{Result, Ok, Err, OnOk, IfErr, IsErrAnd}
use Rattle.std.proofs.lemmas.Result.{err_from_is_err_and, on_ok_weaker}
use Rattle.rss_base.specs.DiskRule.{IsTold}
use Rattle.rss_base.specs.Paged.{Mapped}
use Rattle.rss_base.specs.Steps.{PagesView, Keys, no_page, PagesStep}
use Rattle.rss_base.specs.declared.place.Place.{Place}
use Rattle.rss_base.specs.declared.fault.PageFault.{PageFault}
use Rattle.rss_base.specs.declared.fault.PageFault.TheVariants.{Device as DeviceFailed, Damaged, NoMemory}
use Rattle.rss_base.specs.declared.key.PageKey.{PageKey}
use Rattle.rss_base.specs.declared.tid.Tid.{Tid}
use Rattle.rss_base.proofs.Steps as pages
use Rattle.rss_tuple.specs.Heaps.{AreHeaps}
use Rattle.rss_tuple.specs.Placing.{TakesOnly}
use Rattle.rss_tuple.specs.TupleSteps.{TuplesView, Tuples, TuplesCall, no_tuple}
use Rattle.rss_tuple.proofs.Seen.{found_damaged}
use Rattle.rss_link.specs.Calls.{IsFaultAt}

-- what was done by a call that succeeded
pub record TuplesStep (touched : Keys) (tuples : Tuples) (cost : ℕ) (old new : TuplesView) : Type 0 where
  pub below : PagesStep touched cost cost old.pages new.pages
  pub heaps : IsTold old.pages.disk → AreHeaps new.pages
  pub others : IsTold old.pages.disk → (segment : ℕ) (tid : Tid) → (tuples segment tid → ⊥) → new.bodies segment tid ≡ old.bodies segment tid

pub told_then : {touched : Keys} {tuples : Tuples} {cost : ℕ} {old new : TuplesView} → TuplesStep touched tuples cost old new → IsTold old.pages.disk → IsTold new.pages.disk
told_then step told = step.below.passes.leaves.told.0 told

pub told_before : {touched : Keys} {tuples : Tuples} {cost : ℕ} {old new : TuplesView} → TuplesStep touched tuples cost old new → IsTold new.pages.disk → IsTold old.pages.disk
told_before step told = step.below.passes.leaves.told.1 told

pub heaps_then : {touched : Keys} {tuples : Tuples} {cost : ℕ} {old new : TuplesView} → TuplesStep touched tuples cost old new → IsTold new.pages.disk → AreHeaps new.pages
heaps_then step told = step.heaps (told_before step told)

pub stepped : {T : Type 0} {touched : Keys} {tuples : Tuples} {cost : ℕ} {old new : TuplesView} {value : T} → TuplesCall touched tuples cost old new (Ok value) → TuplesStep touched tuples cost old new
stepped call = record { below = call.below.step; heaps = call.heaps; others = call.others }

pub then : {touched : Keys} {tuples : Tuples} {cost cost_then : ℕ} {old mid new : TuplesView} → TuplesStep touched tuples cost old mid → TuplesStep touched tuples cost_then mid new → TuplesStep touched tuples (cost + cost_then) old new
then one two = record {
  below = pages.then one.below two.below;
  heaps = λ told. two.heaps (told_then one told);
  others = λ told segment tid off. two.others (told_then one told) segment tid off ∙ one.others told segment tid off;
}

-- more pages and tuples may be touched, and more asked for and written
pub within : {touched more : Keys} {tuples more_tuples : Tuples} {cost cost_now : ℕ} {old new : TuplesView} → ((key : PageKey) → touched key → more key) → ((segment : ℕ) (tid : Tid) → tuples segment tid → more_tuples segment tid) → cost ≤ cost_now
    → TuplesStep touched tuples cost old new → TuplesStep more more_tuples cost_now old new
within keys those few step = record {
  below = pages.within keys few few step.below;
  heaps = step.heaps;
  others = λ told segment tid off. step.others told segment tid (λ there. off (those segment tid there));
}

pub untouched : {more : Keys} {more_tuples : Tuples} {cost : ℕ} {old new : TuplesView} → TuplesStep no_page no_tuple cost old new → TuplesStep more more_tuples cost old new
untouched {cost = cost} step = within (λ key none. absurd none) (λ segment tid none. absurd none) (omega arith) step

-- a call after a step
pub then_call : {T : Type 0} {touched : Keys} {tuples : Tuples} {cost cost_then : ℕ} {old mid new : TuplesView} (result : Result T PageFault) → TuplesStep touched tuples cost old mid → TuplesCall touched tuples cost_then mid new result → TuplesCall touched tuples (cost + cost_then) old new result
then_call result step call = record {
  below = pages.then_call step.below call.below;
  heaps = on_ok_weaker result (λ heaps told. heaps (told_then step told)) call.heaps;
  others = on_ok_weaker result (λ others told segment tid off. others (told_then step told) segment tid off ∙ step.others told segment tid off) call.others;
}

pub widens : {T : Type 0} {touched more : Keys} {tuples more_tuples : Tuples} {cost cost_now : ℕ} {old new : TuplesView} (result : Result T PageFault) → ((key : PageKey) → touched key → more key) → ((segment : ℕ) (tid : Tid) → tuples segment tid → more_tuples segment tid) → cost ≤ cost_now
    → TuplesCall touched tuples cost old new result → TuplesCall more more_tuples cost_now old new result
widens result keys those few call = record {
  below = pages.widens keys few few call.below;
  heaps = call.heaps;
  others = on_ok_weaker result (λ others told segment tid off. others told segment tid (λ there. off (those segment tid there))) call.others;
}

pub done : {T : Type 0} {touched : Keys} {tuples : Tuples} {cost : ℕ} {old new : TuplesView} (value : T) → TuplesStep touched tuples cost old new → TuplesCall touched tuples cost old new (Ok value)
done value step = record { below = pages.done value step.below; heaps = step.heaps; others = step.others }

-- the error of a call is passed on
pub fails : {T U : Type 0} {touched more : Keys} {tuples more_tuples : Tuples} {cost cost_now : ℕ} {old new : TuplesView} {fault : PageFault} (result : Result U PageFault) → IsErrAnd result (λ why. why ≡ fault) → ((key : PageKey) → touched key → more key) → cost ≤ cost_now
    → TuplesCall {T = T} touched tuples cost old new (Err fault) → TuplesCall more more_tuples cost_now old new result
fails {T = T} {U = U} {more_tuples = more_tuples} {old = old} {new = new} {fault = fault} result is keys few call =
    let why = err_from_is_err_and result is in
    let same : Err fault ≡ result = sym (why.1 ∙ ap Err why.2) in
    record {
      below = pages.fails {T = T} result is keys few few call.below;
      heaps = subst (λ (r : Result U PageFault). OnOk r (IsTold old.pages.disk → AreHeaps new.pages)) same tt;
      others = subst (λ (r : Result U PageFault). OnOk r (IsTold old.pages.disk → (segment : ℕ) (tid : Tid) → (more_tuples segment tid → ⊥) → new.bodies segment tid ≡ old.bodies segment tid)) same tt;
    }

-- something isn't what it should be
pub is_damaged : {T : Type 0} {touched : Keys} {tuples : Tuples} {cost : ℕ} {old new : TuplesView} {place : Place} (fault : PageFault) → fault ≡ Damaged place → TuplesStep touched tuples cost old new → (IsTold old.pages.disk → ⊥) → TuplesCall {T = T} touched tuples cost old new (Err fault)
is_damaged fault is step never = record { below = found_damaged fault is step.below never; heaps = tt; others = tt }

-- ---- damage of whatever kind, as that of a tuple

err_one : {T : Type 0} (r : Result T PageFault) (a b : PageFault) → r ≡ Err a → r ≡ Err b → a ≡ b
err_one r a b one two = cc

never_memory : (segment : ℕ) (tid : Tid) (fault : PageFault) → IsFaultAt segment tid fault → fault ≡ NoMemory → ⊥
never_memory segment tid fault (inl failed) is = absurd (cc)
never_memory segment tid fault (inr damaged) is = absurd (cc)

-- a call failed, and so does its caller, at a tuple
pub fails_at : {T U : Type 0} {touched : Keys} {tuples : Tuples} {cost : ℕ} {old new : TuplesView} (fault now : PageFault) (segment : ℕ) (tid : Tid) → IsFaultAt segment tid now
    → (now ≡ DeviceFailed → fault ≡ DeviceFailed) → ((place : Place) → now ≡ Damaged place → (found : Place) × (fault ≡ Damaged found))
    → TuplesCall {T = T} touched tuples cost old new (Err fault) → TuplesCall {T = U} touched tuples cost old new (Err now)
fails_at {T = T} {U = U} fault now segment tid at failed damaged call = record {
  below = record {
    step = call.below.step;
    failed = λ is. call.below.failed (ap Err (failed (err_one {T = U} (Err now) now DeviceFailed refl is)));
    sound = λ place is told. let found = damaged place (err_one {T = U} (Err now) now (Damaged place) refl is) in call.below.sound found.0 (ap Err found.1) told;
    memory = λ is. never_memory segment tid now at (err_one {T = U} (Err now) now NoMemory refl is);
  };
  heaps = tt;
  others = tt;
}

-- the error that a caller passes on
pub fault_is : {T : Type 0} (P : PageFault → Type 0) {fault : PageFault} (result : Result T PageFault) → IsErrAnd result (λ why. why ≡ fault) → P fault → IfErr result P
fault_is P result is holds =
    let why = err_from_is_err_and result is in
    subst (λ (r : Result _ PageFault). IfErr r P) (sym why.1) (subst P (sym why.2) holds)

-- ---- where nothing was touched

pub same_bodies : {cost : ℕ} {old new : TuplesView} → TuplesStep no_page no_tuple cost old new → IsTold old.pages.disk → new.bodies ≡ old.bodies
same_bodies step told = λ i segment tid. step.others told segment tid (λ none. none) i

pub same_slots : {touched : Keys} {tuples : Tuples} {cost : ℕ} {old new : TuplesView} → TuplesStep touched tuples cost old new → new.pages.slots ≡ old.pages.slots
same_slots step = step.below.passes.slots

-- ---- pages that are taken

pub takes_after : {cost : ℕ} {old mid : TuplesView} (new : PagesView) → TuplesStep no_page no_tuple cost old mid → TakesOnly no_page mid.pages new → TakesOnly no_page old.pages new
takes_after new step takes = record { each = λ key is. subst (λ (m : Mapped). (m key ≡ true) ⊎ no_page key) (pages.all_mapped step.below) (takes.each key is) }

pub takes_then : (old mid new : PagesView) → TakesOnly no_page old mid → TakesOnly no_page mid new → TakesOnly no_page old new
takes_then old mid new one two = record { each = λ key is. elim (two.each key is) [ inl there ↦ one.each key there | inr none ↦ absurd none ] }
