-- The ways in which a call on an engine ends.
use Rattle.std.proofs.Common.{◌≡◌, inl, ℕ, ◌≤◌, ◌+◌, Option, Some, None, refl, sym, ◌∙◌, ap, subst, arith}
use Rattle.std.specs.Prelude.{true, Result, Ok, Err, IsErrAnd, IsErrOf, IfSome}
use Rattle.std.proofs.lemmas.Bool.{true≢false}
use Rattle.std.proofs.lemmas.Result.{err_from_is_err_and}
use Rattle.rss_base.specs.DiskRule.{IsTold, Passes, WritesIn}
use Rattle.rss_base.specs.Answers.{page_error}
use Rattle.rss_base.specs.Devices.{DrivesOut}
use Rattle.rss_base.specs.Faults.{Rises}
use Rattle.rss_base.specs.declared.call.Call.{Call}
use Rattle.rss_base.specs.declared.call.Call.TheVariants.{Insert, End}
use Rattle.rss_base.specs.declared.answer.Reply.{Reply}
use Rattle.rss_base.specs.declared.answer.Reply.TheVariants.{Ok as Done}
use Rattle.rss_base.specs.declared.answer.CallError.{CallError}
use Rattle.rss_base.specs.declared.answer.CallError.TheVariants.{Down}
use Rattle.rss_base.specs.declared.fault.PageFault.{PageFault}
use Rattle.rss_base.specs.declared.place.Place.{Place}
use Rattle.rss_base.specs.declared.fault.PageFault.TheVariants.{Device as PageDevice, Damaged as PageDamaged, NoMemory as PageNoMemory}
use Rattle.rss_base.specs.declared.refusal.Refusal.{Refusal}
use Rattle.rss_base.proofs.Moments.{widened, writes_none}
use Rattle.rss_stored.specs.Turns.{IsStopped}
use Rattle.rss_model.specs.Callers.{caller}
use Rattle.rss_model.specs.Machine.{State}
use Rattle.rss_model.specs.Tables.{Tables}
use Rattle.rss_model.specs.Defining.{defined, DefinesNames}
use Rattle.rss_model.specs.Steps.{refusal, left_by, redefined}
use Rattle.rss_model.specs.Steps.StepBy.{refuses, defines}
use Rattle.rss_stored.specs.Store.{OpensTo, OpensToEither}
use Rattle.rss_model.specs.ReplyText.{IsShort}
use Rattle.rss_model.specs.Costs.{RisesAtMost, most_writes, may_lack_memory}
use Rattle.rss_stored.specs.Calls.{EngineView, driven_of, WritesFree, MayWrite, GoesOn, GetsPlace, IsAnswer, IsOutcome, IsCallOf}

-- a count that rises by so many at most, rises by no more than it may
pub within_most : (most : Option ℕ) (n before now : ℕ) → IfSome most (λ m. n ≤ m) → now ≤ before + n → RisesAtMost most before now
within_most None n before now few rises = tt
within_most (Some m) n before now few rises = omega (arith, few, rises)

pub none_within : (most : Option ℕ) → IfSome most (λ m. 0 ≤ m)
none_within None = tt
none_within (Some m) = omega arith

-- where nothing is written no call writes more than it may
pub writes_no_more : (old new : EngineView) (call : Call) → new.disk ≡ old.disk → new.writes ≡ old.writes → DrivesOut (driven_of old) (driven_of new) → MayWrite old new call
writes_no_more old new (End t) disk writes drives = (subst (WritesIn old.end_places old.disk) (sym disk) (writes_none old.disk), omega (arith, writes))
writes_no_more old new call disk writes drives = record {
  most = within_most (most_writes call) 0 old.writes new.writes (none_within (most_writes call)) (omega (arith, writes));
  drives = λ none. drives;
}

-- a call that is no end writes no more than its bound
pub writes_bound : (old new : EngineView) (call : Call) → ((t : ℕ) → call ≡ End t → ⊥) → WritesFree old new call → MayWrite old new call
writes_bound old new (End t) other writes = absurd (other t refl)
writes_bound old new call other writes = writes

-- a call that may lack memory is no end, nor is one of no transaction
pub lacks_no_end : (call : Call) → may_lack_memory call ≡ true → (t : ℕ) → call ≡ End t → ⊥
lacks_no_end call may t is = true≢false (sym may ∙ ap may_lack_memory is)

pub none_no_end : (call : Call) → caller call ≡ None → (t : ℕ) → call ≡ End t → ⊥
none_no_end call none t is = let same = sym none ∙ ap caller is in cc (same)

-- ---- refusals

-- no tuple is placed by it
pub refused_places : (view : EngineView) (state : State) (call : Call) (why : Refusal) → GetsPlace view state call (Err why)
refused_places view state (Insert t relation values) why = tt
refused_places view state call why = tt

-- By a refusal, which leaves the engine as it was but for its pages in memory.
pub refused_by : {old new : EngineView} {call : Call} {why : Refusal} → new.is_up → IsShort (Err why)
    → (IsTold old.disk → (state : State) → old.shows state → (refusal state call ≡ Some why) × new.shows (left_by state call why) × Passes old.disk new.disk (λ pages. OpensTo pages state.size state.base)) → IsAnswer old new call (Err why)
refused_by {old = old} {call = call} {why = why} up short stays = record {
  answered = λ told state shown.
      let so = stays told state shown in
      record { next = left_by state call why; shows = so.1; answered = record { step = refuses call why so.0; moments = widened so.2 (λ image opens. inl opens) } };
  placed = λ told state shown. refused_places old state call why;
  up = up;
  short = short;
}

-- ---- definitions

-- A definition was made over a state of the machine, which was at rest: it was not refused, and it is committed.
pub record IsDefined (old new : EngineView) (state : State) (call : Call) : Type 0 where
  pub next : Tables
  pub passed : refusal state call ≡ None
  pub so : defined call state.base ≡ Some next
  pub shows : new.shows (redefined next state)
  pub moments : Passes old.disk new.disk (OpensToEither state.size state.base next)

-- no tuple is placed where nothing is given
pub done_places : (view : EngineView) (state : State) (call : Call) → GetsPlace view state call (Ok Done)
done_places view state (Insert t relation values) = tt
done_places view state call = tt

-- By a definition.
pub defined_by : {old new : EngineView} {call : Call} → DefinesNames call → new.is_up → (IsTold old.disk → (state : State) → old.shows state → IsDefined old new state call) → IsAnswer old new call (Ok Done)
defined_by {old = old} {call = call} names up made = record {
  answered = λ told state shown.
      let so = made told state shown in
      record { next = redefined so.next state; shows = so.shows; answered = record { step = defines call so.next so.passed names so.so; moments = so.moments } };
  placed = λ told state shown. done_places old state call;
  up = up;
  short = omega arith;
}

-- ---- calls

-- an engine that was up, with what came of the call
pub comes_to : {old new : EngineView} {call : Call} {result : Result Reply CallError} → old.is_up → GoesOn old new call → IsOutcome old new call result → IsCallOf old new call result
comes_to is_up goes outcome = record { goes = goes; outcome = λ was. outcome; down = λ not. absurd (not is_up) }

-- What is known of a fault of pages, by which a call ended: it is none of memory; no state shows damage; and a failed device has its count risen, within a step that was on its way.
pub record FaultsIn (old new : EngineView) (call : Call) (fault : PageFault) : Type 0 where
  pub memory : fault ≡ PageNoMemory → ⊥
  pub sound : (place : Place) → fault ≡ PageDamaged place → IsTold old.disk → (state : State) → old.shows state → ⊥
  pub cause : fault ≡ PageDevice → Rises old.faults new.faults
  pub stopped : fault ≡ PageDevice → IsTold old.disk → (state : State) → old.shows state → IsStopped old.disk new.disk state call

-- By an error of its pages, each of which leaves the engine down.
pub failed : {old new : EngineView} {call : Call} {fault : PageFault} (result : Result Reply CallError) → IsErrAnd result (λ why. why ≡ page_error fault) → old.is_up → GoesOn old new call → (new.is_up → ⊥) → FaultsIn old new call fault → IsCallOf old new call result
failed {old = old} {new = new} {call = call} {fault = fault} result is is_up goes down faults =
    let why = err_from_is_err_and result is in
    subst (IsCallOf old new call) (sym (why.1 ∙ ap Err why.2)) (comes_to is_up goes (by_fault fault faults))
  where
    by_fault : (fault : PageFault) → FaultsIn old new call fault → IsOutcome old new call (Err (page_error fault))
    by_fault PageDevice faults = record { stopped = faults.stopped refl; down = down; cause = faults.cause refl }
    by_fault (PageDamaged place) faults = record { sound = faults.sound place refl; down = down }
    by_fault PageNoMemory faults = absurd (faults.memory refl)

-- an engine that is up isn't found down
pub never_down : {old new : EngineView} {call : Call} {result : Result Reply CallError} → IsCallOf old new call result → old.is_up → IsErrOf result Down → ⊥
never_down {old = old} {new = new} {call = call} made up is = subst (IsOutcome old new call) is (made.outcome up)
