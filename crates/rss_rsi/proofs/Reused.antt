-- Calls that fill a tuple of the caller's end as those that give one.
use Rattle.std.proofs.Common.{◌≡◌, ◌∙◌, List, refl, sym, ap, subst, arith}
use Rattle.std.specs.Prelude.{Option, Result, Err, IsErrAnd}
use Rattle.std.proofs.lemmas.Result.{err_from_is_err_and}
use Rattle.rss_base.specs.declared.answer.CallError.{CallError}
use Rattle.rss_base.specs.declared.answer.CallError.TheVariants.{Down}
use Rattle.rss_base.specs.declared.call.Call.{Call}
use Rattle.rss_base.specs.declared.tid.Tid.{Tid}
use Rattle.rss_base.specs.declared.value.Value.{Value}
use Rattle.rss_base.proofs.Moments.{started, drives_nothing}
use Rattle.rss_stored.specs.Calls.{EngineView, GoesOn, IsCallOf, driven_of}
use Rattle.rss_stored.proofs.Endings.{within_most, none_within, writes_no_more}
use Rattle.rss_model.specs.Costs.{most_asks}
use Rattle.rss_rsi.specs.Replies.{as_tuple, as_row}

-- ---- by the error that is passed on

pub tuple_ends : {old new : EngineView} {call : Call} {why : CallError} (result : Result (Unit {0}) CallError) (values : List Value) → IsErrAnd result (λ e. e ≡ why) → IsCallOf old new call (Err why) → IsCallOf old new call (as_tuple result values)
tuple_ends {old = old} {new = new} {call = call} result values is ends =
    let so = err_from_is_err_and result is in
    subst (λ (r : Result (Unit {0}) CallError). IsCallOf old new call (as_tuple r values)) (sym (so.1 ∙ ap Err so.2)) ends

pub row_ends : {old new : EngineView} {call : Call} {why : CallError} (result : Result (Option Tid) CallError) (values : List Value) → IsErrAnd result (λ e. e ≡ why) → IsCallOf old new call (Err why) → IsCallOf old new call (as_row result values)
row_ends {old = old} {new = new} {call = call} result values is ends =
    let so = err_from_is_err_and result is in
    subst (λ (r : Result (Option Tid) CallError). IsCallOf old new call (as_row r values)) (sym (so.1 ∙ ap Err so.2)) ends

-- ---- an engine that is down

goes_still : (view : EngineView) (call : Call) → (view.is_up → ⊥) → GoesOn view view call
goes_still view call down = record {
  asks = within_most (most_asks call) 0 view.asks view.asks (none_within (most_asks call)) (omega arith);
  writes = writes_no_more view view call refl refl (drives_nothing (driven_of view));
  saves = λ never. refl;
  calls = omega arith;
  counted = λ up. absurd (down up);
  slots = refl;
  told = λ told. told;
  history = λ told. started view.disk _;
  later = omega arith;
}

-- it answers so, and nothing changes
pub stays_down : {A : Type 0} (view : A → EngineView) {old new : A} {call : Call} {why : CallError} → why ≡ Down → new ≡ old → ((view old).is_up → ⊥) → IsCallOf (view old) (view new) call (Err why)
stays_down view {old = old} {call = call} {why = why} so same down =
    subst (λ (e : EngineView). IsCallOf (view old) e call (Err why)) (sym (ap view same))
    (record { goes = goes_still (view old) call down; outcome = λ up. absurd (down up); down = λ not. ap Err so })
