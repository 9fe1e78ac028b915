use Rattle.std.proofs.Common.{inl, inr, ◌+◌, refl, sym, ◌∙◌, arith}
use Rattle.std.proofs.lemmas.Bool.{cases_lt}
use Rattle.rss_base.proofs.Steps.{rests, then, then_call, done, within}
use Rattle.rss_model.proofs.LogLists.{by_same, false_true, none_some}
use Rattle.rss_draft.proofs.LoneNow.{none_zero, not_lone, lone_of}
use Rattle.rss_draft.proofs.Looping.{over_then, alter_then}
use Rattle.rss_draft.proofs.Searched.{searches_call, search_fails}
use Rattle.rss_draft.proofs.lone.is_lone_now.Goals as goal

pub loop-place-init : goal.loop-place-init
loop-place-init g c = record { step = rests _; none = λ saved tables over k low i. none_zero k low i }

pub is_in_other-requires-clause-may : goal.is_in_other-requires-clause-may
is_in_other-requires-clause-may g c = alter_then c.loop-place.invariant.step c.requires.may

pub returns-in_err-found-clause-did : goal.returns-in_err-found-clause-did
returns-in_err-found-clause-did g c = search_fails _ c.from_residual.ensures.1 (searches_call (then_call c.loop-place.invariant.step c.in_err-found.ensures.did))

pub returns-then-found-clause-is : goal.returns-then-found-clause-is
returns-then-found-clause-is g c = λ saved tables over looks fit relation at. (
  (λ so. absurd (cc (so))),
  (λ lone. absurd (not_lone over fit c.args.number relation at c.args.tid (c.loop-place.place + 1) ((c.in_ok-found.ensures.is saved tables (over_then c.loop-place.invariant.step over)).0 c.if-found.true) lone)),
)

pub returns-then-found-clause-did : goal.returns-then-found-clause-did
returns-then-found-clause-did g c = searches_call (done _ (then c.loop-place.invariant.step c.in_ok-found.ensures.did.step))

pub loop-place-preserved : goal.loop-place-preserved
loop-place-preserved g c =
    let so = c.loop-place.invariant in
    record {
      step = within (λ key none. none) (omega arith) (omega arith) (then so.step c.in_ok-found.ensures.did.step);
      none = λ saved tables over k low i. by_same k (c.loop-place.place + 1)
          (λ same. false_true ((c.in_ok-found.ensures.is saved tables (over_then so.step over)).1 (rw same at i)) c.if-found.false)
          (λ other. so.none saved tables over k (omega (arith, low, other)) i);
    }

pub returns-clause-is : goal.returns-clause-is
returns-clause-is g c = λ saved tables over looks fit relation at. (
  (λ so. lone_of over fit c.args.number relation at c.args.tid (λ k i. elim (cases_lt k (c.loop-place.place + 1)) [
    | inl less ↦ c.loop-place.invariant.none saved tables over k less i
    | inr from ↦ none_some (sym (c.last_relation-place-end.ensures.none k (omega (arith, from, c.loop-place-test.false))) ∙ i.is.its)
  ])),
  (λ lone. refl),
)

pub returns-clause-did : goal.returns-clause-did
returns-clause-did g c = searches_call (done _ c.loop-place.invariant.step)
