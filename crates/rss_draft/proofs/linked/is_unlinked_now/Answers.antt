use Rattle.std.proofs.Common.{inl, inr, ◌+◌, refl, sym, ◌∙◌, arith}
use Rattle.std.proofs.lemmas.Bool.{cases_lt}
use Rattle.rss_base.proofs.Steps.{rests, then, then_call, done, within}
use Rattle.rss_model.proofs.LogLists.{by_same, false_true, none_some}
use Rattle.rss_draft.proofs.LinkedNow.{no_link_zero, not_unlinked, unlinked_of_all}
use Rattle.rss_draft.proofs.Looping.{over_then, alter_then}
use Rattle.rss_draft.proofs.Searched.{searches_call, search_fails}
use Rattle.rss_draft.proofs.linked.is_unlinked_now.Goals as goal

pub loop-place-init : goal.loop-place-init
loop-place-init g c = record { step = rests _; none = λ saved tables over looks k low i. no_link_zero k low i }

pub is_linked_in-requires-clause-may : goal.is_linked_in-requires-clause-may
is_linked_in-requires-clause-may g c = alter_then c.loop-place.invariant.step c.requires.may

pub returns-in_err-linked-clause-did : goal.returns-in_err-linked-clause-did
returns-in_err-linked-clause-did g c = search_fails _ c.from_residual.ensures.1 (searches_call (then_call c.loop-place.invariant.step c.in_err-linked.ensures.did))

pub returns-then-linked-clause-is : goal.returns-then-linked-clause-is
returns-then-linked-clause-is g c = λ saved tables over looks fit relation at. (
  (λ so. absurd (cc (so))),
  (λ unlinked. absurd (not_unlinked over c.args.number relation at c.args.tid (c.loop-place.place + 1) ((c.in_ok-linked.ensures.is saved tables (over_then c.loop-place.invariant.step over) looks).0 c.if-linked.true) unlinked)),
)

pub returns-then-linked-clause-did : goal.returns-then-linked-clause-did
returns-then-linked-clause-did g c = searches_call (done _ (then c.loop-place.invariant.step c.in_ok-linked.ensures.did.step))

pub loop-place-preserved : goal.loop-place-preserved
loop-place-preserved g c =
    let so = c.loop-place.invariant in
    record {
      step = within (λ key none. none) (omega arith) (omega arith) (then so.step c.in_ok-linked.ensures.did.step);
      none = λ saved tables over looks k low i. by_same k (c.loop-place.place + 1)
          (λ same. false_true ((c.in_ok-linked.ensures.is saved tables (over_then so.step over) looks).1 (rw same at i)) c.if-linked.false)
          (λ other. so.none saved tables over looks k (omega (arith, low, other)) i);
    }

pub returns-clause-is : goal.returns-clause-is
returns-clause-is g c = λ saved tables over looks fit relation at. (
  (λ so. unlinked_of_all over c.args.number relation at c.args.tid (λ k i. elim (cases_lt k (c.loop-place.place + 1)) [
    | inl less ↦ c.loop-place.invariant.none saved tables over looks k less i
    | inr from ↦ none_some (sym (c.last_link-place-end.ensures.none k (omega (arith, from, c.loop-place-test.false))) ∙ i.listed.at)
  ])),
  (λ unlinked. refl),
)

pub returns-clause-did : goal.returns-clause-did
returns-clause-did g c = searches_call (done _ c.loop-place.invariant.step)
