use Rattle.std.proofs.Common.{inl, inr, ◌+◌, refl, sym, ◌∙◌, arith}
use Rattle.std.proofs.lemmas.Bool.{cases_lt}
use Rattle.rss_base.proofs.Steps.{rests, then, done, within}
use Rattle.rss_model.proofs.LogLists.{by_same, false_true, none_some}
use Rattle.rss_draft.proofs.FreeNow.{no_image_zero, not_free, free_of}
use Rattle.rss_draft.proofs.Looping.{over_then, alter_then}
use Rattle.rss_draft.proofs.Searched.{searches_call, search_fails, searches_then, search_done}
use Rattle.rss_draft.proofs.free.are_free_now.Goals as goal

pub loop-place-init : goal.loop-place-init
loop-place-init g c = record { most = 0; step = rests _; none = λ saved tables over looks k low t. no_image_zero k low t }

pub is_taken_in-requires-clause-may : goal.is_taken_in-requires-clause-may
is_taken_in-requires-clause-may g c = alter_then c.loop-place.invariant.step c.requires.may

pub returns-in_err-taken-clause-did : goal.returns-in_err-taken-clause-did
returns-in_err-taken-clause-did g c = search_fails _ c.from_residual.ensures.1 (searches_then c.loop-place.invariant.step c.in_err-taken.ensures.did)

pub returns-then-taken-clause-are : goal.returns-then-taken-clause-are
returns-then-taken-clause-are g c = λ saved tables over looks fit relation at values spells. (
  (λ so. absurd (cc (so))),
  (λ free. absurd (not_free over fit c.args.number relation at c.args.tid c.args.values.now values spells (c.loop-place.place + 1) ((c.in_ok-taken.ensures.is saved tables (over_then c.loop-place.invariant.step over) looks).0 c.if-taken.true) free)),
)

pub returns-then-taken-clause-did : goal.returns-then-taken-clause-did
returns-then-taken-clause-did g c = search_done c.loop-place.invariant.step c.in_ok-taken.ensures.did _

pub loop-place-preserved : goal.loop-place-preserved
loop-place-preserved g c =
    let so = c.loop-place.invariant in
    let search = c.in_ok-taken.ensures.did.searches in
    record {
      most = so.most + search.most;
      step = within (λ key none. none) (omega arith) (omega arith) (then so.step search.step);
      none = λ saved tables over looks k low t. by_same k (c.loop-place.place + 1)
          (λ same. false_true ((c.in_ok-taken.ensures.is saved tables (over_then so.step over) looks).1 (rw same at t)) c.if-taken.false)
          (λ other. so.none saved tables over looks k (omega (arith, low, other)) t);
    }

pub returns-clause-are : goal.returns-clause-are
returns-clause-are g c = λ saved tables over looks fit relation at values spells. (
  (λ so. free_of over fit c.args.number relation at c.args.tid c.args.values.now values spells (λ k t. elim (cases_lt k (c.loop-place.place + 1)) [
    | inl less ↦ c.loop-place.invariant.none saved tables over looks k less t
    | inr from ↦ none_some (sym (c.last_image-place-end.ensures.none k (omega (arith, from, c.loop-place-test.false))) ∙ t.at.at)
  ])),
  (λ free. refl),
)

pub returns-clause-did : goal.returns-clause-did
returns-clause-did g c = searches_call (done _ c.loop-place.invariant.step)
