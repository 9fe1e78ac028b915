use Rattle.std.proofs.Common.{refl, sym, ◌∙◌, arith}
use Rattle.std.proofs.lemmas.Result.{IfOk-weaker}
use Rattle.rss_model.proofs.LogLists.{false_true}
use Rattle.rss_link.proofs.TupleSteps.{stepped, then_call, done, fails, told_then, within}
use Rattle.rss_members.proofs.Later.{chain_then, spells_then}
use Rattle.rss_draft.proofs.chains.has_saved_gap.Goals as goal

pub returns-in_err-stands_under-clause-did : goal.returns-in_err-stands_under-clause-did
returns-in_err-stands_under-clause-did g c = fails _ c.from_residual.ensures.1 (λ key none. absurd none) (omega arith) c.in_err-stands_under.ensures.did

pub returns-then-branch-clause-has : goal.returns-then-branch-clause-has
returns-then-branch-clause-has g c = λ told tables link spells at. (
  (λ yes. absurd (cc (yes))),
  (λ gap. false_true (sym (c.in_ok-stands_under.ensures.stands told tables link spells at) ∙ c.if-branch.true) gap.apart),
)

pub returns-then-branch-clause-did : goal.returns-then-branch-clause-did
returns-then-branch-clause-did g c = done _ (within (λ key none. absurd none) (λ segment tid none. absurd none) (omega arith) (stepped c.in_ok-stands_under.ensures.did))

pub stands_under-requires-in-Some : goal.stands_under-requires-in-Some
stands_under-requires-in-Some g c = chain_then (stepped c.in_ok-stands_under.ensures.did) c.args.catalog.now c.requires

pub returns-in-Some-clause-has : goal.returns-in-Some-clause-has
returns-in-Some-clause-has g c =
    let step = stepped c.in_ok-stands_under.ensures.did in
    IfOk-weaker c.stands_under-in-Some.result _ _ (λ found answers told tables link spells at.
    let off = sym (c.in_ok-stands_under.ensures.stands told tables link spells at) ∙ c.if-branch.false in
    let is = answers (told_then step told) tables link (spells_then step c.args.catalog.now told spells) at in
    rw c.in-Some.is ((λ yes. record { apart = off; behind = sym is ∙ yes }), (λ gap. is ∙ gap.behind))) c.stands_under-in-Some.ensures.stands

pub returns-in-Some-clause-did : goal.returns-in-Some-clause-did
returns-in-Some-clause-did g c = then_call _ (stepped c.in_ok-stands_under.ensures.did) c.stands_under-in-Some.ensures.did

pub returns-in-None-clause-has : goal.returns-in-None-clause-has
returns-in-None-clause-has g c = λ told tables link spells at.
    let off = sym (c.in_ok-stands_under.ensures.stands told tables link spells at) ∙ c.if-branch.false in
    rw c.in-None.is ((λ yes. record { apart = off; behind = tt }), (λ gap. refl))

pub returns-in-None-clause-did : goal.returns-in-None-clause-did
returns-in-None-clause-did g c = done _ (within (λ key none. absurd none) (λ segment tid none. absurd none) (omega arith) (stepped c.in_ok-stands_under.ensures.did))
