use Rattle.std.proofs.Common.{sym, ◌∙◌, arith}
use Rattle.rss_base.proofs.Equal.{tid_decides}
use Rattle.rss_link.proofs.TupleSteps.{stepped, done, fails, within}
use Rattle.rss_draft.proofs.ChainsNow.{spelled_once}
use Rattle.rss_draft.proofs.InLists.{next_decides, none_decides}
use Rattle.rss_draft.proofs.chains.stands_behind_saved.Goals as goal

pub returns-in_err-found-clause-did : goal.returns-in_err-found-clause-did
returns-in_err-found-clause-did g c = fails _ c.from_residual.ensures.1 (λ key none. absurd none) (omega arith) c.in_err-found.ensures.did

pub returns-in_default-clause-stands : goal.returns-in_default-clause-stands
returns-in_default-clause-stands g c = λ told tables link spells at.
    let m = c.args.membership in
    none_decides m.child m.left _ _ (c.in_ok-found.ensures.next told tables link spells at) c.in_default.ensures.none

pub returns-in_default-clause-did : goal.returns-in_default-clause-did
returns-in_default-clause-did g c = done _ (within (λ key none. absurd none) (λ segment tid none. absurd none) (omega arith) (stepped c.in_ok-found.ensures.did))

pub returns-clause-stands : goal.returns-clause-stands
returns-clause-stands g c = λ told tables link spells at.
    let m = c.args.membership in
    next_decides m.child m.left _ (spelled_once spells m.link link at m.parent) _ (c.in_ok-found.ensures.next told tables link spells at) c.in-Some.next c.in-Some.ensures.some c.eq.result
    ((λ yes. (tid_decides c.in-Some.next m.child).0 (sym c.eq.ensures ∙ yes)), (λ same. c.eq.ensures ∙ (tid_decides c.in-Some.next m.child).1 same))

pub returns-clause-did : goal.returns-clause-did
returns-clause-did g c = done _ (within (λ key none. absurd none) (λ segment tid none. absurd none) (omega arith) (stepped c.in_ok-found.ensures.did))
