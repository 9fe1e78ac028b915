use Rattle.std.proofs.Common.{◌∙◌, sym, arith}
use Rattle.std.proofs.lemmas.Bool.{true≢false}
use Rattle.rss_base.proofs.Steps.{done, fails}
use Rattle.rss_tuple.proofs.Located.{said_of}
use Rattle.rss_access.proofs.TupleChanges.{absent_body, own_body, other_body}
use Rattle.rss_access.proofs.tuples.find.Goals as goal

pub returns-in_err-at-clause-did : goal.returns-in_err-at-clause-did
returns-in_err-at-clause-did g c = fails _ c.from_residual.ensures.1 (λ key none. none) (omega arith) (omega arith) c.in_err-at.ensures.did.below

pub returns-in_default-clause-finds : goal.returns-in_default-clause-finds
returns-in_default-clause-finds g c = λ told. absent_body ((rw c.in_default.is at c.in_ok-at.ensures.found) told)

pub returns-in_default-clause-did : goal.returns-in_default-clause-did
returns-in_default-clause-did g c = done _ c.in_ok-at.ensures.did.below.step

pub returns-then-is_of-clause-finds : goal.returns-then-is_of-clause-finds
returns-then-is_of-clause-finds g c = λ told.
    let lent = c.body.ensures.are (c.in_ok-at.ensures.did.below.step.passes.leaves.told.0 told) in
    record { bytes = c.body.result.now; there = lent; so = own_body (said_of ((rw c.in-Some.is at c.in_ok-at.ensures.found) told) lent) (c.is_of.ensures.0 c.if-is_of.true) }

pub returns-then-is_of-clause-did : goal.returns-then-is_of-clause-did
returns-then-is_of-clause-did g c = done _ c.in_ok-at.ensures.did.below.step

pub returns-else-is_of-clause-finds : goal.returns-else-is_of-clause-finds
returns-else-is_of-clause-finds g c = λ told.
    let lent = c.body.ensures.are (c.in_ok-at.ensures.did.below.step.passes.leaves.told.0 told) in
    other_body (said_of ((rw c.in-Some.is at c.in_ok-at.ensures.found) told) lent) (λ first. true≢false (sym (c.is_of.ensures.1 first) ∙ c.if-is_of.false))

pub returns-else-is_of-clause-did : goal.returns-else-is_of-clause-did
returns-else-is_of-clause-did g c = done _ c.in_ok-at.ensures.did.below.step
