use Rattle.std.proofs.Common.{◌∙◌, List, ℕ, false, refl, sym, ap, subst, arith}
use Rattle.std.specs.Prelude.{Option, length}
use Rattle.rss_tuple.specs.Finding.{IsFetched}
use Rattle.rss_tuple.proofs.Located.{said_of, fetched_as}
use Rattle.rss_tuple.proofs.Seen.{answers, hands_on}
use Rattle.rss_tuple.proofs.tuples.Tuples.fetch.Goals as goal

pub returns-in_err-at-clause-did : goal.returns-in_err-at-clause-did
returns-in_err-at-clause-did g c = hands_on _ c.from_residual.ensures.1 c.in_err-at.ensures.did

pub returns-in_default-clause-fetched : goal.returns-in_default-clause-fetched
returns-in_default-clause-fetched g c = λ told.
    subst (λ (body : Option (List ℕ)). IsFetched body false c.args.into.now) (sym ((rw c.in_default.is at c.in_ok-at.ensures.found) told)) refl

pub returns-in_default-clause-did : goal.returns-in_default-clause-did
returns-in_default-clause-did g c = answers _ c.in_ok-at.ensures.did

pub body-requires : goal.body-requires
body-requires g c = rw c.in-Some.is at c.in_ok-at.ensures.there

pub fill-requires : goal.fill-requires
fill-requires g c =
    let there = rw c.in-Some.is at c.in_ok-at.ensures.there in
    omega (arith, c.body.ensures.many, there.short)

pub returns-clause-fetched : goal.returns-clause-fetched
returns-clause-fetched g c = λ told.
    let now = c.in_ok-at.ensures.did.below.step.passes.leaves.told.0 told in
    fetched_as (said_of ((rw c.in-Some.is at c.in_ok-at.ensures.found) told) (c.body.ensures.are now)) c.fill.ensures

pub returns-clause-body : goal.returns-clause-body
returns-clause-body g c = λ is.
    let there = rw c.in-Some.is at c.in_ok-at.ensures.there in
    let long = ap length c.fill.ensures ∙ c.body.ensures.many in
    record { some = omega (arith, long, there.stands.some); most = omega (arith, long, there.short) }

pub returns-clause-did : goal.returns-clause-did
returns-clause-did g c = answers _ c.in_ok-at.ensures.did
