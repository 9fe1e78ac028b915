use Rattle.std.proofs.Common.{ℕ, ◌+◌, ap, arith}
use Rattle.rss_link.specs.Checking.{IsNoChild}
use Rattle.rss_link.proofs.TupleSteps.{then, then_call, stepped, done, fails, told_then}
use Rattle.rss_link.proofs.Checks.{counting_none, counting_more, counting_done, so_before}
use Rattle.rss_link.proofs.link.Chains.count_standing.Goals as goal

pub loop-tid-init : goal.loop-tid-init
loop-tid-init g c = counting_none _ _ _ c.requires.heaps

pub returns-in_err-tid-clause-did : goal.returns-in_err-tid-clause-did
returns-in_err-tid-clause-did g c = (
  c.loop-tid.invariant.cost + (g.T.Tuples.view c.loop-tid.tuples).pages.slots,
  fails _ c.from_residual.ensures.1 (λ key there. there) (omega arith) (then_call _ c.loop-tid.invariant.step c.in_err-tid.ensures.did),
)

pub returns-in_err-stands-clause-did : goal.returns-in_err-stands-clause-did
returns-in_err-stands-clause-did g c = (
  c.loop-tid.invariant.cost + (g.T.Tuples.view c.loop-tid.tuples).pages.slots + 2,
  fails _ c.from_residual-in_err-stands.ensures.1 (λ key there. there) (omega arith)
      (then_call _ (then c.loop-tid.invariant.step (stepped c.in_ok-tid.ensures.did)) c.in_err-stands.ensures.did),
)

pub returns-in_default-2-clause-counts : goal.returns-in_default-2-clause-counts
returns-in_default-2-clause-counts g c = λ told.
    let step = then c.loop-tid.invariant.step (stepped c.in_ok-tid.ensures.did) in (
      c.in-Some.tid,
      so_before (λ bodies. IsNoChild c.args.self.now c.args.relations bodies c.in-Some.tid) step told
          ((rw c.in_default-2.is at c.in_ok-stands.ensures.says) (told_then step told)),
    )

pub returns-in_default-2-clause-did : goal.returns-in_default-2-clause-did
returns-in_default-2-clause-did g c = (_, done _ (then (then c.loop-tid.invariant.step (stepped c.in_ok-tid.ensures.did)) (stepped c.in_ok-stands.ensures.did)))

pub loop-tid-preserved : goal.loop-tid-preserved
loop-tid-preserved g c =
    counting_more c.loop-tid.invariant _ _ (stepped c.in_ok-tid.ensures.did) (stepped c.in_ok-stands.ensures.did) c.in-Some.tid (record { page = omega arith; slot = omega arith })
    (rw c.in-Some.is at c.in_ok-tid.ensures.behind) (g.met.T.Tuples.are_in_pages c.loop-tid.tuples) (rw c.in-Some.is at c.in_ok-tid.ensures.next)
    c.in-Some-2.stands (rw c.in-Some-2.is at c.in_ok-stands.ensures.says) _ (ap (λ (n : ℕ). c.loop-tid.count + n) c.from-count.ensures)

pub returns-clause-counts : goal.returns-clause-counts
returns-clause-counts g c = λ told.
    let so = c.loop-tid.invariant in
    counting_done so told ((rw c.in_default.is at c.in_ok-tid.ensures.next) (told_then so.step told))

pub returns-clause-did : goal.returns-clause-did
returns-clause-did g c = (_, done _ (then c.loop-tid.invariant.step (stepped c.in_ok-tid.ensures.did)))
