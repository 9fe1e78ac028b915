use Rattle.std.proofs.Common.{◌+◌, ◌≤◌, false, refl, arith}
use Rattle.std.specs.Cmp.{unsigned_Decides}
use Rattle.rss_link.proofs.Lists.{false_true}
use Rattle.rss_link.proofs.TupleSteps.{then, then_call, stepped, done, fails, told_then}
use Rattle.rss_link.proofs.Checks.{walking_all_none, walking_all_more, walking_all_refused, walking_all_done, walking_all_left}
use Rattle.rss_link.proofs.link.Chains.walk_all.Goals as goal

pub loop-tid-init : goal.loop-tid-init
loop-tid-init g c = walking_all_none _ _ _ _ _ c.requires.binary c.requires.heaps

pub returns-in_err-tid-clause-did : goal.returns-in_err-tid-clause-did
returns-in_err-tid-clause-did g c = (
  c.loop-tid.invariant.cost + (g.T.Tuples.view c.loop-tid.tuples).pages.slots,
  fails _ c.from_residual.ensures.1 (λ key there. there) (omega arith) (then_call _ c.loop-tid.invariant.step c.in_err-tid.ensures.did),
)

pub returns-in_err-count-clause-did : goal.returns-in_err-count-clause-did
returns-in_err-count-clause-did g c = (
  c.loop-tid.invariant.cost + (g.T.Tuples.view c.loop-tid.tuples).pages.slots + c.in_err-count.ensures.did.0,
  fails _ c.from_residual-in_err-count.ensures.1 (λ key there. there) (omega arith)
      (then_call _ (then c.loop-tid.invariant.step (stepped c.in_ok-tid.ensures.did)) c.in_err-count.ensures.did.1),
)

pub returns-in_default-2-clause-walks : goal.returns-in_default-2-clause-walks
returns-in_default-2-clause-walks g c = λ told. record {
  yes = λ never. absurd (false_true false refl never);
  no = λ is. walking_all_refused c.loop-tid.invariant c.requires.binary c.in-Some.tid (record { page = omega arith; slot = omega arith }) (rw c.in-Some.is at c.in_ok-tid.ensures.behind)
      (g.met.T.Tuples.are_in_pages c.loop-tid.tuples) (rw c.in-Some.is at c.in_ok-tid.ensures.next) _ (stepped c.in_ok-tid.ensures.did) (rw c.in_default-2.is at c.in_ok-count.ensures.takes) told;
}

pub returns-in_default-2-clause-did : goal.returns-in_default-2-clause-did
returns-in_default-2-clause-did g c = (_, done _ (then (then c.loop-tid.invariant.step (stepped c.in_ok-tid.ensures.did)) (stepped c.in_ok-count.ensures.did.1)))

pub loop-tid-preserved : goal.loop-tid-preserved
loop-tid-preserved g c =
    let few : c.in-Some-2.count ≤ c.loop-tid.left = rw c.in-Some-2.is at c.in_ok-count.ensures.few in
    walking_all_more c.loop-tid.invariant c.requires.binary c.in-Some.tid (record { page = omega arith; slot = omega arith }) (rw c.in-Some.is at c.in_ok-tid.ensures.behind)
    (g.met.T.Tuples.are_in_pages c.loop-tid.tuples) (rw c.in-Some.is at c.in_ok-tid.ensures.next) _ _ (stepped c.in_ok-tid.ensures.did) (stepped c.in_ok-count.ensures.did.1)
    c.in-Some-2.count (rw c.in-Some-2.is at c.in_ok-count.ensures.takes) _ (omega (arith, few))

pub returns-clause-walks : goal.returns-clause-walks
returns-clause-walks g c = λ told.
    let so = c.loop-tid.invariant in
    let none = (rw c.in_default.is at c.in_ok-tid.ensures.next) (told_then so.step told) in
    record {
      yes = λ same. walking_all_done so c.requires.binary told none ((unsigned_Decides _ _).0 same);
      no = λ differ. walking_all_left so c.requires.binary told none (λ same. false_true _ differ ((unsigned_Decides _ _).1 same));
    }

pub returns-clause-did : goal.returns-clause-did
returns-clause-did g c = (_, done _ (then c.loop-tid.invariant.step (stepped c.in_ok-tid.ensures.did)))
