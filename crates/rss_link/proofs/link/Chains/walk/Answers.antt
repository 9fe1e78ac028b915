use Rattle.std.proofs.Common.{◌+◌, refl, arith}
use Rattle.rss_link.proofs.TupleSteps.{then, then_call, stepped, done, fails}
use Rattle.rss_link.proofs.Lists.{same_places, other_places}
use Rattle.rss_link.proofs.Checks.{walking_none, walking_more, walking_refused, walking_open, walking_done}
use Rattle.rss_link.proofs.link.Chains.walk.Goals as goal

pub loop-next-init : goal.loop-next-init
loop-next-init g c = walking_none _ _ _ _ _ _ c.requires.heaps

pub returns-in_err-behind-clause-did : goal.returns-in_err-behind-clause-did
returns-in_err-behind-clause-did g c = (
  c.loop-next.invariant.cost + 2,
  fails _ c.from_residual.ensures.1 (λ key there. there) (omega arith) (then_call _ c.loop-next.invariant.step c.in_err-behind.ensures.did),
)

pub returns-in-None-clause-walks : goal.returns-in-None-clause-walks
returns-in-None-clause-walks g c = walking_refused c.loop-next.invariant c.in-Some.tid c.in-Some.is (rw c.in-None.is at c.in_ok-behind.ensures.follows)

pub returns-in-None-clause-did : goal.returns-in-None-clause-did
returns-in-None-clause-did g c = (_, done _ (then c.loop-next.invariant.step (stepped c.in_ok-behind.ensures.did)))

pub loop-next-preserved : goal.loop-next-preserved
loop-next-preserved g c =
    walking_more c.loop-next.invariant c.in-Some.tid c.in-Some.is _ (stepped c.in_ok-behind.ensures.did) c.in-Some-2.behind (rw c.in-Some-2.is at c.in_ok-behind.ensures.follows) _ refl
    (omega (arith, c.loop-next.invariant.few, c.if-count-most.false))

pub returns-then-ne-clause-walks : goal.returns-then-ne-clause-walks
returns-then-ne-clause-walks g c = walking_open c.loop-next.invariant c.in_default.is (other_places _ _ _ c.ne.ensures c.if-ne.true)

pub returns-clause-walks : goal.returns-clause-walks
returns-clause-walks g c = walking_done c.loop-next.invariant c.in_default.is (same_places _ _ _ c.ne.ensures c.if-ne.false)
