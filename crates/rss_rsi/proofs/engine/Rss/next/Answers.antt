use Rattle.rss_rsi.proofs.Looks.{passed_call}
use Rattle.rss_rsi.proofs.engine.Rss.next.Goals as goal

pub returns-in_err-tid-clause-did : goal.returns-in_err-tid-clause-did
returns-in_err-tid-clause-did g c = passed_call c.from_residual.result c.from_residual.ensures.1 c.in_err-tid.ensures.did

pub returns-in-Some-clause-did : goal.returns-in-Some-clause-did
returns-in-Some-clause-did g c = rw c.in-Some.is at c.in_ok-tid.ensures.did

pub returns-in-None-clause-did : goal.returns-in-None-clause-did
returns-in-None-clause-did g c = rw c.in-None.is at c.in_ok-tid.ensures.did
