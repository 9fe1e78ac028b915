use Rattle.std.proofs.Common.{◌∙◌, Err, ap}
use Rattle.rss_base.proofs.Looking.{brought}
use Rattle.rss_tuple.proofs.Looks.{looks_done}
use Rattle.rss_tuple.proofs.checking.bring.Goals as goal

pub returns-in-Ok-clause-did : goal.returns-in-Ok-clause-did
returns-in-Ok-clause-did g c = looks_done _ (brought c.load.ensures.did.step)

pub returns-in-Err-clause-did : goal.returns-in-Err-clause-did
returns-in-Err-clause-did g c = record {
  looks = brought c.load.ensures.did.step;
  failed = λ is. c.load.ensures.did.failed (c.in-Err.is ∙ ap Err (c.fault_at.ensures.failed (cc)));
  flawed = λ place is told. c.fault_at.ensures.damaged place (cc) (λ other same. c.load.ensures.did.sound other (c.in-Err.is ∙ ap Err same) told);
  elsewhere = λ is. c.fault_at.ensures.elsewhere (cc);
}
