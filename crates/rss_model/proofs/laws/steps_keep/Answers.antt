use Rattle.rss_model.proofs.StepKeeping.{steps_keep, rest_keeps, steps_leave_size}
use Rattle.rss_model.proofs.laws.steps_keep.Goals as goal

pub returns-clause-steps : goal.returns-clause-steps
returns-clause-steps g = steps_keep

pub returns-clause-rest : goal.returns-clause-rest
returns-clause-rest g = rest_keeps

pub returns-clause-size : goal.returns-clause-size
returns-clause-size g = steps_leave_size
