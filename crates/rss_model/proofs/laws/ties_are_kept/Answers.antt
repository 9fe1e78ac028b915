use Rattle.rss_model.proofs.LogTying.{ties_change, ties_restore, ties_abort, ties_end, ties_checkpoint}
use Rattle.rss_model.proofs.laws.ties_are_kept.Goals as goal

pub returns-clause-change : goal.returns-clause-change
returns-clause-change c = λ base changes tables log ties. ties_change ties

pub returns-clause-restore : goal.returns-clause-restore
returns-clause-restore c = λ base changes tables log ties. ties_restore ties

pub returns-clause-abort : goal.returns-clause-abort
returns-clause-abort c = λ base changes tables log ties. ties_abort ties

pub returns-clause-end : goal.returns-clause-end
returns-clause-end c = λ base changes tables log ties. ties_end ties

pub returns-clause-checkpoint : goal.returns-clause-checkpoint
returns-clause-checkpoint c = λ base changes tables log ties. ties_checkpoint ties
