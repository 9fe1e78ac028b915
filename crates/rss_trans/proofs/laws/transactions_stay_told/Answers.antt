use Rattle.rss_trans.proofs.Told.{none_tells, same_tells, checkpoint_tells, relisted_tells, recounted_tells, begin_tells, change_tells, save_tells, cut_tells, taken_tells, end_tells, abort_tells}
use Rattle.rss_trans.proofs.laws.transactions_stay_told.Goals as goal

pub returns-clause-none : goal.returns-clause-none
returns-clause-none c = none_tells

pub returns-clause-same : goal.returns-clause-same
returns-clause-same c = same_tells

pub returns-clause-checkpoint : goal.returns-clause-checkpoint
returns-clause-checkpoint c = checkpoint_tells

pub returns-clause-relisted : goal.returns-clause-relisted
returns-clause-relisted c = relisted_tells

pub returns-clause-recounted : goal.returns-clause-recounted
returns-clause-recounted c = recounted_tells

pub returns-clause-begin : goal.returns-clause-begin
returns-clause-begin c = begin_tells

pub returns-clause-change : goal.returns-clause-change
returns-clause-change c = change_tells

pub returns-clause-save : goal.returns-clause-save
returns-clause-save c = save_tells

pub returns-clause-cut : goal.returns-clause-cut
returns-clause-cut c = cut_tells

pub returns-clause-taken : goal.returns-clause-taken
returns-clause-taken c = taken_tells

pub returns-clause-end : goal.returns-clause-end
returns-clause-end c = end_tells

pub returns-clause-abort : goal.returns-clause-abort
returns-clause-abort c = abort_tells
