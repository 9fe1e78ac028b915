use Rattle.rss_model.proofs.BothRooms.{changes_fit_log, ways_back_fit_log, ends_fit_log, checkpoints_fit_log}
use Rattle.rss_model.proofs.laws.records_fit.Goals as goal

pub returns-clause-changes : goal.returns-clause-changes
returns-clause-changes g = changes_fit_log

pub returns-clause-back : goal.returns-clause-back
returns-clause-back g = ways_back_fit_log

pub returns-clause-ends : goal.returns-clause-ends
returns-clause-ends g = ends_fit_log

pub returns-clause-checkpoints : goal.returns-clause-checkpoints
returns-clause-checkpoints g = checkpoints_fit_log
