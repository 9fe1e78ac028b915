use Rattle.rss_stored.proofs.LogSteps.{change_ties, restore_ties, abort_ties, end_ties}
use Rattle.rss_stored.proofs.LogTurning.{changes_turn_back}
use Rattle.rss_stored.proofs.LogSaving.{checkpoint_ties}
use Rattle.rss_stored.proofs.laws.logs_tie.Goals as goal

pub returns-clause-change : goal.returns-clause-change
returns-clause-change g = change_ties

pub returns-clause-restore : goal.returns-clause-restore
returns-clause-restore g = restore_ties

pub returns-clause-abort : goal.returns-clause-abort
returns-clause-abort g = abort_ties

pub returns-clause-turn_back : goal.returns-clause-turn_back
returns-clause-turn_back g = changes_turn_back

pub returns-clause-end : goal.returns-clause-end
returns-clause-end g = end_ties

pub returns-clause-checkpoint : goal.returns-clause-checkpoint
returns-clause-checkpoint g = checkpoint_ties
