use Rattle.rss_trans.proofs.Summing.{sums_told, changers_told, owed_told, deletes_told, since_told, since_saved, since_stays}
use Rattle.rss_trans.proofs.laws.sums_are_told.Goals as goal

pub returns-clause-changes : goal.returns-clause-changes
returns-clause-changes c = sums_told

pub returns-clause-changers : goal.returns-clause-changers
returns-clause-changers c = changers_told

pub returns-clause-owed : goal.returns-clause-owed
returns-clause-owed c = owed_told

pub returns-clause-deletes : goal.returns-clause-deletes
returns-clause-deletes c = deletes_told

pub returns-clause-since : goal.returns-clause-since
returns-clause-since c = since_told

pub returns-clause-saved : goal.returns-clause-saved
returns-clause-saved c = since_saved

pub returns-clause-stays : goal.returns-clause-stays
returns-clause-stays c = since_stays
