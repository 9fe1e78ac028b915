use Rattle.rss_model.proofs.GoingBack.{ways_back_succeed, checkpoints_succeed}
use Rattle.rss_model.proofs.laws.ways_back_succeed.Goals as goal

pub returns-clause-back : goal.returns-clause-back
returns-clause-back g = ways_back_succeed

pub returns-clause-checkpoint : goal.returns-clause-checkpoint
returns-clause-checkpoint g = checkpoints_succeed
