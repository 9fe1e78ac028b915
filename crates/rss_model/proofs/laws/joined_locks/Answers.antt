use Rattle.rss_model.proofs.Modes.{joins_disagree}
use Rattle.rss_model.proofs.laws.joined_locks.Goals as goal

pub returns : goal.returns
returns g = joins_disagree
