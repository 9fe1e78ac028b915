use Rattle.rss_model.proofs.LogTying.{restarts}
use Rattle.rss_model.proofs.laws.restart_recovers.Goals as goal

pub returns : goal.returns
returns c = restarts
