use Rattle.rss_model.proofs.LogTying.{ties_recovers}
use Rattle.rss_model.proofs.laws.ties_recover.Goals as goal

pub returns : goal.returns
returns c = λ base changes tables log ties. ties_recovers ties
