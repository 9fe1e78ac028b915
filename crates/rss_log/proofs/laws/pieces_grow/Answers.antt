use Rattle.rss_log.proofs.Growth.{grown}
use Rattle.rss_log.proofs.laws.pieces_grow.Goals as goal

pub returns : goal.returns
returns c = λ log root more pages is low end bytes each. grown log root more pages is low end bytes each
