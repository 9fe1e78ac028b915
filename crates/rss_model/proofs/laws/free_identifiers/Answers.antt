use Rattle.rss_model.proofs.Frees.{free_found}
use Rattle.rss_model.proofs.laws.free_identifiers.Goals as goal

pub returns : goal.returns
returns g = free_found
