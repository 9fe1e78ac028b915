use Rattle.rss_stored.proofs.LogPlaced.{restart_of_store}
use Rattle.rss_stored.proofs.laws.restart_of_a_store.Goals as goal

pub returns : goal.returns
returns g = restart_of_store
