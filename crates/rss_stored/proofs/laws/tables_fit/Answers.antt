use Rattle.rss_stored.proofs.LogPlaced.{stores_fit}
use Rattle.rss_stored.proofs.laws.tables_fit.Goals as goal

pub returns : goal.returns
returns g = stores_fit
