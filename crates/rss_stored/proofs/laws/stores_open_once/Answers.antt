use Rattle.rss_stored.proofs.Stores.{opens_once}
use Rattle.rss_stored.proofs.laws.stores_open_once.Goals as goal

pub returns : goal.returns
returns g = opens_once
