use Rattle.rss_tuple.proofs.Changes.{puts_tuple}
use Rattle.rss_tuple.proofs.store.StoreTuples.insert_at.Goals as goal

pub returns : goal.returns
returns g c = puts_tuple c.requires.heaps c.insert_at.ensures
