use Rattle.rss_tuple.proofs.Seen.{looked}
use Rattle.rss_tuple.proofs.store.StoreTuples.locate.Goals as goal

pub returns-clause-did : goal.returns-clause-did
returns-clause-did g c = looked c.requires.heaps c.locate.ensures.did
