use Rattle.rss_node.proofs.Ordered.{pairs_ordered}
use Rattle.rss_node.proofs.laws.pairs_are_ordered.Goals as goal

pub returns : goal.returns
returns c = pairs_ordered
