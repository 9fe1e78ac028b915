use Rattle.rss_node.proofs.Agreed.{pair_said, pair_back}
use Rattle.rss_node.proofs.laws.pairs_are_their_bytes.Goals as goal

pub returns-clause-said : goal.returns-clause-said
returns-clause-said c = pair_said

pub returns-clause-back : goal.returns-clause-back
returns-clause-back c = pair_back
