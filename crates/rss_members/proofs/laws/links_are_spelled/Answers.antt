use Rattle.rss_members.proofs.Spelled.{spells_chains}
use Rattle.rss_members.proofs.laws.links_are_spelled.Goals as goal

pub returns : goal.returns
returns c = λ listing bodies tables number link child spells is. spells_chains spells number link is.at child is.within
