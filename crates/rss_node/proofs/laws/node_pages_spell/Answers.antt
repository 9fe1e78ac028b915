use Rattle.rss_node.proofs.Spelled.{spelled_page}
use Rattle.rss_node.proofs.laws.node_pages_spell.Goals as goal

pub returns : goal.returns
returns c = spelled_page
