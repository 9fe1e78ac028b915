use Rattle.rss_node.proofs.Agreed.{base_page}
use Rattle.rss_node.proofs.laws.pages_are_node_pages.Goals as goal

pub returns : goal.returns
returns c = base_page
