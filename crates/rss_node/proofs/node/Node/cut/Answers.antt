use Rattle.rss_node.proofs.node.Node.cut.Goals as goal

pub returns : goal.returns
returns c = c.splice.ensures
