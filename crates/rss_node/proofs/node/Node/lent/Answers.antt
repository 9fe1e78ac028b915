use Rattle.rss_node.proofs.node.Node.lent.Goals as goal

pub returns : goal.returns
returns c = c.self.view_is

pub invariant_of-result : goal.invariant_of-result
invariant_of-result c = c.self.invariant
