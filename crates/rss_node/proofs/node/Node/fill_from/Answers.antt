use Rattle.rss_node.proofs.node.Node.fill_from.Goals as goal

pub returns : goal.returns
returns c = c.lent.view_is

pub invariant_of-self : goal.invariant_of-self
invariant_of-self c = c.lent.invariant
