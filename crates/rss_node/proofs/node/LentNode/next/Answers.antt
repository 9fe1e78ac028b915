use Rattle.std.proofs.Common.{ap, ◌∙◌}
use Rattle.rss_node.specs.Nodes.{NodeView}
use Rattle.rss_node.proofs.node.LentNode.next.Goals as goal

pub returns : goal.returns
returns c = c.u32_at.ensures ∙ ap (λ (n : NodeView). n.next) c.self.view_is
