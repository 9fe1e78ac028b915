use Rattle.std.proofs.Common.{◌≡◌, length, drop, sym, ap, ◌∙◌}
use Rattle.rss_node.specs.Nodes.{NodeView, count_of}
use Rattle.rss_node.proofs.Codec.{length_entries}
use Rattle.rss_node.proofs.Headers.{few_entries}
use Rattle.rss_node.proofs.node.LentNode.count.Goals as goal

pub returns-clause-count : goal.returns-clause-count
returns-clause-count c = c.from.ensures ∙ c.u16_at.ensures ∙ sym (length_entries c.self.inside.width (count_of c.self.inside.page.now) (drop 32 c.self.inside.page.now)) ∙ ap (λ (n : NodeView). length n.entries) c.self.view_is

pub returns-clause-few : goal.returns-clause-few
returns-clause-few c =
    let wide : c.args.self.now.width ≡ c.self.inside.width = sym (ap (λ (n : NodeView). n.width) c.self.view_is) in
    rw wide (few_entries c.self.view_is c.self.invariant)
