use Rattle.std.proofs.Common.{◌≡◌, length, drop, sym, ap, ◌∙◌, arith}
use Rattle.rss_node.specs.Nodes.{NodeView, count_of, entry_at}
use Rattle.rss_node.proofs.Codec.{length_entries, read_child}
use Rattle.rss_node.proofs.Headers.{entry_within}
use Rattle.rss_node.proofs.node.LentNode.child.Goals as goal

pub overflow_mul-at : goal.overflow_mul-at
overflow_mul-at c = omega (arith, entry_within c.args.at c.self.view_is c.self.invariant c.requires)

pub overflow_add-at : goal.overflow_add-at
overflow_add-at c = omega (arith, entry_within c.args.at c.self.view_is c.self.invariant c.requires)

pub overflow_add-at-2 : goal.overflow_add-at-2
overflow_add-at-2 c = omega (arith, entry_within c.args.at c.self.view_is c.self.invariant c.requires)

pub u32_at-requires : goal.u32_at-requires
u32_at-requires c = omega (arith, entry_within c.args.at c.self.view_is c.self.invariant c.requires)

pub returns : goal.returns
returns c =
    let long : length c.args.self.now.entries ≡ count_of c.self.inside.page.now = sym (ap (λ (n : NodeView). length n.entries) c.self.view_is) ∙ length_entries c.self.inside.width (count_of c.self.inside.page.now) (drop 32 c.self.inside.page.now) in
    c.u32_at.ensures ∙ read_child c.self.inside.width (count_of c.self.inside.page.now) c.args.at c.self.inside.page.now (omega (arith, long, c.requires)) ∙ ap (λ (n : NodeView). (entry_at n.entries c.args.at).child) c.self.view_is
