use Rattle.std.proofs.Common.{◌≡◌, List, ◌∙◌, ap, subst, arith}
use Rattle.rss_base.proofs.Steps.{done, fails, widens}
use Rattle.rss_base.specs.Entries.{Entry}
use Rattle.rss_node.specs.Nodes.{NodeView, with_entries}
use Rattle.rss_image.specs.Grown.{put_at}
use Rattle.rss_image.specs.Trees.{HoldsNode}
use Rattle.rss_image.proofs.Halves.{long_put, spliced_put}
use Rattle.rss_node.proofs.Lent.{lent_count}
use Rattle.rss_image.proofs.growing.grow.Goals as goal

pub returns-then-count-node_most-clause-grown : goal.returns-then-count-node_most-clause-grown
returns-then-count-node_most-clause-grown g c = λ told.
    let node = c.args.node.now in
    let e : Entry = record { pair = c.args.pair.now; child = c.args.child } in
    let all : List Entry = put_at node.entries c.args.at e in
    let made : c.put.new.self ≡ with_entries node all = c.put.ensures ∙ ap (with_entries node) (spliced_put node.entries c.args.at e) in
    let writes = c.in_ok-write_node.ensures.writes told in
    record {
      held = subst (λ (n : NodeView). HoldsNode c.args.of (g.P.Pages.view c.write_node.new.pages).held c.args.level c.args.number n.next n.entries) made writes.holds;
      few = omega (arith, long_put node.entries c.args.at e c.requires.at, (lent_count c.lent.ensures c.count.ensures.count), c.node_most.ensures, c.if-count-node_most.true);
      keeps = writes.keeps;
      loses_none = writes.loses_none;
    }

pub returns-in_err-write_node-clause-did : goal.returns-in_err-write_node-clause-did
returns-in_err-write_node-clause-did g c = fails _ c.from_residual.ensures.1 (λ key there. there) (omega arith) (omega arith) c.in_err-write_node.ensures.did

pub returns-then-count-node_most-clause-did : goal.returns-then-count-node_most-clause-did
returns-then-count-node_most-clause-did g c = widens (λ key there. there) (omega arith) (omega arith) (done _ c.in_ok-write_node.ensures.did.step)

pub returns-in_err-split-clause-did : goal.returns-in_err-split-clause-did
returns-in_err-split-clause-did g c = fails _ c.from_residual-in_err-split.ensures.1 (λ key there. there) (omega arith) (omega arith) c.in_err-split.ensures.did
