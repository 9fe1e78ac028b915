use Rattle.std.proofs.Common.{◌≡◌, ◌∙◌, ap, arith}
use Rattle.rss_base.proofs.Steps.{then, then_call, done, fails, widens}
use Rattle.rss_node.specs.Nodes.{NodeView, with_entries}
use Rattle.rss_image.specs.Removed.{first_named}
use Rattle.rss_image.proofs.Evened.{shared_of}
use Rattle.rss_image.proofs.evening.share_nodes.Goals as goal

pub returns-in_err-write_node-clause-did : goal.returns-in_err-write_node-clause-did
returns-in_err-write_node-clause-did g c = fails _ c.from_residual.ensures.1 (λ key there. there) (omega arith) (omega arith) c.in_err-write_node.ensures.did

pub returns-in_err-write_node-2-clause-did : goal.returns-in_err-write_node-2-clause-did
returns-in_err-write_node-2-clause-did g c = fails _ c.from_residual-in_err-write_node-2.ensures.1 (λ key there. there) (omega arith) (omega arith) (then_call c.in_ok-write_node.ensures.did.step c.in_err-write_node-2.ensures.did)

pub returns-clause-shared : goal.returns-clause-shared
returns-clause-shared g c = λ told.
    let of = c.args.of in
    let told_one = c.in_ok-write_node.ensures.did.step.passes.leaves.told.0 told in
    let right_is : c.name_first.new.node ≡ _ = c.name_first.ensures ∙ (λ i. with_entries (c.share.ensures.right i) (first_named c.args.level (c.zeros-none.ensures i) (c.share.ensures.right i).entries)) in
    shared_of of c.args.level c.args.number c.args.other c.share.new.left c.name_first.new.node _ _ _ (g.P.Pages.view c.args.pages.now) (g.P.Pages.view c.write_node.new.pages) (g.P.Pages.view c.write_node-2.new.pages) (c.in_ok-write_node.ensures.writes told) (c.in_ok-write_node-2.ensures.writes told_one) (c.requires.apart told)
    (ap (λ (n : NodeView). n.next) c.share.ensures.left) (ap (λ (n : NodeView). n.entries) c.share.ensures.left) (ap (λ (n : NodeView). n.next) right_is) (ap (λ (n : NodeView). n.entries) right_is)

pub returns-clause-did : goal.returns-clause-did
returns-clause-did g c = widens (λ key there. there) (omega arith) (omega arith) (done _ (then c.in_ok-write_node.ensures.did.step c.in_ok-write_node-2.ensures.did.step))
