use Rattle.std.proofs.Common.{refl, subst, arith}
use Rattle.rss_base.proofs.Steps.{then, then_call, done, fails, widens}
use Rattle.rss_node.specs.Nodes.{NodeView}
use Rattle.rss_image.specs.Trees.{HoldsNode}
use Rattle.rss_image.specs.Images.{nodes_of}
use Rattle.rss_image.proofs.Kept.{start_made}
use Rattle.rss_image.proofs.Making.{created}
use Rattle.rss_image.specs.declared.image.Image.{Image}
use Rattle.rss_image.proofs.image.Image.create.Goals as goal

pub returns-in_err-write_node-clause-did : goal.returns-in_err-write_node-clause-did
returns-in_err-write_node-clause-did g c = fails _ c.from_residual-in_err-write_node.ensures.1 (λ key there. there) (omega arith) (omega arith) (then_call c.in_ok-root.ensures.did.step c.in_err-write_node.ensures.did)

pub returns-clause-created : goal.returns-clause-created
returns-clause-created g c = λ told.
    let image : Image = record { segment = c.args.segment; number = c.args.number; width = c.args.width; root = c.in_ok-root.root; levels = 1 } in
    let taken = c.in_ok-root.ensures in
    created image (g.P.Pages.view c.args.pages.now) (g.P.Pages.view c.take_page.new.pages) (g.P.Pages.view c.write_node.new.pages) c.blank-node.result refl c.blank-node.ensures (taken.fresh told) (taken.keeps told) (taken.loses_none told)
    (c.in_ok-write_node.ensures.writes (taken.did.step.passes.leaves.told.0 told)) (omega (arith, taken.spare, c.in_ok-write_node.ensures.spare))

pub returns-clause-did : goal.returns-clause-did
returns-clause-did g c = widens (λ key there. there) (omega arith) (omega arith) (done _ (then c.in_ok-root.ensures.did.step c.in_ok-write_node.ensures.did.step))

pub returns-clause-made : goal.returns-clause-made
returns-clause-made g c = λ told.
    let image : Image = record { segment = c.args.segment; number = c.args.number; width = c.args.width; root = c.in_ok-root.root; levels = 1 } in
    let wrote = c.in_ok-write_node.ensures.writes (c.in_ok-root.ensures.did.step.passes.leaves.told.0 told) in
    start_made image (g.P.Pages.view c.write_node.new.pages) (subst (λ (n : NodeView). HoldsNode (nodes_of image) (g.P.Pages.view c.write_node.new.pages).held 0 image.root n.next n.entries) c.blank-node.ensures wrote.holds) refl
