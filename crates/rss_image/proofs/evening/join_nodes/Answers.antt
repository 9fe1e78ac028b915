use Rattle.std.proofs.Common.{subst, arith}
use Rattle.rss_base.proofs.Steps.{then, then_call, done, fails, widens}
use Rattle.rss_node.specs.Nodes.{NodeView}
use Rattle.rss_image.specs.Trees.{cells_of}
use Rattle.rss_image.specs.Removed.{Joined}
use Rattle.rss_image.proofs.Evened.{joined_of}
use Rattle.rss_image.proofs.evening.join_nodes.Goals as goal

pub returns-in_err-give_page-clause-did : goal.returns-in_err-give_page-clause-did
returns-in_err-give_page-clause-did g c = fails _ c.from_residual-in_err-give_page.ensures.1 (λ key there. there) (omega arith) (omega arith) (then_call c.in_ok-write_node.ensures.did.step c.in_err-give_page.ensures.did)

pub returns-clause-joined : goal.returns-clause-joined
returns-clause-joined g c = λ told.
    let of = c.args.of in
    let old = g.P.Pages.view c.args.pages.now in
    let one = g.P.Pages.view c.write_node.new.pages in
    let new = g.P.Pages.view c.give_page.new.pages in
    let told_one = c.in_ok-write_node.ensures.did.step.passes.leaves.told.0 told in
    subst (λ (n : NodeView). Joined of c.args.level c.args.number c.args.other n.next n.entries (cells_of of old.held) (cells_of of new.held)) c.merge.ensures
    (joined_of of c.args.level c.args.number c.args.other c.merge.new.left old one new (c.in_ok-write_node.ensures.writes told) (c.in_ok-give_page.ensures.keeps told_one) (c.in_ok-give_page.ensures.loses_none told_one) (c.requires.apart told))

pub returns-clause-did : goal.returns-clause-did
returns-clause-did g c = widens (λ key there. there) (omega arith) (omega arith) (done _ (then c.in_ok-write_node.ensures.did.step c.in_ok-give_page.ensures.did.step))

pub returns-clause-given : goal.returns-clause-given
returns-clause-given g c = c.in_ok-give_page.ensures.given

pub returns-clause-spare : goal.returns-clause-spare
returns-clause-spare g c = omega (arith, c.in_ok-give_page.ensures.spare, c.in_ok-write_node.ensures.spare)
