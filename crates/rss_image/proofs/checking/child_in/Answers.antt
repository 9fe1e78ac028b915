use Rattle.std.proofs.Common.{length, sym, ap, ◌∙◌, arith}
use Rattle.rss_node.specs.Nodes.{NodeView, entry_at}
use Rattle.rss_node.proofs.Headers.{says_one}
use Rattle.rss_image.specs.Checking.{with_bound}
use Rattle.rss_image.proofs.checking.child_in.Goals as goal

pub returns-clause-some : goal.returns-clause-some
returns-clause-some c = λ node is spelled.
    let same = says_one c.args.page.now c.in_ok-node.node node c.in_ok-node.ensures.spelled spelled (c.in_ok-node.ensures.is.width ∙ sym is.width) in
    record {
      bound_is = c.bound_of.ensures ∙ ap (λ (n : NodeView). (entry_at (with_bound c.args.low.now n.entries) c.args.at).pair) same;
      number_is = c.child.ensures ∙ ap (λ (n : NodeView). (entry_at n.entries c.args.at).child) same;
    }

pub returns-then-at-count-clause-none : goal.returns-then-at-count-clause-none
returns-then-at-count-clause-none c = λ _ node is spelled low.
    let same = says_one c.args.page.now c.in_ok-node.node node c.in_ok-node.ensures.spelled spelled (c.in_ok-node.ensures.is.width ∙ sym is.width) in
    absurd (omega (arith, ap (λ (n : NodeView). length n.entries) same, low, c.count.ensures.count, c.if-at-count.true))
