use Rattle.std.proofs.Common.{length, sym, ap, subst, ◌∙◌, arith}
use Rattle.rss_node.specs.Nodes.{NodeView}
use Rattle.rss_node.proofs.Headers.{says_one}
use Rattle.rss_image.specs.Fitting.{IsFit}
use Rattle.rss_image.proofs.checking.fit_in.Goals as goal

pub returns-then-count-fewest-clause-none : goal.returns-then-count-fewest-clause-none
returns-then-count-fewest-clause-none c = λ _ node is spelled fit many.
    let same = says_one c.args.page.now c.in_ok-node.node node c.in_ok-node.ensures.spelled spelled (c.in_ok-node.ensures.is.width ∙ sym is.width) in
    absurd (omega (arith, ap (λ (n : NodeView). length n.entries) same, many, c.count.ensures.count, c.if-count-fewest.true))

pub returns-then-not-is_fit-clause-none : goal.returns-then-not-is_fit-clause-none
returns-then-not-is_fit-clause-none c = λ _ node is spelled fit many.
    let same = says_one c.args.page.now c.in_ok-node.node node c.in_ok-node.ensures.spelled spelled (c.in_ok-node.ensures.is.width ∙ sym is.width) in
    c.is_fit.ensures.no c.if-not-is_fit.true (subst (λ (n : NodeView). IsFit n.width c.args.slots c.args.level n.next n.entries) (sym same) fit)
