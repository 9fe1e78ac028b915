use Rattle.std.proofs.Common.{◌+◌, ◌∙◌, ℕ, length, sym, ap, arith}
use Rattle.rss_node.specs.Nodes.{NodeView, entry_at}
use Rattle.rss_node.proofs.Headers.{says_one}
use Rattle.rss_image.proofs.seeking.front_in.Goals as goal

pub returns-clause-some : goal.returns-clause-some
returns-clause-some c = λ node is spelled.
    let same = says_one c.args.page.now c.in_ok-node.node node c.in_ok-node.ensures.spelled spelled (c.in_ok-node.ensures.is.width ∙ sym is.width) in
    c.own_pair.ensures.pair ∙ ap (λ (n : NodeView). (entry_at n.entries 0).pair) same

pub returns-clause-long : goal.returns-clause-long
returns-clause-long c = c.own_pair.ensures.long ∙ ap (λ (w : ℕ). w + 6) c.in_ok-node.ensures.is.width

pub returns-then-count-eq0-clause-none : goal.returns-then-count-eq0-clause-none
returns-then-count-eq0-clause-none c = λ _ node is spelled some.
    let same = says_one c.args.page.now c.in_ok-node.node node c.in_ok-node.ensures.spelled spelled (c.in_ok-node.ensures.is.width ∙ sym is.width) in
    absurd (omega (arith, ap (λ (n : NodeView). length n.entries) same, some, c.count.ensures.count, c.if-count-eq0.true))
