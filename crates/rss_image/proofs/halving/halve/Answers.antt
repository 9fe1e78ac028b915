use Rattle.std.proofs.Common.{ℕ, ◌/◌, ◌-◌, List, [], ◌∷◌, ap, ◌∙◌}
use Rattle.rss_base.specs.Entries.{Entry}
use Rattle.rss_node.specs.Nodes.{NodeView, with_entries, spliced}
use Rattle.rss_image.proofs.Halves.{left_low, right_low, left_high, right_high}
use Rattle.rss_node.proofs.Lent.{lent_count}
use Rattle.rss_image.proofs.halving.halve.Goals as goal

pub returns-then-at-half-clause-left : goal.returns-then-at-half-clause-left
returns-then-at-half-clause-left c =
    let node = c.args.node.now in
    let e : Entry = record { pair = c.args.pair.now; child = c.args.child } in
    c.put.ensures
    ∙ ap (λ (n : NodeView). with_entries n (spliced n.entries c.args.at 0 (e ∷ []))) c.cut.ensures
    ∙ ap (λ (l : List Entry). with_entries node l) (left_low node.entries c.args.at c.count-count.result node.width e (lent_count c.lent.ensures c.count-count.ensures.count) c.requires.full c.requires.at c.if-at-half.true)

pub returns-then-at-half-clause-right : goal.returns-then-at-half-clause-right
returns-then-at-half-clause-right c =
    let node = c.args.node.now in
    let e : Entry = record { pair = c.args.pair.now; child = c.args.child } in
    c.copy.ensures
    ∙ ap (λ (l : List Entry). with_entries c.args.right.now l) (right_low node.entries c.args.at c.count-count.result node.width e (lent_count c.lent.ensures c.count-count.ensures.count) c.requires.full c.requires.at c.args.right.now.entries c.requires.empty c.if-at-half.true)

pub returns-else-at-half-clause-left : goal.returns-else-at-half-clause-left
returns-else-at-half-clause-left c =
    let node = c.args.node.now in
    let e : Entry = record { pair = c.args.pair.now; child = c.args.child } in
    c.cut-else-at-half.ensures
    ∙ ap (λ (l : List Entry). with_entries node l) (left_high node.entries c.args.at c.count-count.result node.width e (lent_count c.lent.ensures c.count-count.ensures.count) c.requires.full c.requires.at c.if-at-half.false)

pub returns-else-at-half-clause-right : goal.returns-else-at-half-clause-right
returns-else-at-half-clause-right c =
    let node = c.args.node.now in
    let place : ℕ = c.args.at - c.count-count.result / 2 - 1 in
    let e : Entry = record { pair = c.args.pair.now; child = c.args.child } in
    c.put-else-at-half.ensures
    ∙ ap (λ (n : NodeView). with_entries n (spliced n.entries place 0 (e ∷ []))) c.copy-else-at-half.ensures
    ∙ ap (λ (l : List Entry). with_entries c.args.right.now l) (right_high node.entries c.args.at c.count-count.result node.width e (lent_count c.lent.ensures c.count-count.ensures.count) c.requires.full c.requires.at c.args.right.now.entries c.requires.empty c.if-at-half.false)
