use Rattle.std.proofs.Common.{◌≡◌, ◌<◌, ℕ, List, [], ◌∷◌, ap, sym, ◌∙◌, arith}
use Rattle.rss_base.specs.Entries.{Entry}
use Rattle.rss_levels.specs.Entries.{zeros}
use Rattle.rss_levels.specs.Rows.{stored}
use Rattle.rss_node.specs.Nodes.{with_entries, with_next, spliced}
use Rattle.rss_image.specs.Grown.{right_next}
use Rattle.rss_image.proofs.Halves.{stored_leaf, stored_inner, spliced_blank, next_leaf, next_inner, last_leaf, last_inner}
use Rattle.rss_node.proofs.Lent.{lent_child, lent_next, lent_width}
use Rattle.rss_image.proofs.halving.settle.Goals as goal

pub returns-then-level-eq0-clause-left : goal.returns-then-level-eq0-clause-left
returns-then-level-eq0-clause-left c = c.set_next-then-level-eq0.ensures ∙ ap (with_next c.args.node.now) (next_leaf c.args.level c.args.node.now.next c.args.other c.if-level-eq0.true)

pub returns-then-level-eq0-clause-right : goal.returns-then-level-eq0-clause-right
returns-then-level-eq0-clause-right c =
    let right = c.args.right.now in
    c.set_next.ensures
    ∙ ap (with_next right) ((lent_next c.lent.ensures c.next.ensures) ∙ last_leaf c.args.level c.args.node.now.next c.if-level-eq0.true)
    ∙ ap (λ (l : List Entry). with_entries (with_next right (right_next c.args.level c.args.node.now.next)) l) (sym (stored_leaf right.width c.args.level right.entries c.if-level-eq0.true))

pub returns-else-level-eq0-clause-left : goal.returns-else-level-eq0-clause-left
returns-else-level-eq0-clause-left c = ap (with_next c.args.node.now) (next_inner c.args.level c.args.node.now.next c.args.other (omega arith))

pub returns-else-level-eq0-clause-right : goal.returns-else-level-eq0-clause-right
returns-else-level-eq0-clause-right c =
    let right = c.args.right.now in
    let level : 0 < c.args.level = omega arith in
    let none : c.zeros-none.result ≡ zeros right.width = c.zeros-none.ensures ∙ ap zeros (lent_width c.lent-else-level-eq0-2.ensures c.width.ensures) in
    let next : right.next ≡ right_next c.args.level c.args.node.now.next = c.requires.last ∙ last_inner c.args.level c.args.node.now.next level in
    c.put.ensures
    ∙ (λ i. with_entries right (spliced right.entries 0 1 (record { pair = none i; child = lent_child c.lent-else-level-eq0.ensures 0 c.child-first.ensures i } ∷ [])))
    ∙ ap (λ (l : List Entry). with_entries right l) (spliced_blank right.width right.entries c.requires.some ∙ sym (stored_inner right.width c.args.level right.entries level))
    ∙ ap (λ (n : ℕ). with_entries (with_next right n) (stored right.width c.args.level right.entries)) next
