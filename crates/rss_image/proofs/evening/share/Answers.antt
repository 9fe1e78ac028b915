use Rattle.std.proofs.Common.{List, ap, ◌∙◌, arith}
use Rattle.rss_base.specs.Entries.{Entry}
use Rattle.rss_node.specs.Nodes.{with_entries}
use Rattle.rss_image.proofs.Evened.{share_left, share_right, share_back}
use Rattle.rss_node.proofs.Lent.{lent_count}
use Rattle.rss_image.proofs.evening.share.Goals as goal

pub returns-then-count-half-clause-left : goal.returns-then-count-half-clause-left
returns-then-count-half-clause-left c =
    c.copy.ensures
    ∙ ap (λ (l : List Entry). with_entries c.args.left.now l) (share_left c.args.left.now.entries c.args.right.now.entries c.count-count.result c.count-more.result (lent_count c.lent.ensures c.count-count.ensures.count) (lent_count c.lent-2.ensures c.count-more.ensures.count) c.if-count-half.true)

pub returns-then-count-half-clause-right : goal.returns-then-count-half-clause-right
returns-then-count-half-clause-right c =
    c.cut.ensures
    ∙ ap (λ (l : List Entry). with_entries c.args.right.now l) (share_right c.args.left.now.entries c.args.right.now.entries c.count-count.result c.count-more.result (lent_count c.lent.ensures c.count-count.ensures.count) (lent_count c.lent-2.ensures c.count-more.ensures.count) c.if-count-half.true)

pub returns-else-count-half-clause-right : goal.returns-else-count-half-clause-right
returns-else-count-half-clause-right c =
    c.copy-else-count-half.ensures
    ∙ ap (λ (l : List Entry). with_entries c.args.right.now l) (share_back c.args.left.now.entries c.args.right.now.entries c.count-count.result c.count-more.result (lent_count c.lent.ensures c.count-count.ensures.count) (lent_count c.lent-2.ensures c.count-more.ensures.count) (omega (arith, c.if-count-half.false)))
