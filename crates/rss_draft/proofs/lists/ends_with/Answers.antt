use Rattle.std.proofs.Common.{sym, ◌∙◌}
use Rattle.rss_base.proofs.Equal.{tid_decides}
use Rattle.rss_model.proofs.LogLists.{false_true}
use Rattle.rss_draft.proofs.InLists.{empty_decides, no_end, ends_decide, other_end}
use Rattle.rss_draft.proofs.lists.ends_with.Goals as goal

pub returns-in_default : goal.returns-in_default
returns-in_default c = rw c.in_default.is (empty_decides c.args.tids.now c.is_empty.result c.is_empty.ensures)

pub returns-in_default-split_last : goal.returns-in_default-split_last
returns-in_default-split_last c = rw c.in-Some.is ((λ yes. absurd (cc (yes))), (λ ends. absurd (no_end c.args.tids.now c.in-Some.last (rw c.in_default-split_last.is at c.split_last.ensures.cases) ends)))

pub returns-then-eq : goal.returns-then-eq
returns-then-eq c =
    let split = rw c.in-Some-split_last.is at c.split_last.ensures.cases in
    rw c.in-Some.is (ends_decide c.in-Some-split_last.front.now split.0 c.in-Some.last ((tid_decides c.in-Some-split_last.tid.now c.in-Some.last).0 (sym c.eq.ensures ∙ c.if-eq.true)) c.stands_in.result c.stands_in.ensures)

pub returns-else-eq : goal.returns-else-eq
returns-else-eq c =
    let split = rw c.in-Some-split_last.is at c.split_last.ensures.cases in
    rw c.in-Some.is (
      (λ yes. absurd (cc (yes))),
      (λ ends. absurd (other_end c.in-Some-split_last.front.now split.0 c.in-Some.last (λ same. false_true (c.eq.ensures ∙ (tid_decides c.in-Some-split_last.tid.now c.in-Some.last).1 same) c.if-eq.false) ends)),
    )
