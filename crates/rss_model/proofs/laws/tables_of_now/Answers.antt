use Rattle.std.proofs.Common.{sym, ◌∙◌, ap}
use Rattle.rss_model.specs.Changes.{after, own, others}
use Rattle.rss_model.specs.Ties.{lists}
use Rattle.rss_model.proofs.LogKeeping.{own_changes, others_changes}
use Rattle.rss_model.proofs.LogTying.{lone_last, falls_last, chained_last}
use Rattle.rss_model.proofs.LogParts.{undo_own, undo_cut, stands, end_now}
use Rattle.rss_model.proofs.laws.tables_of_now.Goals as goal

pub returns-clause-abort : goal.returns-clause-abort
returns-clause-abort c = λ base changes tables log ties t. undo_own base t (lists log) (lone_last ties) (chained_last ties)

pub returns-clause-restore : goal.returns-clause-restore
returns-clause-restore c = λ base changes tables log ties t first. undo_cut base t first (lists log) (lone_last ties) (falls_last ties) (chained_last ties)

pub returns-clause-place : goal.returns-clause-place
returns-clause-place c = λ t n ls lt. stands t n ls lt

pub returns-clause-end : goal.returns-clause-end
returns-clause-end c = λ base changes tables log ties t.
    (λ i. after (after base (sym (own_changes t (lists log) ∙ ap (own t) ties.changes_are) i)) (sym (others_changes t (lists log) ∙ ap (others t) ties.changes_are) i))
    ∙ end_now base t (lists log) (lone_last ties) ∙ ap (after base) ties.changes_are
