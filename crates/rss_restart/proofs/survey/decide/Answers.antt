use Rattle.std.proofs.Common.{◌≡◌, ℕ, List, map, reverse, ap, ◌∙◌}
use Rattle.rss_restart.specs.declared.survey.walk.Kept.{Kept}
use Rattle.rss_restart.specs.Events.{bound, every, position, lost, surviving_in, surviving_below, listed_in}
use Rattle.rss_restart.proofs.Bounding.{kept_same, front_same, lost_same}
use Rattle.rss_restart.proofs.survey.decide.Goals as goal

pub returns-clause-undone : goal.returns-clause-undone
returns-clause-undone c =
    let saved : c.in_ok-saved.saved.items ≡ listed_in c.args.older.now = c.in_ok-saved.ensures.kept ∙ kept_same c.of_lists-listed.result.ended 0 (bound c.of_lists-listed.result) (λ t. every) c.args.older.now c.of_lists-listed.ensures.ended c.of_lists-listed.ensures.all in
    let below : (t : ℕ) → bound c.kept_changes.new.bounds t ≡ surviving_below c.args.newer.now t = λ t. c.in_ok-survivors.ensures.bounds t ∙ front_same c.of_survival-surviving.result.ended every (bound c.of_survival-surviving.result) (λ u. 0) c.args.newer.now t c.of_survival-surviving.ensures.ended c.of_survival-surviving.ensures.none in
    c.in_ok-undone.ensures
    ∙ ap (λ (ks : List Kept). map position (lost (bound c.kept_changes.new.bounds) ks)) (c.as_slice-2.ensures.value ∙ saved)
    ∙ ap (λ (ks : List Kept). map position ks) (lost_same (bound c.kept_changes.new.bounds) (surviving_below c.args.newer.now) (listed_in c.args.older.now) below)

pub returns-clause-redone : goal.returns-clause-redone
returns-clause-redone c =
    let survivors : c.in_ok-survivors.survivors.items ≡ surviving_in c.args.newer.now = c.in_ok-survivors.ensures.kept ∙ kept_same c.of_survival-surviving.result.ended every (bound c.of_survival-surviving.result) (λ t. 0) c.args.newer.now c.of_survival-surviving.ensures.ended c.of_survival-surviving.ensures.none in
    c.in_ok-redone.ensures ∙ ap (λ (ks : List Kept). map position (reverse ks)) (c.as_slice.ensures.value ∙ survivors)
