use Rattle.std.proofs.Common.{◌≡◌, ℕ, ◌-◌, ◌<◌, List, ◌++◌, option_to_list, slice_index_or, ap, ◌∙◌, arith}
use Rattle.std.proofs.lemmas.Grind.{common_steps}
use Rattle.rss_restart.specs.declared.survey.walk.Kept.{Kept}
use Rattle.rss_restart.specs.declared.survey.walk.Placed.{Placed}
use Rattle.rss_restart.specs.declared.survey.bounds.Event.TheVariants.{Change}
use Rattle.rss_restart.specs.Events.{bound, passed}
use Rattle.rss_restart.proofs.Bounding.{front_more, kept_more}
use Rattle.rss_restart.proofs.survey.walk.kept_changes.Goals as goal
use Rattle.rss_restart.proofs.survey.walk.kept_changes.Goals.{in-Some+in_ok-push, in_default}

pub loop-i-preserved : goal.loop-i-preserved
loop-i-preserved c =
    let some : 0 < c.loop-i.i = omega (arith, c.loop-i-test.true) in
    let none : Placed = record { at = 0; event = Change 0 } in
    let grown : c.match-kept_change.kept.items ≡ c.loop-i.kept.items ++ option_to_list c.kept_change.result = elim c.match-kept_change.branch [
      | in-Some+in_ok-push w ↦ grind (arith, common_steps)
      | in_default w ↦ grind (arith, common_steps)
    ] in
    record {
      kept = grown
          ∙ ap (λ (l : List Kept). c.loop-i.kept.items ++ l) c.kept_change.ensures
          ∙ kept_more c.args.bounds.now.ended (bound c.args.bounds.now) (bound c.loop-i.bounds) c.args.events.now c.loop-i.i none some c.loop-i.auto.i c.loop-i.invariant.bounds c.loop-i.kept.items c.loop-i.invariant.kept;
      bounds = λ t. c.in_ok-pass.ensures.passed t
          ∙ ap (λ (e : ℕ). passed e (slice_index_or c.args.events.now (c.loop-i.i - 1) none).event t (bound c.loop-i.bounds t)) c.loop-i.invariant.ended
          ∙ front_more c.args.bounds.now.ended (bound c.args.bounds.now) (bound c.loop-i.bounds) c.args.events.now c.loop-i.i none some c.loop-i.auto.i c.loop-i.invariant.bounds t;
      ended = c.in_ok-pass.ensures.ended ∙ c.loop-i.invariant.ended;
    }
