use Rattle.std.proofs.Common.{◌≡◌, ℕ, ◌∙◌}
use Rattle.rss_model.specs.Generator.{next_state}
use Rattle.rss_line.specs.Draws.{moved}
use Rattle.rss_line.proofs.Draws.{moved_twice, next_moved, iterate_same, iterate_even, iterate_odd}
use Rattle.rss_line.proofs.drawing.state_after.Goals as goal
use Rattle.rss_line.proofs.drawing.state_after.Goals.{then-left-eq1, else-left-eq1}

pub halves-init : goal.halves-init
halves-init c = iterate_same _ next_state next_moved c.args.draws c.args.state

pub halves-preserved : goal.halves-preserved
halves-preserved c =
    let step = c.halves.step in
    let one = moved step.factor step.addend in
    let two = moved c.doubled-step.result.factor c.doubled-step.result.addend in
    let twice : (s : ℕ) → two s ≡ one (one s) = λ s. rw (c.doubled-step.ensures.factor, c.doubled-step.ensures.addend) (moved_twice step.factor step.addend s) in
    elim c.if-left-eq1.branch [
      | then-left-eq1 w ↦ rw (w.state-is, w.moved-state.ensures) (iterate_odd one two twice c.halves.left c.halves.state w.if-left-eq1.true ∙ c.halves.invariant)
      | else-left-eq1 w ↦ rw (w.state-is) (iterate_even one two twice c.halves.left c.halves.state w.if-left-eq1.false ∙ c.halves.invariant)
    ]
