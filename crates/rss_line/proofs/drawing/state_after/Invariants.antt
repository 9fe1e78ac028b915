use Rattle.std.proofs.Common.{◌≡◌}
use Rattle.std.specs.Fn.{iterate}
use Rattle.rss_model.specs.Generator.{next_state}
use Rattle.rss_line.specs.Draws.{moved}
use Rattle.rss_line.proofs.drawing.state_after.Given as goal

-- the steps that are left lead to the same state
abbrev pub invariant-halves : goal.invariant-halves
invariant-halves l =
    iterate (moved l.step.factor l.step.addend) l.left l.state ≡ iterate next_state l.fn.draws l.fn.state

abbrev pub decreases-halves : goal.decreases-halves
decreases-halves l = l.left
