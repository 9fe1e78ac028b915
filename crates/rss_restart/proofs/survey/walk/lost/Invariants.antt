use Rattle.std.proofs.Common.{◌≡◌, take}
use Rattle.std.specs.Prelude.{map}
use Rattle.rss_restart.specs.Events.{bound, lost, position}
use Rattle.rss_restart.proofs.survey.walk.lost.Given as goal

abbrev pub invariant-loop-change : goal.invariant-loop-change
invariant-loop-change l = l.positions.items ≡ map position (lost (bound l.surviving) (take l.change-index l.changes))
