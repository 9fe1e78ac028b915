use Rattle.std.proofs.Common.{◌-◌, length}
use Rattle.rss_scripts.proofs.commands.run_lines.Given as goal

-- the store is up before each line
abbrev pub invariant-loop-done : goal.invariant-loop-done
invariant-loop-done g l = (g.E.Engine.view l.store).is_up

abbrev pub decreases-loop-done : goal.decreases-loop-done
decreases-loop-done g l = length l.script - l.done
