use Rattle.std.proofs.Common.{◌+◌, ◌-◌, ◌*◌, length}
use Rattle.rss_lines.specs.Lines.{script_limit}
use Rattle.rss_top.specs.Lines.{seen}
use Rattle.rss_top.proofs.Scripts.{Reading, budget}
use Rattle.rss_top.proofs.driving.drive.Given as goal

abbrev pub invariant-loop-status : goal.invariant-loop-status
invariant-loop-status g l =
    Reading
    g.D.Driver.rate
    (seen (g.D.Driver.view l.fn.driver) (g.K.Sink.view l.fn.sink))
    (seen (g.D.Driver.view l.driver) (g.K.Sink.view l.sink))
    (g.O.Source.view l.fn.source)
    (g.O.Source.view l.source)
    l.lines

abbrev pub decreases-loop-status : goal.decreases-loop-status
decreases-loop-status g l =
    (script_limit + length l.lines.rest - l.lines.taken)
    * (budget g.D.Driver.rate (seen (g.D.Driver.view l.fn.driver) (g.K.Sink.view l.fn.sink)) + 1)
    + (g.D.Driver.view l.driver).owed
