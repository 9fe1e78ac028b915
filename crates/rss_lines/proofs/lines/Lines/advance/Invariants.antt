use Rattle.std.proofs.Common.{◌-◌}
use Rattle.rss_lines.proofs.Seeking.{Seeking}
use Rattle.rss_lines.proofs.lines.Lines.advance.Given as goal

abbrev pub invariant-loop-self : goal.invariant-loop-self
invariant-loop-self g l = Seeking l.fn.self l.self (g.O.Source.view l.fn.source) (g.O.Source.view l.source)

abbrev pub decreases-loop-self : goal.decreases-loop-self
decreases-loop-self g l = 1073741824 - l.self.taken
