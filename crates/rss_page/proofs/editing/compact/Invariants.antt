use Rattle.rss_page.proofs.Moves.{AreMoved}
use Rattle.rss_page.proofs.editing.compact.Given as goal

abbrev pub invariant-loop-slot : goal.invariant-loop-slot
invariant-loop-slot l = AreMoved l.from l.page l.slot l.end
