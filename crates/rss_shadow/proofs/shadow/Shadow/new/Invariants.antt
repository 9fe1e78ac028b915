use Rattle.rss_shadow.proofs.Filled.{AreFilled}
use Rattle.rss_shadow.proofs.shadow.Shadow.new.Given as goal

abbrev pub invariant-loop-slot : goal.invariant-loop-slot
invariant-loop-slot l = AreFilled l.slots l.owner-items l.slot l.index l.used l.pages l.heap l.images
