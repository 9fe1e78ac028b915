use Rattle.rss_page.proofs.Claimed.{AreSlotted}
use Rattle.rss_page.proofs.form.is_slotted.Given as goal

abbrev pub invariant-loop-slot : goal.invariant-loop-slot
invariant-loop-slot l = AreSlotted l.page l.slot l.marks
