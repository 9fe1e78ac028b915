use Rattle.std.proofs.Common.{ℕ, ◌<◌}
use Rattle.rss_page.specs.Slotted.{entries}
use Rattle.rss_tuple.specs.Directory.{tid_at}
use Rattle.rss_tuple.specs.Placing.{IsOpen}
use Rattle.rss_tuple.proofs.finding.first_open.Given as goal

abbrev pub invariant-loop-slot : goal.invariant-loop-slot
invariant-loop-slot l = (slot : ℕ) → slot < l.slot → IsOpen (entries l.page) l.barred (tid_at l.number slot) → ⊥
