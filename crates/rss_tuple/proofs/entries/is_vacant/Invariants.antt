use Rattle.std.proofs.Common.{◌≡◌, ℕ, ◌<◌}
use Rattle.rss_page.specs.Content.{Empty}
use Rattle.rss_page.specs.Slotted.{entries}
use Rattle.rss_page.specs.Surveyed.{held_at}
use Rattle.rss_tuple.proofs.entries.is_vacant.Given as goal

abbrev pub invariant-loop-slot : goal.invariant-loop-slot
invariant-loop-slot l = (slot : ℕ) → slot < l.slot → held_at (entries l.page) slot ≡ Empty
