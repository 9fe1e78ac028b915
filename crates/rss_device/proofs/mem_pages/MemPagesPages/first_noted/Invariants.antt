use Rattle.std.proofs.Common.{ℕ, ◌≤◌, ◌<◌}
use Rattle.rss_base.specs.Notes.{MayDo}
use Rattle.rss_device.specs.MemPages.{placed_in, noted_in}
use Rattle.rss_device.proofs.mem_pages.MemPagesPages.first_noted.Given as goal

abbrev pub invariant-loop-number : goal.invariant-loop-number
invariant-loop-number l = record {
  later : l.from ≤ l.number;
  none : (k : ℕ) → l.from ≤ k → k < l.number → MayDo (placed_in l.self.places.items) (noted_in l.self.places.items) l.least l.segment l.space k → ⊥;
}
