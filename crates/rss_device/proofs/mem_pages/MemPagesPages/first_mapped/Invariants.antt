use Rattle.std.proofs.Common.{ℕ, ◌≤◌, ◌<◌}
use Rattle.rss_base.specs.Paged.{IsMappedAt}
use Rattle.rss_device.specs.MemPages.{placed_in}
use Rattle.rss_device.proofs.mem_pages.MemPagesPages.first_mapped.Given as goal

abbrev pub invariant-loop-number : goal.invariant-loop-number
invariant-loop-number l = record {
  later : l.from ≤ l.number;
  none : (k : ℕ) → l.from ≤ k → k < l.number → IsMappedAt (placed_in l.self.places.items) l.segment l.space k → ⊥;
}
