use Rattle.std.proofs.Common.{ℕ, ◌≤◌, ◌<◌, length}
use Rattle.rss_base.specs.Paged.{IsUnmappedAt}
use Rattle.rss_device.specs.MemPages.{placed_in}
use Rattle.rss_device.proofs.mem_pages.MemPagesPages.first_unmapped.Given as goal

abbrev pub invariant-loop-number : goal.invariant-loop-number
invariant-loop-number l = record {
  later : l.from ≤ l.number;
  none : (k : ℕ) → l.from ≤ k → k < l.number → IsUnmappedAt (length l.self.places.items) (placed_in l.self.places.items) l.segment l.space k → ⊥;
}
