-- The links before this one are early.
use Rattle.std.proofs.Common.{◌≡◌, ℕ, ◌<◌, get_or, Some, None, false}
use Rattle.rss_base.specs.declared.link.LinkEntry.{LinkEntry}
use Rattle.rss_catalog.proofs.checking.are_all_early.Given as goal

abbrev pub invariant-loop-link : goal.invariant-loop-link
invariant-loop-link l = (k : ℕ) (link : LinkEntry) → k < l.link-index → get_or l.links k None ≡ Some link → link.late ≡ false
