use Rattle.std.proofs.Common.{ℕ, ◌-◌, ◌<◌, ◌≤◌, get_or}
use Rattle.rss_check.specs.Checks.{IsCountOf}
use Rattle.rss_check.proofs.checking.look_at_segment.Given as goal

abbrev pub invariant-loop-number : goal.invariant-loop-number
invariant-loop-number g l = (number : ℕ) → 1 ≤ number → number < l.number → IsCountOf l.catalog.listing l.segment number (get_or l.census.live (number - 1) 0)
