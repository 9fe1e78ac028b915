-- The relations before this one are in few links.
use Rattle.std.proofs.Common.{ℕ, ◌+◌, ◌<◌, ◌≤◌}
use Rattle.std.specs.Prelude.{count_by}
use Rattle.rss_base.specs.Listings.{has_role}
use Rattle.rss_catalog.proofs.checking.have_few_roles.Given as goal

abbrev pub invariant-loop-place : goal.invariant-loop-place
invariant-loop-place l = (k : ℕ) → k < l.place → count_by (has_role (k + 1)) l.links ≤ 16
