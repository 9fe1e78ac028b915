use Rattle.std.proofs.Common.{◌≡◌, ℕ, ◌≤◌, true}
use Rattle.std.specs.Prelude.{is_some}
use Rattle.rss_base.specs.Listings.{numbered, names_of}
use Rattle.rss_catalog.proofs.catalog.Catalog.first_unused.Given as goal

abbrev pub invariant-loop-place : goal.invariant-loop-place
invariant-loop-place l = (k : ℕ) → 1 ≤ k → k ≤ l.place → is_some (numbered (names_of l.kind l.self.listing) k) ≡ true
