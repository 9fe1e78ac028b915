use Rattle.std.proofs.Common.{◌≡◌, ℕ, ◌≤◌, Some}
use Rattle.rss_base.specs.Listings.{numbered, names_of}
use Rattle.rss_catalog.proofs.catalog.Catalog.find.Given as goal

abbrev pub invariant-loop-place : goal.invariant-loop-place
invariant-loop-place l = (k : ℕ) → 1 ≤ k → k ≤ l.place → numbered (names_of l.kind l.self.listing) k ≡ Some l.name → ⊥
