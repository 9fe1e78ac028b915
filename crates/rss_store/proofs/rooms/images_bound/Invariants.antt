-- The sum so far is that over the images up to the last one looked at.
use Rattle.std.proofs.Common.{◌≡◌, ◌≤◌, ◌*◌, ◌+◌, ◌^◌, take}
use Rattle.std.specs.Prelude.{sum_by}
use Rattle.rss_model.specs.Spares.{bound_at, live_of}
use Rattle.rss_store.proofs.rooms.images_bound.Given as goal

abbrev pub invariant-loop-place : goal.invariant-loop-place
invariant-loop-place l = record {
  sum : l.bound ≡ sum_by (bound_at l.catalog.listing (live_of l.catalog.listing)) (take l.place l.catalog.listing.images);
  small : l.bound ≤ l.place * (2 ^ 32 + 2);
}
