-- The sum so far is that over the images up to the last one looked at.
use Rattle.std.proofs.Common.{◌≡◌, ◌≤◌, ◌*◌, ◌+◌, ◌^◌, take}
use Rattle.std.specs.Prelude.{sum_by}
use Rattle.rss_entries.specs.Rooms.{image_room}
use Rattle.rss_access.proofs.rooms.images_room.Given as goal

abbrev pub invariant-loop-place : goal.invariant-loop-place
invariant-loop-place l = record {
  sum : l.room ≡ sum_by (image_room l.catalog.listing l.number) (take l.place l.catalog.listing.images);
  small : l.room ≤ l.place * (2 ^ 32 + 2);
}
