-- The room that images need, where one pair more may come, is within what a listing bounds.
use Rattle.std.proofs.Common.{◌≡◌, ℕ, ◌+◌, ◌≤◌, refl, arith}
use Rattle.std.specs.Prelude.{Option, Some, None, if◌then◌else◌, ◌==◌}
use Rattle.std.proofs.lemmas.List.Sums.{sum_by-le-sum_by}
use Rattle.rss_base.specs.Listings.{Listing, relation_at}
use Rattle.rss_base.specs.declared.image.ImageEntry.{ImageEntry}
use Rattle.rss_base.specs.declared.relation.RelationEntry.{RelationEntry}
use Rattle.rss_model.specs.Spares.{bound_by, bound_at, listed_bound}
use Rattle.rss_model.proofs.Saving.{more_bound}
use Rattle.rss_entries.specs.Rooms.{width_of, room_of, image_room, images_room}

pub room_within : (listing : Listing) (number : ℕ) (most : ℕ → ℕ) → ((n : ℕ) (relation : RelationEntry) → relation_at listing n ≡ Some relation → (if n == number then relation.live + 1 else relation.live) ≤ most n) → images_room listing number ≤ listed_bound listing most
room_within listing number most few = sum_by-le-sum_by (image_room listing number) (bound_at listing most) listing.images one
  where
    one : (found : Option ImageEntry) → image_room listing number found ≤ bound_at listing most found
    one None = omega arith
    one (Some image) = by (relation_at listing image.relation) refl
      where
        by : (found : Option RelationEntry) → relation_at listing image.relation ≡ found → room_of number image found ≤ bound_by most image found
        by None is = omega arith
        by (Some relation) is = more_bound (width_of image relation) (if image.relation == number then relation.live + 1 else relation.live) (most image.relation) (few image.relation relation is)
