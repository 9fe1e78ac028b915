-- Each turn adds the room of the image at its number, or nothing where none has it; behind the last image none has one.
use Rattle.std.proofs.Common.{refl, sym, ◌∙◌, ap, arith}
use Rattle.rss_entries.specs.Rooms.{image_room, room_of}
use Rattle.rss_access.proofs.ImageRooms.{image_added, image_passed, sum_whole}
use Rattle.rss_access.proofs.rooms.images_room.Goals as goal
use Rattle.rss_access.proofs.rooms.images_room.Goals.{then-used, else-used}

pub loop-place-preserved : goal.loop-place-preserved
loop-place-preserved c = elim c.if-used.branch [
  | then-used w ↦ record {
    sum = image_added (image_room c.args.catalog.now.listing c.args.number) refl c.args.catalog.now.listing c.loop-place.place c.loop-place.room c.loop-place.invariant.sum w.image-image.ensures.is
        (w.image_room-room.ensures.is ∙ ap (room_of c.args.number w.image-image.result.now) (sym w.relation.ensures.is)) w.room-is;
    small = omega (arith, w.image_room-room.ensures.small, w.room-is, c.loop-place.invariant.small);
  }
  | else-used w ↦ record {
    sum = image_passed (image_room c.args.catalog.now.listing c.args.number) refl c.args.catalog.now.listing c.loop-place.place c.loop-place.room c.loop-place.invariant.sum
        (sym c.used.ensures ∙ w.if-used.false) w.room-is;
    small = omega (arith, w.room-is, c.loop-place.invariant.small);
  }
]

pub returns-clause-is : goal.returns-clause-is
returns-clause-is c = c.loop-place.invariant.sum ∙ sum_whole (image_room c.args.catalog.now.listing c.args.number) refl c.args.catalog.now.listing.images c.loop-place.place (λ number behind. c.last_image-place-end.ensures.none number (omega (arith, behind)))
