use Rattle.std.proofs.Common.{◌≡◌, ap, arith}
use Rattle.std.proofs.lemmas.Bool.{le-leb, leb-true}
use Rattle.rss_trans.specs.declared.sums.Sums.{Sums}
use Rattle.rss_session.specs.Parts.{view}
use Rattle.rss_session.specs.Weighing.{saved_room}
use Rattle.rss_session.proofs.session.Session.has_saved_room.Goals as goal

pub returns-then-room-from : goal.returns-then-room-from
returns-then-room-from g c =
    let room : c.room_of-room.result ≡ saved_room (view g.S.Pages.view c.args.self.now) = omega (arith, c.room_of-room.ensures, c.images_bound-images.ensures.is, c.from.ensures, c.heap.ensures, ap (λ (s : Sums). s.p) c.sums.ensures) in (
      λ few. record {
        slots = omega (arith, room, c.if-room-from.true, c.from-2.ensures, c.slots.ensures);
        images = omega (arith, leb-true c.from-then-room-from.result c.images_bound-images.result few, c.from-then-room-from.ensures, c.image_pages.ensures, c.images_bound-images.ensures.is);
      },
      λ is. le-leb c.from-then-room-from.result c.images_bound-images.result (omega (arith, is.images, c.from-then-room-from.ensures, c.image_pages.ensures, c.images_bound-images.ensures.is)),
    )
