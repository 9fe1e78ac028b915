use Rattle.std.proofs.Common.{arith}
use Rattle.std.proofs.lemmas.Bool.{le-leb, leb-true}
use Rattle.rss_store.proofs.store.DurableStore.has_room.Goals as goal

pub returns-then-room-from : goal.returns-then-room-from
returns-then-room-from g c = (
  λ few. record {
    slots = omega (arith, c.if-room-from.true);
    images = omega (arith, leb-true c.from-then-room-from.result c.images_bound-images.result few);
  },
  λ is. le-leb c.from-then-room-from.result c.images_bound-images.result (omega (arith, is.images)),
)
