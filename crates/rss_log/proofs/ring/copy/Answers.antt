use Rattle.std.proofs.Common.{refl, arith}
use Rattle.rss_log.proofs.RingWrites.{copy_once, copy_twice}
use Rattle.rss_log.proofs.ring.copy.Goals as goal

pub returns-then-size-room : goal.returns-then-size-room
returns-then-size-room c = copy_once c.args.ring.now c.args.into.now _ _ c.args.position c.place_of-at.result c.requires.some c.place_of-at.ensures (omega arith) refl c.put_at.ensures

pub returns-else-size-room : goal.returns-else-size-room
returns-else-size-room c = copy_twice c.args.ring.now c.args.into.now _ _ _ _ c.args.position c.place_of-at.result _ c.requires.some c.place_of-at.ensures refl (omega arith) c.requires.fits refl refl c.put_at-else-size-room.ensures c.put_at-else-size-room-2.ensures
