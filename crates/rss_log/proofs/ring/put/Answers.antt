use Rattle.std.proofs.Common.{refl, arith}
use Rattle.rss_log.proofs.RingWrites.{put_once, put_twice}
use Rattle.rss_log.proofs.ring.put.Goals as goal

pub returns-then-bytes-room : goal.returns-then-bytes-room
returns-then-bytes-room c = put_once c.args.position c.place_of-at.result c.args.bytes.now c.args.ring.now _ c.requires.some c.place_of-at.ensures (omega arith) c.put_at.ensures

pub returns-else-bytes-room : goal.returns-else-bytes-room
returns-else-bytes-room c = put_twice c.args.position c.place_of-at.result _ c.args.bytes.now c.args.ring.now _ _ c.requires.some c.place_of-at.ensures refl (omega arith) c.requires.fits c.put_at-else-bytes-room.ensures c.put_at-else-bytes-room-2.ensures
