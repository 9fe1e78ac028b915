-- A relation has fewer than 2 ^ 32 tuples, so that the sum doesn't wrap.
use Rattle.std.proofs.Common.{◌≤◌, Bool, true, false, ◌==◌, arith}
use mir.Val.{bool_byte}
use Rattle.rss_access.proofs.rooms.image_room.Goals as goal

one_more : (b : Bool) → bool_byte b ≤ 1
one_more true = omega arith
one_more false = omega arith

pub overflow_add-pairs : goal.overflow_add-pairs
overflow_add-pairs c = omega (arith, one_more (c.args.image.now.relation == c.args.number))

pub image_bound-requires-clause-pairs : goal.image_bound-requires-clause-pairs
image_bound-requires-clause-pairs c = omega (arith, one_more (c.args.image.now.relation == c.args.number))

pub returns-clause-small : goal.returns-clause-small
returns-clause-small c = omega (arith, one_more (c.args.image.now.relation == c.args.number), c.image_bound.ensures.small)
