-- There are no more pages than pairs, but for two.
use Rattle.std.proofs.Common.{◌-◌, ◌/◌, arith}
use Rattle.std.proofs.Math.Nat.{div-le_self}
use Rattle.rss_access.proofs.rooms.image_bound.Goals as goal

pub returns-clause-small : goal.returns-clause-small
returns-clause-small c = omega (arith, div-le_self c.args.pairs (c.node_most.result / 2 - 1))
