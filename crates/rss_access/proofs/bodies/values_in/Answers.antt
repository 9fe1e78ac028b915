-- What stands behind the blocks, where the body begins with the relation's number and they fit in.
use Rattle.rss_access.proofs.Bodied.{part_holds}
use Rattle.rss_access.proofs.bodies.values_in.Goals as goal

pub returns-clause-some : goal.returns-clause-some
returns-clause-some c = part_holds c.args.catalog.now.listing c.get.result c.in_ok-first.ensures.cases.0 c.if-first-number.false c.prefix_len.ensures.is c.get.ensures.lookup
