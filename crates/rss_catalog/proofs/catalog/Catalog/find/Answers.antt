use Rattle.std.proofs.Common.{arith}
use Rattle.rss_catalog.proofs.Numbered.{none_has}
use Rattle.rss_catalog.proofs.catalog.Catalog.find.Goals as goal

pub returns-clause-none : goal.returns-clause-none
returns-clause-none c = none_has _ c.args.name.now c.loop-place.place (omega arith) c.loop-place.invariant
