use Rattle.std.proofs.Common.{rules}
use Rattle.rss_top.proofs.Openings.{damage_refused, damage_told}
use Rattle.rss_top.proofs.script.run_store.Goals as goal

pub returns-in-Damaged-clause-runs : goal.returns-in-Damaged-clause-runs
returns-in-Damaged-clause-runs g c = damage_refused (g.D.Driver.view c.drive.new.driver) c.in-Damaged.ensures (search rules)

pub returns-in-Damaged-clause-tells : goal.returns-in-Damaged-clause-tells
returns-in-Damaged-clause-tells g c = damage_told (g.D.Driver.view c.drive.new.driver) c.in-Damaged.ensures (search rules)
