use Rattle.rss_pagemap.proofs.Owners.{table_set}
use Rattle.rss_pagemap.proofs.table.SlotTable.set.Goals as goal

pub invariant_of-self : goal.invariant_of-self
invariant_of-self c = rw c.self.view_is (table_set c.args.self.now c.args.slot c.args.owner (rw (← c.self.view_is) c.self.invariant) c.requires.within c.requires.allowed c.requires.alone)
