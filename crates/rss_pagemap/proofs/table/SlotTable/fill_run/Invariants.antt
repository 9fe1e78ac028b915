use Rattle.rss_pagemap.specs.Spelling.{HasPages}
use Rattle.rss_pagemap.proofs.table.SlotTable.fill_run.Given as goal

abbrev pub invariant-loop-place : goal.invariant-loop-place
invariant-loop-place l = HasPages l.self l.at l.place l.run
