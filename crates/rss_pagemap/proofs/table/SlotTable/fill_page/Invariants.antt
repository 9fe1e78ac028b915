use Rattle.std.proofs.Common.{◌≡◌, ◌*◌, length}
use Rattle.rss_pagemap.specs.Spelling.{HasEntries}
use Rattle.rss_pagemap.proofs.table.SlotTable.fill_page.Given as goal

abbrev pub invariant-loop-place : goal.invariant-loop-place
invariant-loop-place l = record {
  long : length l.page ≡ 4096;
  entries : HasEntries l.self (512 * l.at) l.place l.page;
}
