use Rattle.std.proofs.Common.{◌*◌, rules, arith}
use Rattle.rss_pagemap.proofs.Written.{entries_put}
use Rattle.rss_pagemap.proofs.table.SlotTable.fill_page.Goals as goal

pub loop-place-preserved : goal.loop-place-preserved
loop-place-preserved c = record {
  long = search rules;
  entries = entries_put _ (512 * c.args.at) _ (c.loop-place.place * 8) _ _ _ (omega arith) c.loop-place.invariant.long c.loop-place.invariant.entries (omega arith) (search rules) c.put_bytes.ensures;
}
