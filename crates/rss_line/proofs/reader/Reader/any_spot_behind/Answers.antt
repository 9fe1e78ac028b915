use Rattle.std.specs.Prelude.{codes}
use Rattle.rss_line.specs.Owners.{any_spots}
use Rattle.rss_line.proofs.Choosing.{reads_row, no_row, sole}
use Rattle.rss_line.proofs.reader.Reader.any_spot_behind.Goals as goal

pub returns-in-first-clause-reads : goal.returns-in-first-clause-reads
returns-in-first-clause-reads c = reads_row any_spots (codes "first") _ c.in-first.is (sole _ c.ended.ensures.reads)

pub returns-in-last-clause-reads : goal.returns-in-last-clause-reads
returns-in-last-clause-reads c = reads_row any_spots (codes "last") _ c.in-last.is (sole _ c.ended-in-last.ensures.reads)

pub returns-in-after-clause-reads : goal.returns-in-after-clause-reads
returns-in-after-clause-reads c = reads_row any_spots (codes "after") _ c.in-after.is (sole _ c.any_after.ensures.reads)

pub returns-in_default-clause-reads : goal.returns-in_default-clause-reads
returns-in_default-clause-reads c = no_row any_spots _ (c.in_default.not-first, (c.in_default.not-last, (c.in_default.not-after, tt)))
