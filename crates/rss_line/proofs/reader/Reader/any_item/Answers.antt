use Rattle.std.proofs.Common.{refl}
use Rattle.std.specs.Prelude.{codes}
use Rattle.rss_line.specs.Owners.{any_locks}
use Rattle.rss_line.proofs.Choosing.{no_first, with_first, reads_row, no_row, sole}
use Rattle.rss_line.proofs.reader.Reader.any_item.Goals as goal

pub returns-in_err-word-clause-reads : goal.returns-in_err-word-clause-reads
returns-in_err-word-clause-reads c = no_first any_locks refl _ c.in_err-word.ensures.reads c.from_residual.ensures.1

pub returns-in-segment-clause-reads : goal.returns-in-segment-clause-reads
returns-in-segment-clause-reads c = with_first any_locks refl _ c.in_ok-word.ensures.reads
    (reads_row any_locks (codes "segment") _ c.in-segment.is (sole _ c.any_lock.ensures.reads))

pub returns-in-relation-clause-reads : goal.returns-in-relation-clause-reads
returns-in-relation-clause-reads c = with_first any_locks refl _ c.in_ok-word.ensures.reads
    (reads_row any_locks (codes "relation") _ c.in-relation.is (sole _ c.any_lock-in-relation.ensures.reads))

pub returns-in_default-clause-reads : goal.returns-in_default-clause-reads
returns-in_default-clause-reads c = with_first any_locks refl _ c.in_ok-word.ensures.reads
    (no_row any_locks _ (c.in_default.not-segment, (c.in_default.not-relation, tt)))
