use Rattle.std.proofs.Common.{refl}
use Rattle.std.specs.Prelude.{codes}
use Rattle.rss_model.specs.Forms.{locks}
use Rattle.rss_line.proofs.Combining.{stops_word, then_word}
use Rattle.rss_line.proofs.Choosing.{no_first, with_first, reads_row, no_row, sole}
use Rattle.rss_line.proofs.reader.Reader.lock.Goals as goal

pub returns-in_err-transaction-clause-reads : goal.returns-in_err-transaction-clause-reads
returns-in_err-transaction-clause-reads c = stops_word _ c.in_err-transaction.ensures.reads c.from_residual.ensures.1

pub returns-in_err-word-clause-reads : goal.returns-in_err-word-clause-reads
returns-in_err-word-clause-reads c = then_word _ c.in_ok-transaction.ensures.reads
    (no_first (locks c.in_ok-transaction.transaction) refl _ c.in_err-word.ensures.reads c.from_residual-in_err-word.ensures.1)

pub returns-in-segment-clause-reads : goal.returns-in-segment-clause-reads
returns-in-segment-clause-reads c = then_word _ c.in_ok-transaction.ensures.reads
    (with_first (locks c.in_ok-transaction.transaction) refl _ c.in_ok-word.ensures.reads
    (reads_row (locks c.in_ok-transaction.transaction) (codes "segment") _ c.in-segment.is (sole _ c.lock_segment.ensures.reads)))

pub returns-in-relation-clause-reads : goal.returns-in-relation-clause-reads
returns-in-relation-clause-reads c = then_word _ c.in_ok-transaction.ensures.reads
    (with_first (locks c.in_ok-transaction.transaction) refl _ c.in_ok-word.ensures.reads
    (reads_row (locks c.in_ok-transaction.transaction) (codes "relation") _ c.in-relation.is (sole _ c.lock_relation.ensures.reads)))

pub returns-in_default-clause-reads : goal.returns-in_default-clause-reads
returns-in_default-clause-reads c = then_word _ c.in_ok-transaction.ensures.reads
    (with_first (locks c.in_ok-transaction.transaction) refl _ c.in_ok-word.ensures.reads
    (no_row (locks c.in_ok-transaction.transaction) _ (c.in_default.not-segment, (c.in_default.not-relation, tt))))
