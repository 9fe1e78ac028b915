use Rattle.rss_line.proofs.Combining.{stops_word, then_word}
use Rattle.rss_line.proofs.reader.Reader.lock_relation.Goals as goal

pub returns-in_err-name-clause-reads : goal.returns-in_err-name-clause-reads
returns-in_err-name-clause-reads c = stops_word _ c.in_err-name.ensures.reads c.from_residual.ensures.1

pub returns-in_err-exclusive-clause-reads : goal.returns-in_err-exclusive-clause-reads
returns-in_err-exclusive-clause-reads c = then_word _ c.in_ok-name.ensures.reads
    (stops_word _ c.in_err-exclusive.ensures.reads c.from_residual-in_err-exclusive.ensures.1)

pub returns-clause-reads : goal.returns-clause-reads
returns-clause-reads c = then_word _ c.in_ok-name.ensures.reads
    (then_word _ c.in_ok-exclusive.ensures.reads
    (c.ended.ensures.reads))
