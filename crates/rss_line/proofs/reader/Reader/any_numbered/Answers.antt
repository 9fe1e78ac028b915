use Rattle.rss_line.proofs.Combining.{stops_word, then_word}
use Rattle.rss_line.proofs.reader.Reader.any_numbered.Goals as goal

pub returns-in_err-any_number-clause-reads : goal.returns-in_err-any_number-clause-reads
returns-in_err-any_number-clause-reads c = stops_word _ c.in_err-any_number.ensures.reads c.from_residual.ensures.1

pub returns-clause-reads : goal.returns-clause-reads
returns-clause-reads c = then_word _ c.in_ok-any_number.ensures.reads c.ended.ensures.reads
