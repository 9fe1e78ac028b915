use Rattle.rss_line.proofs.Combining.{stops_word, then_word}
use Rattle.rss_line.proofs.reader.Reader.any_connect.Goals as goal

pub returns-in_err-_name-clause-reads : goal.returns-in_err-_name-clause-reads
returns-in_err-_name-clause-reads c = stops_word _ c.in_err-_name.ensures.reads c.from_residual.ensures.1

pub returns-in_err-any_tid-clause-reads : goal.returns-in_err-any_tid-clause-reads
returns-in_err-any_tid-clause-reads c = then_word _ c.in_ok-_name.ensures.reads (stops_word _ c.in_err-any_tid.ensures.reads c.from_residual-in_err-any_tid.ensures.1)

pub returns-clause-reads : goal.returns-clause-reads
returns-clause-reads c = then_word _ c.in_ok-_name.ensures.reads (then_word _ c.in_ok-any_tid.ensures.reads c.any_place.ensures.reads)
