use Rattle.rss_line.proofs.Combining.{word_missing, word_found}
use Rattle.rss_line.proofs.Plain.{tid_in_plain}
use Rattle.rss_line.proofs.reader.Reader.tid.Goals as goal

pub returns-in_err-word-clause-reads : goal.returns-in_err-word-clause-reads
returns-in_err-word-clause-reads c = word_missing (tid_in_plain c.args.names.now.variables) c.from_residual.result c.in_err-word.ensures.reads c.from_residual.ensures.1

pub returns-clause-reads : goal.returns-clause-reads
returns-clause-reads c = word_found (tid_in_plain c.args.names.now.variables) c.read_tid_in.result c.ok_or.ensures.value c.in_ok-word.ensures.reads c.read_tid_in.ensures
