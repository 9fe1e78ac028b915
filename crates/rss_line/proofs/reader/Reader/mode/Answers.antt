use Rattle.rss_line.proofs.Combining.{word_missing, word_found}
use Rattle.rss_line.proofs.Plain.{mode_plain}
use Rattle.rss_line.proofs.reader.Reader.mode.Goals as goal

pub returns-in_err-word-clause-reads : goal.returns-in_err-word-clause-reads
returns-in_err-word-clause-reads c = word_missing mode_plain c.from_residual.result c.in_err-word.ensures.reads c.from_residual.ensures.1

pub returns-clause-reads : goal.returns-clause-reads
returns-clause-reads c = word_found mode_plain c.read_mode.result c.ok_or.ensures.value c.in_ok-word.ensures.reads c.read_mode.ensures
