use Rattle.rss_line.proofs.Combining.{word_missing, word_found}
use Rattle.rss_line.proofs.Skipped.{any_tid_plain}
use Rattle.rss_line.proofs.reader.Reader.any_tid.Goals as goal

pub returns-in_err-word-clause-reads : goal.returns-in_err-word-clause-reads
returns-in_err-word-clause-reads c = word_missing any_tid_plain c.from_residual.result c.in_err-word.ensures.reads c.from_residual.ensures.1

pub returns-clause-reads : goal.returns-clause-reads
returns-clause-reads c = word_found any_tid_plain c.skip_tid.result c.ok_or.ensures.value c.in_ok-word.ensures.reads c.skip_tid.ensures
