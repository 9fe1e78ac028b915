use Rattle.rss_line.proofs.Combining.{word_found}
use Rattle.rss_line.proofs.Plain.{transaction_plain}
use Rattle.rss_line.proofs.reader.Reader.transaction.Goals as goal

pub returns-clause-reads : goal.returns-clause-reads
returns-clause-reads c = word_found transaction_plain c.read_transaction.result c.ok_or.ensures.value c.bytes.ensures c.read_transaction.ensures
