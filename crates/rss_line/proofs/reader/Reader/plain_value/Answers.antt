use Rattle.rss_line.proofs.Combining.{word_found}
use Rattle.rss_line.proofs.ValueTexts.{plain_value_plain}
use Rattle.rss_line.proofs.reader.Reader.plain_value.Goals as goal

pub returns-clause-reads : goal.returns-clause-reads
returns-clause-reads c = word_found plain_value_plain c.read_plain_value.result c.ok_or.ensures.value c.bytes.ensures c.read_plain_value.ensures
