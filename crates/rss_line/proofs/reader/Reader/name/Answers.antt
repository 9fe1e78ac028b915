use Rattle.rss_line.proofs.Combining.{word_found}
use Rattle.rss_line.proofs.Plain.{name_plain}
use Rattle.rss_line.proofs.reader.Reader.name.Goals as goal

pub returns-clause-reads : goal.returns-clause-reads
returns-clause-reads c = word_found name_plain c.read_name.result c.ok_or.ensures.value c.bytes.ensures c.read_name.ensures
