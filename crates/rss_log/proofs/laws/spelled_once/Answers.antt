use Rattle.rss_record.proofs.Parsing.{parses_once}
use Rattle.rss_log.proofs.laws.spelled_once.Goals as goal

pub returns : goal.returns
returns c = λ bytes from until until_too ps qs first second. parses_once first second
