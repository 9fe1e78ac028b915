use Rattle.rss_line.proofs.Meanings.{number_by}
use Rattle.rss_line.proofs.number.read_number_in.Goals as goal

pub returns-in-Some : goal.returns-in-Some
returns-in-Some c = number_by c.args.names.now.variables c.args.word.now c.in-Some.variable c.in-Some.ensures.some c.number.result c.number.ensures
