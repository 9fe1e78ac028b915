use Rattle.rss_line.proofs.Meanings.{tid_by}
use Rattle.rss_line.proofs.number.read_tid_in.Goals as goal

pub returns-in-Some : goal.returns-in-Some
returns-in-Some c = tid_by c.args.names.now.variables c.args.word.now c.in-Some.variable c.in-Some.ensures.some c.tid.result c.tid.ensures
