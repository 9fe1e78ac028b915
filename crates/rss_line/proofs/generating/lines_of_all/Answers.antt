use Rattle.std.proofs.Common.{arith}
use Rattle.rss_line.proofs.Counts.{length-all}
use Rattle.rss_line.proofs.generating.lines_of_all.Goals as goal

pub returns-clause-all : goal.returns-clause-all
returns-clause-all c = λ number. omega (arith, length-all number c.args.count c.requires)
