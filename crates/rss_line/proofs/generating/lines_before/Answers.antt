use Rattle.std.proofs.Common.{arith}
use Rattle.rss_line.proofs.Counts.{length-first}
use Rattle.rss_line.proofs.generating.lines_before.Goals as goal

pub returns : goal.returns
returns c = λ number count low. omega (arith, length-first number count c.args.employee low)
