use Rattle.std.proofs.Common.{arith}
use Rattle.std.proofs.lemmas.Bool.Decides.{nat_tests}
use Rattle.rss_line.proofs.Counts.{length-begin}
use Rattle.rss_line.proofs.generating.count_begins.Goals as goal

pub returns-then-employee-eq0 : goal.returns-then-employee-eq0
returns-then-employee-eq0 c = grind (arith, nat_tests, length-begin c.args.employee)

pub returns-else-employee-eq0 : goal.returns-else-employee-eq0
returns-else-employee-eq0 c = grind (arith, nat_tests, length-begin c.args.employee)
