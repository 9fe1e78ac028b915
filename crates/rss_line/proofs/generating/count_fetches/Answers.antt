use Rattle.std.proofs.Common.{arith}
use Rattle.std.proofs.lemmas.Bool.Decides.{nat_tests}
use Rattle.rss_line.proofs.Counts.{length-fetch}
use Rattle.rss_line.proofs.generating.count_fetches.Goals as goal

pub returns-then-employee-eq9 : goal.returns-then-employee-eq9
returns-then-employee-eq9 c = grind (arith, nat_tests, length-fetch c.args.employee)

pub returns-else-employee-eq9 : goal.returns-else-employee-eq9
returns-else-employee-eq9 c = grind (arith, nat_tests, length-fetch c.args.employee)
