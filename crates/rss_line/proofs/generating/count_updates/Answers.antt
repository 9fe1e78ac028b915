use Rattle.std.proofs.Common.{arith}
use Rattle.std.proofs.lemmas.Bool.Decides.{nat_tests}
use Rattle.rss_line.proofs.Counts.{length-update}
use Rattle.rss_line.proofs.generating.count_updates.Goals as goal

pub returns-then-employee-eq0 : goal.returns-then-employee-eq0
returns-then-employee-eq0 c = λ state. grind (arith, nat_tests, length-update c.args.employee state)

pub returns-else-employee-eq0 : goal.returns-else-employee-eq0
returns-else-employee-eq0 c = λ state. grind (arith, nat_tests, length-update c.args.employee state)
