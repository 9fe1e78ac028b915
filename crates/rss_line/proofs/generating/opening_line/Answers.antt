use Rattle.std.proofs.Common.{refl, arith}
use Rattle.rss_model.specs.Generator.{opening_lines}
use Rattle.rss_line.proofs.Parts.{made}
use Rattle.rss_line.proofs.Generated.{opening_department}
use Rattle.rss_line.proofs.generating.opening_line.Goals as goal

pub returns-in-0 : goal.returns-in-0
unfolding opening_lines
returns-in-0 c = rw c.in-0.is (made c.text.result refl c.text.ensures)

pub returns-in-1 : goal.returns-in-1
unfolding opening_lines
returns-in-1 c = rw c.in-1.is (made c.text-in-1.result refl c.text-in-1.ensures)

pub returns-in-2 : goal.returns-in-2
unfolding opening_lines
returns-in-2 c = rw c.in-2.is (made c.text-in-2.result refl c.text-in-2.ensures)

pub returns-in-3 : goal.returns-in-3
unfolding opening_lines
returns-in-3 c = rw c.in-3.is (made c.text-in-3.result refl c.text-in-3.ensures)

pub returns-in-4 : goal.returns-in-4
unfolding opening_lines
returns-in-4 c = rw c.in-4.is (made c.text-in-4.result refl c.text-in-4.ensures)

pub returns-in-5 : goal.returns-in-5
unfolding opening_lines
returns-in-5 c = rw c.in-5.is (made c.text-in-5.result refl c.text-in-5.ensures)

pub returns-in-6 : goal.returns-in-6
unfolding opening_lines
returns-in-6 c = rw c.in-6.is (made c.text-in-6.result refl c.text-in-6.ensures)

pub returns-in-7 : goal.returns-in-7
unfolding opening_lines
returns-in-7 c = rw c.in-7.is (made c.text-in-7.result refl c.text-in-7.ensures)

pub returns-in-18 : goal.returns-in-18
unfolding opening_lines
returns-in-18 c = rw c.in-18.is (made c.text-in-18.result refl c.text-in-18.ensures)

pub returns-in_default : goal.returns-in_default
returns-in_default c = made c.department_line.result (opening_department c.args.line (omega arith) (omega arith)) c.department_line.ensures
