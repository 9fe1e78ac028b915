use Rattle.std.proofs.Common.{arith}
use Rattle.rss_line.proofs.Digits.{digits_stop, digits_end}
use Rattle.rss_line.proofs.decimal.number_of.Goals as goal

pub returns-in_err-number : goal.returns-in_err-number
returns-in_err-number c = rw c.from_residual.ensures (digits_stop c.loop-digit.invariant (omega arith) c.in_err-number.ensures)

pub returns : goal.returns
returns c = digits_end c.loop-digit.invariant c.loop-digit-test.false
