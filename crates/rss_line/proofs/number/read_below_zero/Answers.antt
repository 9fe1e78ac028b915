use Rattle.std.proofs.Common.{◌^◌, Some, subst}
use Rattle.rss_line.specs.Reads.{ReadsAs, IsBelow}
use Rattle.rss_line.proofs.Ints.{below_missing, below_none, below_read}
use Rattle.rss_line.proofs.number.read_below_zero.Goals as goal

pub returns-in_err-size : goal.returns-in_err-size
returns-in_err-size c = rw c.from_residual.ensures (below_missing c.args.digits.now c.in_err-size.ensures)

pub returns-then-size-eq0 : goal.returns-then-size-eq0
returns-then-size-eq0 c = below_none c.args.digits.now (subst (λ n. ReadsAs (IsBelow (2 ^ 64) c.args.digits.now) (Some n)) c.if-size-eq0.true c.in_ok-size.ensures)

pub returns-else-size-eq0 : goal.returns-else-size-eq0
returns-else-size-eq0 c = below_read c.args.digits.now c.in_ok-size.size c.checked_sub_unsigned.result c.in_ok-size.ensures c.if-size-eq0.false c.checked_sub_unsigned.ensures
