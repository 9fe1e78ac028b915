use Rattle.std.proofs.Common.{drop}
use Rattle.rss_line.proofs.Digits.{Digits}
use Rattle.rss_line.proofs.decimal.number_of.Given as goal

abbrev pub invariant-loop-digit : goal.invariant-loop-digit
invariant-loop-digit l = Digits l.digits (drop l.digit-index l.digits) l.number
