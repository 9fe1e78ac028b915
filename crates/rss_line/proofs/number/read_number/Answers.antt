use Rattle.std.proofs.Common.{List, ℕ, ◌^◌, subst}
use Rattle.rss_line.specs.Reads.{ReadsAs, IsBelow}
use Rattle.rss_line.proofs.Digits.{number_some, number_none}
use Rattle.rss_line.proofs.number.read_number.Goals as goal

pub returns-clause-some : goal.returns-clause-some
returns-clause-some c = number_some c.args.word.now c.read_decimal.result (subst (λ (w : List ℕ). ReadsAs (IsBelow (2 ^ 64) w) c.read_decimal.result) c.as_bytes.ensures.value c.read_decimal.ensures)

pub returns-clause-none : goal.returns-clause-none
returns-clause-none c = number_none c.args.word.now c.read_decimal.result (subst (λ (w : List ℕ). ReadsAs (IsBelow (2 ^ 64) w) c.read_decimal.result) c.as_bytes.ensures.value c.read_decimal.ensures)
