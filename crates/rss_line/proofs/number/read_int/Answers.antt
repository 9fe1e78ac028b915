use Rattle.std.proofs.Common.{sym, subst, List, ℕ}
use Rattle.rss_line.specs.Reads.{ReadsAs, IsInt}
use Rattle.rss_line.proofs.Ints.{from_zero}
use Rattle.rss_line.proofs.number.read_int.Goals as goal

pub returns-in-Some : goal.returns-in-Some
returns-in-Some c = subst (λ (w : List ℕ). ReadsAs (IsInt w) c.read_below_zero.result) (sym c.in-Some.ensures) c.read_below_zero.ensures

pub returns-in-None : goal.returns-in-None
returns-in-None c = from_zero c.args.word.now c.read_from_zero.result c.in-None.ensures c.read_from_zero.ensures
