use Rattle.std.proofs.Common.{◌∙◌, ap, arith, sym, Some}
use Rattle.std.proofs.lemmas.Fmt.{decimal_injective}
use Rattle.rss_line.proofs.number.read_below.Goals as goal

pub returns-then-number-limit : goal.returns-then-number-limit
returns-then-number-limit c = record {
  some = (c.in_ok-number.ensures.some.0, c.if-number-limit.true);
  all = λ n is. ap Some (decimal_injective c.in_ok-number.number n (omega (arith, c.ranges.limit.fits)) (omega (arith, is.1, c.ranges.limit.fits)) (sym c.in_ok-number.ensures.some.0 ∙ is.0));
}

pub returns-else-number-limit : goal.returns-else-number-limit
returns-else-number-limit c = record {
  some = tt;
  all = λ n is.
      let same = decimal_injective c.in_ok-number.number n (omega arith) (omega (arith, is.1, c.ranges.limit.fits)) (sym c.in_ok-number.ensures.some.0 ∙ is.0) in
      absurd (omega (arith, same, is.1, c.if-number-limit.false));
}
