use Rattle.std.proofs.Common.{◌≡◌, ◌+◌, arith}
use Rattle.rss_line.proofs.Generated.{none_before}
use Rattle.rss_line.proofs.generating.employee_at.Goals as goal

pub halves-init : goal.halves-init
halves-init c = record {
  apart = omega arith;
  within = omega arith;
  begun = λ number. omega (arith, none_before number c.args.count);
  ends = λ number low. low;
}

pub returns-clause-ends : goal.returns-clause-ends
returns-clause-ends c = λ number low.
    let next : c.halves.end ≡ c.halves.employee + 1 = omega arith in
    rw next at (c.halves.invariant.ends number low)
