use Rattle.std.proofs.Common.{◌≤◌, arith, ◌∙◌}
use Rattle.std.proofs.Math.Nat.{min-eq_left}
use Rattle.rss_access.proofs.Prefixed.{prefix_few}
use Rattle.rss_rsi.proofs.values.body_len.Goals as goal

pub returns-clause-is : goal.returns-clause-is
returns-clause-is c = λ fits.
    let few : c.prefix_len.result ≤ 288 = omega (arith, prefix_few fits c.args.number, c.prefix_len.ensures.is) in
    omega (arith, c.prefix_len.ensures.is, c.min-blocks.ensures ∙ min-eq_left few)
