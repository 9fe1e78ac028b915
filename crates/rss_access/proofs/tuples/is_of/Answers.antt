use Rattle.std.proofs.Common.{◌≡◌, true, arith}
use Rattle.std.specs.Prelude.{Some, slice_get}
use Rattle.std.proofs.lemmas.Grind.{common_steps}
use Rattle.rss_access.proofs.tuples.is_of.Goals as goal

pub returns : goal.returns
returns c =
    let there : c.eq.result ≡ true → slice_get c.args.body.now 0 ≡ Some c.args.number = grind (arith, common_steps) in
    let back : slice_get c.args.body.now 0 ≡ Some c.args.number → c.eq.result ≡ true = grind (arith, common_steps) in
    (there, back)
