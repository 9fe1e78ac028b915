use Rattle.std.proofs.Common.{arith}
use Rattle.rss_line.proofs.Generated.{length-generated}
use Rattle.rss_line.proofs.generating.count_generated.Goals as goal

pub returns : goal.returns
returns c = λ number. omega (arith, c.lines_of_all.ensures.all number, length-generated number c.args.count)
