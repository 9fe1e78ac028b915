use Rattle.std.proofs.Common.{arith}
use Rattle.rss_image.specs.Fitting.{IsFineEntry}
use Rattle.rss_image.proofs.Tested.{each_of_places}
use Rattle.rss_image.proofs.fitting.are_fine.Goals as goal

pub returns-clause-yes : goal.returns-clause-yes
returns-clause-yes c = λ yes. each_of_places (IsFineEntry c.args.node.now.width c.args.slots c.args.level) c.args.node.now.entries (λ k low. c.loop-at.invariant k (omega (arith, low, c.loop-at-test.false, c.count-at-end.ensures.count)))
