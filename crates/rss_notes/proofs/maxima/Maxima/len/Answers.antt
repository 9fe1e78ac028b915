use Rattle.std.proofs.Common.{arith}
use Rattle.rss_notes.proofs.Trees.{numbers_long}
use Rattle.rss_notes.proofs.maxima.Maxima.len.Goals as goal

pub returns-clause-count : goal.returns-clause-count
returns-clause-count c = omega (arith, c.len.ensures, numbers_long _ _ c.self.invariant.least c.self.view_is)
