use Rattle.std.proofs.Common.{arith}
use Rattle.rss_device.proofs.Numbered.{number_below}
use Rattle.rss_device.proofs.mem_pages.MemPagesPages.first_mapped.Goals as goal

pub returns-clause-none : goal.returns-clause-none
returns-clause-none c = λ k later is.
    let below = number_below c.args.segment c.args.space c.args.self.now.placed c.requires.space k is in
    c.loop-number.invariant.none k later (omega arith) is
