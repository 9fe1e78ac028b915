use Rattle.std.proofs.Common.{arith}
use Rattle.rss_page.proofs.Bits.{shifted_bits}
use Rattle.rss_page.proofs.marks.bits_of.Goals as goal

pub returns : goal.returns
returns c = shifted_bits c.args.word c.args.place c.args.end c.saturating_sub-from.result c.min-to.result (omega (arith, c.saturating_sub-from.ensures)) (omega (arith, c.min-to.ensures)) c.requires.high c.requires.low
