use Rattle.std.proofs.Common.{arith}
use Rattle.rss_shadow.proofs.Bits.{AreNumbers-clear, in_use-clear}
use Rattle.rss_shadow.proofs.numbers.NumberSet.new.Goals as goal

pub invariant_of-result : goal.invariant_of-result
invariant_of-result c = AreNumbers-clear c.args.len c.div_ceil-words.result c.set_from.result c.requires.some c.requires.few (omega arith) c.in_ok-clear_below.ensures c.in_ok-clear_below-2.ensures (omega arith) c.set_from.ensures

pub returns : goal.returns
returns c = in_use-clear c.in_ok-clear_below.ensures
