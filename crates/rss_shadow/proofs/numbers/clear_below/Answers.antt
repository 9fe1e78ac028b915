use Rattle.std.proofs.Common.{◌≡◌, replicate, arith, rules}
use Rattle.rss_shadow.proofs.Bits.{AreClear-ends}
use Rattle.rss_shadow.proofs.numbers.clear_below.Goals as goal

pub returns : goal.returns
returns c =
    let items : c.in_ok-bits.bits.items ≡ replicate c.div_ceil-words.result 0 = search rules in
    rw items (AreClear-ends c.args.bound c.div_ceil-words.result c.set_from.result c.requires.some (omega arith) c.set_from.ensures)
