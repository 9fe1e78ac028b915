use Rattle.std.proofs.Common.{arith}
use Rattle.std.proofs.lemmas.Nat.Bits.{ones_shl}
use Rattle.rss_shadow.proofs.Bits.{masked_below, masked_others}
use Rattle.rss_shadow.proofs.numbers.with_bits_below.Goals as goal

pub returns : goal.returns
returns c =
    let mask = ones_shl 64 c.args.bit (omega arith) in
    rw mask (record {
      below = masked_below c.args.word c.args.bit c.requires;
      others = masked_others c.args.word c.args.bit;
    })
