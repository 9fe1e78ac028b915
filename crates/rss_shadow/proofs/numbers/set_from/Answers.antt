use Rattle.std.proofs.Common.{arith}
use Rattle.std.proofs.lemmas.Nat.Bits.{ones_shl, bit_at_mask_below, bit_at_mask_inside}
use Rattle.rss_shadow.proofs.numbers.set_from.Goals as goal

pub returns-else-bit-eq0 : goal.returns-else-bit-eq0
returns-else-bit-eq0 c =
    let mask = ones_shl 64 c.args.bit (omega arith) in
    record {
      zero_at_none = λ none. absurd (omega arith);
      below = λ other. rw mask (bit_at_mask_below c.args.bit 64 other);
      above = λ other some from. rw mask (bit_at_mask_inside c.args.bit 64 other from);
    }
