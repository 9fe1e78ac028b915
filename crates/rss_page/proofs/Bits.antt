-- Bytes whose bits are set in words of 64 bits.
use Rattle.std.proofs.Common.{◌≡◌, inl, inr, ℕ, ◌+◌, ◌-◌, ◌*◌, ◌/◌, ◌%◌, ◌^◌, ◌<◌, min, ap, arith}
use Rattle.std.specs.Prelude.{bit_and}
use Rattle.std.specs.Int.{bit_at}
use Rattle.std.proofs.lemmas.Nat.Bits.{bit_at_and, bit_at_ones, bit_at_ones_above, bit_at_mask_inside, bit_at_mask_below, ones_shl, ones_shr}
use Rattle.rss_page.specs.Marks.{AreBits}

-- the bits of a word that is shifted up, and of one that is shifted down
pub shifted_bits : (word place end from to : ℕ) → from ≡ place - 64 * word → to ≡ min (end - 64 * word) 64 → place < 64 * word + 64 → 64 * word < end
    → AreBits word place end (bit_and (18446744073709551615 * 2 ^ from % 18446744073709551616) (18446744073709551615 / 2 ^ (64 - to)))
shifted_bits word place end from to from_is to_is low high =
    let all : ℕ = 18446744073709551615 in
    let above = ones_shl 64 from (omega arith) in
    let below = ones_shr 64 (64 - to) (omega arith) in
    let both = λ (bit : ℕ). bit_at_and (all * 2 ^ from % 18446744073709551616) (all / 2 ^ (64 - to)) bit in
    let up = λ (bit : ℕ). ap (λ (n : ℕ). bit_at n bit) above in
    let down = λ (bit : ℕ). ap (λ (n : ℕ). bit_at n bit) below in
    record {
      inside = λ bit few from_here to_here. omega (arith, both bit, up bit, down bit, bit_at_mask_inside from 64 bit (omega arith) few, bit_at_ones (64 - (64 - to)) bit (omega arith));
      outside = λ bit few off. elim off [
        | inl before ↦ omega (arith, both bit, up bit, bit_at_mask_below from 64 bit (omega arith))
        | inr past ↦ omega (arith, both bit, down bit, bit_at_ones_above (64 - (64 - to)) bit (omega arith))
      ];
    }
