use Rattle.std.proofs.Common.{arith}
use Rattle.rss_shadow.proofs.Firsts.{first_in_word, none_in_word}
use Rattle.rss_shadow.proofs.numbers.clear_in_word.Goals as goal

pub returns-then-bit-ge-WORD_BITS-clause-none : goal.returns-then-bit-ge-WORD_BITS-clause-none
returns-then-bit-ge-WORD_BITS-clause-none c =
    none_in_word c.args.words.now c.args.from c.with_bits_below.result c.if-at-words.false c.with_bits_below.type_inv c.with_bits_below.ensures.below c.with_bits_below.ensures.others (omega (arith, c.trailing_ones-bit.ensures))

pub returns-clause-some : goal.returns-clause-some
returns-clause-some c =
    rw c.trailing_ones-bit.ensures (first_in_word c.args.words.now c.args.from c.with_bits_below.result c.if-at-words.false c.with_bits_below.type_inv c.with_bits_below.ensures.below c.with_bits_below.ensures.others (omega (arith, c.trailing_ones-bit.ensures)))
