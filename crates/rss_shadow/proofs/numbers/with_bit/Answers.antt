use Rattle.std.proofs.Common.{◌∙◌, sym, w64}
use Rattle.std.proofs.lemmas.Bool.{eq-eqb}
use Rattle.std.proofs.lemmas.Nat.Bits.{bit_at_set_same, bit_at_set_other, bit_at_clear_same, bit_at_clear_other}
use Rattle.rss_shadow.proofs.Bits.{clear_bit}
use Rattle.rss_shadow.proofs.numbers.with_bit.Goals as goal

pub returns-then-value : goal.returns-then-value
returns-then-value c = record {
  here = eq-eqb _ _ (bit_at_set_same w64 c.args.word c.args.bit c.requires) ∙ sym c.if-value.true;
  others = λ other below. bit_at_set_other w64 c.args.word c.args.bit c.requires other;
}

pub returns-else-value : goal.returns-else-value
returns-else-value c = record {
  here = clear_bit _ _ (bit_at_clear_same w64 c.args.word c.args.bit c.requires) ∙ sym c.if-value.false;
  others = bit_at_clear_other w64 c.args.word c.args.bit c.requires;
}
