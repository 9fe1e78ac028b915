use Rattle.std.proofs.Common.{arith, ap, ◌∙◌}
use Rattle.rss_base.specs.TupleTypes.{key_part_width}
use Rattle.rss_value.proofs.Sums.{key_width_more, key_width_whole}
use Rattle.rss_value.proofs.widths.key_width.Goals as goal

pub loop-number-preserved : goal.loop-number-preserved
loop-number-preserved c = (
  key_width_more c.args.fields.now c.args.which.now c.loop-number.number-index c.from.result _ c.loop-number.total c.key_part_width-total.result c.requires.numbers c.loop-number-test.true c.from.ensures c.loop-number.invariant.0
      (c.key_part_width-total.ensures.value ∙ ap key_part_width c.form.ensures),
  omega (arith, c.loop-number.invariant.1, c.key_part_width-total.ensures.small),
)

pub returns : goal.returns
returns c = c.loop-number.invariant.0 ∙ key_width_whole c.args.fields.now c.args.which.now c.loop-number.number-index c.loop-number-test.false
