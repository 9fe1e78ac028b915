use Rattle.std.proofs.Common.{arith, ap, ◌∙◌}
use Rattle.rss_base.specs.TupleTypes.{field_width}
use Rattle.rss_value.proofs.Sums.{width_more, width_whole}
use Rattle.rss_value.proofs.widths.width.Goals as goal

pub loop-field-preserved : goal.loop-field-preserved
loop-field-preserved c =
    (width_more c.args.fields.now c.loop-field.field-index _ c.loop-field.total c.field_width-total.result c.loop-field-test.true c.loop-field.invariant.0 (c.field_width-total.ensures.value ∙ ap field_width c.form.ensures), omega (arith, c.loop-field.invariant.1, c.field_width-total.ensures.small))

pub returns : goal.returns
returns c = c.loop-field.invariant.0 ∙ width_whole c.args.fields.now c.loop-field.field-index c.loop-field-test.false
