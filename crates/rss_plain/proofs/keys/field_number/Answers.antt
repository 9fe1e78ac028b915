use Rattle.std.proofs.Common.{◌∙◌, sym, arith}
use Rattle.rss_plain.proofs.KeyItems.{number_here, number_past, number_end}
use Rattle.rss_plain.proofs.keys.field_number.Goals as goal

pub loop-place-preserved : goal.loop-place-preserved
loop-place-preserved c =
    sym (number_past c.args.fields.now c.args.name.now c.loop-place.place _ c.loop-place-test.true
    (sym c.same_name.ensures ∙ c.if-same_name.false))
    ∙ c.loop-place.invariant

pub returns-then-same_name-clause-number : goal.returns-then-same_name-clause-number
returns-then-same_name-clause-number c =
    sym (number_here c.args.fields.now c.args.name.now c.loop-place.place _ c.loop-place-test.true
    (sym c.same_name.ensures ∙ c.if-same_name.true))
    ∙ c.loop-place.invariant

pub returns-clause-number : goal.returns-clause-number
returns-clause-number c = sym (number_end c.args.fields.now c.args.name.now c.loop-place.place (omega arith))
    ∙ c.loop-place.invariant
