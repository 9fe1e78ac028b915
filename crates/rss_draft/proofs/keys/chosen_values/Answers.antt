use Rattle.std.proofs.Common.{◌-◌, List, [], ◌∷◌, ◌++◌, get_or, ◌∙◌, ap, arith}
use Rattle.rss_base.specs.declared.value.Value.{Value}
use Rattle.rss_draft.proofs.OwnersNow.{value_chosen}
use Rattle.rss_draft.proofs.keys.chosen_values.Goals as goal

pub loop-number-preserved : goal.loop-number-preserved
loop-number-preserved c =
    let number = c.requires c.loop-number.number-index 0 c.loop-number-test.true in
    let value = c.index-values-from.is ∙ ap (λ (l : List Value). get_or l (c.from.result - 1) c.index-values-from.result) c.as_slice-values.ensures in
    c.in_ok-push.ensures.ok ∙ (λ i. c.loop-number.invariant i ++ c.in_ok-copied.ensures i ∷ [])
    ∙ value_chosen c.args.which.now c.loop-number.number-index c.args.tuple.now c.from.result c.index-values-from.result c.loop-number-test.true c.from.ensures (omega (arith, number.low, number.high, c.from.ensures)) value
