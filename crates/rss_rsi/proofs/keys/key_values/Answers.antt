use Rattle.std.proofs.Common.{◌≡◌, ◌+◌, ◌-◌, ◌<◌, ℕ, List, [], ◌∷◌, ◌++◌, length, take, get_or, sym, ◌∙◌, ap, arith}
use Rattle.std.specs.Prelude.{Option, Some, slice_get}
use Rattle.std.specs.List.{cons_option}
use Rattle.std.proofs.lemmas.Option.{slice_get-get_or}
use Rattle.rss_base.specs.TupleTypes.{chosen}
use Rattle.rss_base.specs.declared.value.Value.{Value}
use Rattle.rss_value.proofs.Choosing.{chosen_more}
use Rattle.rss_rsi.proofs.keys.key_values.Goals as goal

-- one field more
value_chosen : (which : List ℕ) (i : ℕ) (values : List Value) (number : ℕ) (value : Value) → i < length which → number ≡ get_or which i 0 → number - 1 < length values → value ≡ get_or values (number - 1) value
    → chosen (take i which) values ++ value ∷ [] ≡ chosen (take (i + 1) which) values
value_chosen which i values number value low is within has =
    let got : slice_get values (get_or which i 0 - 1) ≡ Some value = ap (λ (n : ℕ). slice_get values (n - 1)) (sym is) ∙ slice_get-get_or values (number - 1) value within ∙ ap (λ (v : Value). Some v) (sym has) in
    sym (chosen_more which i values low ∙ ap (λ (o : Option Value). chosen (take i which) values ++ cons_option o []) got)

pub loop-number-preserved : goal.loop-number-preserved
loop-number-preserved c =
    let number = c.requires c.loop-number.number-index 0 c.loop-number-test.true in
    let value = c.index-values-from.is ∙ ap (λ (l : List Value). get_or l (c.from.result - 1) c.index-values-from.result) c.as_slice-values.ensures in
    c.in_ok-push.ensures.ok ∙ (λ i. c.loop-number.invariant i ++ c.in_ok-copied.ensures i ∷ [])
    ∙ value_chosen c.args.which.now c.loop-number.number-index c.args.tuple.now c.from.result c.index-values-from.result c.loop-number-test.true c.from.ensures (omega (arith, number.low, number.high, c.from.ensures)) value
