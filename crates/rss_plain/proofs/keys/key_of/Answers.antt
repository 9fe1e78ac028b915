use Rattle.std.proofs.Common.{◌++◌, ◌+◌, List, drop, sym, ◌∙◌, ap, arith}
use Rattle.std.specs.Prelude.{Option, option_to_list}
use Rattle.rss_base.specs.TupleTypes.{chosen}
use Rattle.rss_base.specs.declared.value.Value.{Value}
use Rattle.rss_model.specs.Images.{numbers_of}
use Rattle.rss_plain.proofs.KeyItems.{chosen_more, chosen_end}
use Rattle.rss_plain.proofs.keys.key_of.Goals as goal

pub loop-name-preserved : goal.loop-name-preserved
loop-name-preserved c =
    let fields = c.args.fields.now in
    let rest = chosen (numbers_of fields (drop (c.loop-name.name-index + 1) c.args.names.now)) c.args.values.now in
    ap (λ (l : List Value). l ++ rest)
    (c.in_ok-push_value.ensures ∙ ap (λ (o : Option Value). c.loop-name.key ++ option_to_list o)
    c.named_item.ensures)
    ∙ chosen_more fields c.args.values.now c.loop-name.key c.args.names.now c.loop-name.name-index _
    c.loop-name-test.true
    ∙ c.loop-name.invariant

pub returns : goal.returns
returns c =
    sym (chosen_end c.args.fields.now c.args.values.now c.loop-name.key c.args.names.now c.loop-name.name-index
    (omega arith)) ∙ c.loop-name.invariant
