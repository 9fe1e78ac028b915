use Rattle.std.proofs.Common.{◌++◌, ◌+◌, List, drop, sym, ◌∙◌, ap, arith}
use Rattle.std.specs.Prelude.{Option, option_to_list}
use Rattle.rss_base.specs.TupleTypes.{chosen}
use Rattle.rss_base.specs.declared.field.FieldDef.{FieldDef}
use Rattle.rss_model.specs.Images.{numbers_of}
use Rattle.rss_plain.proofs.KeyItems.{chosen_more, chosen_end}
use Rattle.rss_plain.proofs.keys.key_fields.Goals as goal

pub loop-name-preserved : goal.loop-name-preserved
loop-name-preserved c =
    let fields = c.args.fields.now in
    let rest = chosen (numbers_of fields (drop (c.loop-name.name-index + 1) c.args.names.now)) fields in
    ap (λ (l : List FieldDef). l ++ rest)
    (c.in_ok-push_field.ensures ∙ ap (λ (o : Option FieldDef). c.loop-name.key.items ++ option_to_list o)
    c.named_item.ensures)
    ∙ chosen_more fields fields c.loop-name.key.items c.args.names.now c.loop-name.name-index _ c.loop-name-test.true
    ∙ c.loop-name.invariant

pub returns : goal.returns
returns c =
    sym (chosen_end c.args.fields.now c.args.fields.now c.loop-name.key.items c.args.names.now c.loop-name.name-index
    (omega arith)) ∙ c.loop-name.invariant
