use Rattle.std.proofs.Common.{sym, ◌∙◌, rules, tests}
use Rattle.std.specs.Ordering.{eq_by_cmp}
use Rattle.std.proofs.lemmas.Iterator.{YieldsList-from_slice}
use Rattle.std.proofs.lemmas.Iterator.Search.{any_from_yields_List}
use Rattle.rss_base.specs.declared.field.FieldDef.{FieldDef}
use Rattle.rss_model.specs.Items.{name_cmp}
use Rattle.rss_plain.proofs.Lists.{any_map}
use Rattle.rss_plain.proofs.defining.has_name.Goals as goal

pub returns : goal.returns
returns c =
    let same = eq_by_cmp name_cmp c.args.name.now in
    any_from_yields_List (λ (field : FieldDef). same field.name) _ _ c.any.result c.any.ensures.ran
    (YieldsList-from_slice c.args.fields.now cc) (λ x b q k. search (rules, tests))
    ∙ sym (any_map (λ (field : FieldDef). field.name) same c.args.fields.now)
