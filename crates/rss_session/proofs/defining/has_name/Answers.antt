use Rattle.std.proofs.Common.{◌≡◌, ◌≢◌, rules, tests}
use Rattle.std.proofs.lemmas.Iterator.{cases_from_any, YieldsList-from_slice}
use Rattle.rss_base.specs.declared.field.FieldDef.{FieldDef}
use Rattle.rss_session.proofs.FieldNames.{named_of_cases}
use Rattle.rss_session.proofs.defining.has_name.Goals as goal

pub returns : goal.returns
returns c =
    let name = c.args.name.now in
    named_of_cases name c.args.fields.now c.any.result
    (cases_from_any _ _ _ (λ (field : FieldDef). field.name ≡ name) (λ (field : FieldDef). field.name ≢ name) c.any.ensures.ran (YieldsList-from_slice c.args.fields.now cc) (λ x q k. search (rules, tests)) (λ x q k. search (rules, tests)))
