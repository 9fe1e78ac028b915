use Rattle.std.proofs.Common.{◌≡◌, ◌≢◌, ◌+◌, ◌∙◌, sym, ap, rules, tests}
use Rattle.std.specs.Prelude.{option_map}
use Rattle.std.proofs.lemmas.Iterator.{IsFirst-from_position, YieldsList-from_slice}
use Rattle.rss_base.specs.declared.field.FieldDef.{FieldDef}
use Rattle.rss_session.proofs.KeyFields.{number_of_cases}
use Rattle.rss_session.proofs.planning.number_of.Goals as goal

pub returns-in_err-place : goal.returns-in_err-place
returns-in_err-place c =
    let name = c.args.name.now in
    c.from_residual.ensures ∙ ap (option_map (λ k. k + 1)) (sym c.in_err-place.was)
    ∙ number_of_cases c.args.fields.now name c.position.result
    (IsFirst-from_position _ _ _ (λ (field : FieldDef). field.name ≡ name) (λ (field : FieldDef). field.name ≢ name) c.position.ensures.ran (YieldsList-from_slice c.args.fields.now cc) (λ x q k. search (rules, tests)) (λ x q k. search (rules, tests)))

pub returns : goal.returns
returns c =
    let name = c.args.name.now in
    ap (option_map (λ k. k + 1)) (sym c.in_ok-place.was)
    ∙ number_of_cases c.args.fields.now name c.position.result
    (IsFirst-from_position _ _ _ (λ (field : FieldDef). field.name ≡ name) (λ (field : FieldDef). field.name ≢ name) c.position.ensures.ran (YieldsList-from_slice c.args.fields.now cc) (λ x q k. search (rules, tests)) (λ x q k. search (rules, tests)))
