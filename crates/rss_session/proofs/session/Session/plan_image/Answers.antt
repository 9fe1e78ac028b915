use Rattle.std.proofs.Common.{◌≡◌, ◌≤◌, ◌∙◌, Bool, List, length, sym, ap, subst, rules, arith}
use Rattle.std.specs.Prelude.{Some, Err, is_some}
use Rattle.std.specs.List.{list_all}
use Rattle.std.proofs.lemmas.Bool.{true≢false, eqb-true, eqb-false}
use Rattle.std.proofs.lemmas.List.Sums.{AllPass-from_list_all}
use Rattle.rss_base.specs.Listings.{AreAllUsed, padded}
use Rattle.rss_base.specs.TupleTypes.{key_width, most_fields, most_key_width}
use Rattle.rss_base.specs.declared.field.FieldDef.{FieldDef}
use Rattle.rss_base.specs.declared.name.Name.{Name}
use Rattle.rss_base.specs.declared.refusal.Kind.TheVariants.{Image as ImageKind}
use Rattle.rss_base.specs.declared.refusal.Refusal.{Refusal}
use Rattle.rss_model.specs.Defining.{if_any_open}
use Rattle.rss_model.specs.Fits.{is_field_of}
use Rattle.rss_model.specs.Images.{numbers_of, key_kinds}
use Rattle.rss_model.specs.Machine.{State}
use Rattle.rss_model.specs.ReplyText.{IsShort}
use Rattle.rss_model.specs.Steps.{first_of}
use Rattle.rss_model.proofs.Tests.{refuses_at}
use Rattle.rss_access.proofs.Numbered.{entry_at, name_of}
use Rattle.rss_session.specs.Parts.{view}
use Rattle.rss_session.specs.Planning.{plan_tests, IsTooWide}
use Rattle.rss_session.proofs.Defined.{found, not_found}
use Rattle.rss_session.proofs.First.{fails_first}
use Rattle.rss_session.proofs.KeyFields.{few_known}
use Rattle.rss_session.proofs.Planned.{relation_unknown, field_unknown, name_taken, field_twice, images_many, no_field, key_wide, image_planned, entry_planned}
use Rattle.rss_session.proofs.session.Session.plan_image.Goals as goal
use Rattle.rss_session.proofs.session.Session.plan_image.Goals.{then-is_some-via-then-is_some, then-is_some-via-else-is_some+then-is_any_twice}

-- what is said of the fields as they are lent, is said of the relation's
of_relation : {found : Bool} (lent own : List FieldDef) (names : List Name) → lent ≡ own → found ≡ list_all (is_field_of lent) names → list_all (is_field_of own) names ≡ found
of_relation lent own names same is = ap (λ (fields : List FieldDef). list_all (is_field_of fields) names) (sym same) ∙ sym is

pub returns-in_err-test_rest-clause-tests : goal.returns-in_err-test_rest-clause-tests
returns-in_err-test_rest-clause-tests g c =
    fails_first (view g.S.Pages.view c.args.self.now) if_any_open (λ (state : State). first_of (plan_tests state c.args.name.now c.args.relation.now c.args.fields.now)) c.from_residual.result c.from_residual.ensures.1 (λ state. refuses_at _) c.in_err-test_rest.ensures.tests

pub returns-in_default-clause-tests : goal.returns-in_default-clause-tests
returns-in_default-clause-tests g c =
    (λ told state shows. relation_unknown shows (c.in_ok-test_rest.ensures.tests told state shows) c.args.name.now c.args.relation.now c.args.fields.now c.in_default.ensures.none, search rules)

pub relation-requires : goal.relation-requires
relation-requires g c = ap is_some (entry_at c.args.self.now.store.catalog.listing c.args.relation.now c.in-Some.number c.in-Some.ensures.some).at

pub returns-then-not-are_fields-clause-tests : goal.returns-then-not-are_fields-clause-tests
returns-then-not-are_fields-clause-tests g c =
    let fields = c.args.fields.now in
    let named = name_of c.args.self.now.store.catalog.listing c.args.relation.now c.in-Some.number c.relation.result.now c.in-Some.ensures.some c.relation.ensures.is in
    let unknown = of_relation c.as_slice-known.result.now c.relation.result.now.fields fields c.as_slice-known.ensures c.are_fields.ensures ∙ c.if-not-are_fields.true in
    (λ told state shows. field_unknown shows (c.in_ok-test_rest.ensures.tests told state shows) c.args.name.now c.args.relation.now fields c.in-Some.number c.in-Some.ensures.some c.relation.result.now c.relation.ensures.is named unknown, search rules)

pub returns-then-is_some-clause-tests : goal.returns-then-is_some-clause-tests
returns-then-is_some-clause-tests g c =
    let fields = c.args.fields.now in
    let named = name_of c.args.self.now.store.catalog.listing c.args.relation.now c.in-Some.number c.relation.result.now c.in-Some.ensures.some c.relation.ensures.is in
    let known = of_relation c.as_slice-known.result.now c.relation.result.now.fields fields c.as_slice-known.ensures c.are_fields.ensures ∙ c.if-not-are_fields.false in (
      λ told state shows. elim c.then-is_some.branch [
        | then-is_some-via-then-is_some w ↦
            let some = found c.find-2.result c.find-2.ensures.some (sym c.is_some.ensures ∙ w.if-is_some.true) in
            name_taken shows (c.in_ok-test_rest.ensures.tests told state shows) c.args.name.now c.args.relation.now fields c.in-Some.number c.in-Some.ensures.some c.relation.result.now c.relation.ensures.is named known some.0 some.1
        | then-is_some-via-else-is_some+then-is_any_twice w ↦
            let fresh = not_found c.find-2.result c.find-2.ensures.none (sym c.is_some.ensures ∙ w.if-is_some.false) in
            field_twice shows (c.in_ok-test_rest.ensures.tests told state shows) c.args.name.now c.args.relation.now fields c.in-Some.number c.in-Some.ensures.some c.relation.result.now c.relation.ensures.is named known fresh (sym w.is_any_twice.ensures ∙ w.if-is_any_twice.true)
      ],
      search rules,
    )

pub returns-then-is_full-clause-tests : goal.returns-then-is_full-clause-tests
returns-then-is_full-clause-tests g c =
    let fields = c.args.fields.now in
    let named = name_of c.args.self.now.store.catalog.listing c.args.relation.now c.in-Some.number c.relation.result.now c.in-Some.ensures.some c.relation.ensures.is in
    let known = of_relation c.as_slice-known.result.now c.relation.result.now.fields fields c.as_slice-known.ensures c.are_fields.ensures ∙ c.if-not-are_fields.false in
    let fresh = not_found c.find-2.result c.find-2.ensures.none (sym c.is_some.ensures ∙ c.if-is_some.false) in
    let once = sym c.is_any_twice.ensures ∙ c.if-is_any_twice.false in
    (λ told state shows. images_many shows (c.in_ok-test_rest.ensures.tests told state shows) c.args.name.now c.args.relation.now fields c.in-Some.number c.in-Some.ensures.some c.relation.result.now c.relation.ensures.is named known fresh once (c.is_full.ensures.0 c.if-is_full.true), search rules)

pub returns-then-is_empty-clause-tests : goal.returns-then-is_empty-clause-tests
returns-then-is_empty-clause-tests g c =
    let fields = c.args.fields.now in
    let named = name_of c.args.self.now.store.catalog.listing c.args.relation.now c.in-Some.number c.relation.result.now c.in-Some.ensures.some c.relation.ensures.is in
    let known = of_relation c.as_slice-known.result.now c.relation.result.now.fields fields c.as_slice-known.ensures c.are_fields.ensures ∙ c.if-not-are_fields.false in
    let fresh = not_found c.find-2.result c.find-2.ensures.none (sym c.is_some.ensures ∙ c.if-is_some.false) in
    let once = sym c.is_any_twice.ensures ∙ c.if-is_any_twice.false in
    let room : AreAllUsed ImageKind c.args.self.now.store.catalog.listing → ⊥ = λ all. true≢false (sym (c.is_full.ensures.1 all) ∙ c.if-is_full.false) in
    let none = eqb-true (length fields) 0 (sym c.is_empty.ensures ∙ c.if-is_empty.true) in
    (λ told state shows. no_field shows (c.in_ok-test_rest.ensures.tests told state shows) c.args.name.now c.args.relation.now fields c.in-Some.number c.in-Some.ensures.some c.relation.result.now c.relation.ensures.is named known fresh once room none, search rules)

pub key_numbers-requires-clause-few : goal.key_numbers-requires-clause-few
key_numbers-requires-clause-few g c =
    let fields = c.args.fields.now in
    let known = of_relation c.as_slice-known.result.now c.relation.result.now.fields fields c.as_slice-known.ensures c.are_fields.ensures ∙ c.if-not-are_fields.false in
    let once = sym c.is_any_twice.ensures ∙ c.if-is_any_twice.false in
    omega (arith, c.relation.ensures.safe.few, few_known c.relation.result.now.fields fields (AllPass-from_list_all (is_field_of c.relation.result.now.fields) fields known) once)

pub returns-in_err-numbers-clause-tests : goal.returns-in_err-numbers-clause-tests
returns-in_err-numbers-clause-tests g c =
    let test = λ (state : State). first_of (plan_tests state c.args.name.now c.args.relation.now c.args.fields.now) in
    let fields = c.args.fields.now in
    let named = name_of c.args.self.now.store.catalog.listing c.args.relation.now c.in-Some.number c.relation.result.now c.in-Some.ensures.some c.relation.ensures.is in
    let known = of_relation c.as_slice-known.result.now c.relation.result.now.fields fields c.as_slice-known.ensures c.are_fields.ensures ∙ c.if-not-are_fields.false in
    let fresh = not_found c.find-2.result c.find-2.ensures.none (sym c.is_some.ensures ∙ c.if-is_some.false) in
    let once = sym c.is_any_twice.ensures ∙ c.if-is_any_twice.false in
    let room : AreAllUsed ImageKind c.args.self.now.store.catalog.listing → ⊥ = λ all. true≢false (sym (c.is_full.ensures.1 all) ∙ c.if-is_full.false) in
    let some : 1 ≤ length fields = omega (arith, eqb-false (length fields) 0 (sym c.is_empty.ensures ∙ c.if-is_empty.false)) in
    let wide = subst (λ (own : List FieldDef). IsTooWide own fields c.in_err-numbers.field-0.0) c.as_slice-known.ensures c.in_err-numbers.ensures.wide in
    fails_first (view g.S.Pages.view c.args.self.now) test test c.from_residual-in_err-numbers.result c.from_residual-in_err-numbers.ensures.1 (λ state is. is) (
      (λ told state shows. key_wide shows (c.in_ok-test_rest.ensures.tests told state shows) c.args.name.now c.args.relation.now fields c.in-Some.number c.in-Some.ensures.some c.relation.result.now c.relation.ensures.is named known fresh once room some wide.wide ∙ ap Some (sym wide.is)),
      subst (λ (why : Refusal). IsShort (Err why)) (sym wide.is) (search rules),
    )

pub overflow_cast-result : goal.overflow_cast-result
overflow_cast-result g c =
    let fields = c.args.fields.now in
    let known = of_relation c.as_slice-known.result.now c.relation.result.now.fields fields c.as_slice-known.ensures c.are_fields.ensures ∙ c.if-not-are_fields.false in
    let once = sym c.is_any_twice.ensures ∙ c.if-is_any_twice.false in
    omega (arith, c.relation.ensures.safe.few, few_known c.relation.result.now.fields fields (AllPass-from_list_all (is_field_of c.relation.result.now.fields) fields known) once)

pub returns-clause-plans : goal.returns-clause-plans
returns-clause-plans g c =
    let listing = c.args.self.now.store.catalog.listing in
    let own = c.relation.result.now in
    let fields = c.args.fields.now in
    let named = name_of c.args.self.now.store.catalog.listing c.args.relation.now c.in-Some.number c.relation.result.now c.in-Some.ensures.some c.relation.ensures.is in
    let known = of_relation c.as_slice-known.result.now c.relation.result.now.fields fields c.as_slice-known.ensures c.are_fields.ensures ∙ c.if-not-are_fields.false in
    let fresh = not_found c.find-2.result c.find-2.ensures.none (sym c.is_some.ensures ∙ c.if-is_some.false) in
    let once = sym c.is_any_twice.ensures ∙ c.if-is_any_twice.false in
    let room : AreAllUsed ImageKind c.args.self.now.store.catalog.listing → ⊥ = λ all. true≢false (sym (c.is_full.ensures.1 all) ∙ c.if-is_full.false) in
    let some : 1 ≤ length fields = omega (arith, eqb-false (length fields) 0 (sym c.is_empty.ensures ∙ c.if-is_empty.false)) in
    let are = c.in_ok-numbers.ensures.numbers ∙ ap (λ (of : List FieldDef). padded most_fields (numbers_of of fields)) c.as_slice-known.ensures in
    let narrow = subst (λ (of : List FieldDef). key_width (key_kinds of fields) ≤ most_key_width) c.as_slice-known.ensures c.in_ok-numbers.ensures.narrow in
    entry_planned listing c.args.name.now c.args.is_unique fields c.in-Some.number own c.in_ok-numbers.numbers c.requires.name c.relation.ensures.is c.relation.ensures.safe.few
    (AllPass-from_list_all (is_field_of own.fields) fields known) once some are narrow c.args.relation.now named fresh room

pub returns-clause-tests : goal.returns-clause-tests
returns-clause-tests g c =
    let fields = c.args.fields.now in
    let named = name_of c.args.self.now.store.catalog.listing c.args.relation.now c.in-Some.number c.relation.result.now c.in-Some.ensures.some c.relation.ensures.is in
    let known = of_relation c.as_slice-known.result.now c.relation.result.now.fields fields c.as_slice-known.ensures c.are_fields.ensures ∙ c.if-not-are_fields.false in
    let fresh = not_found c.find-2.result c.find-2.ensures.none (sym c.is_some.ensures ∙ c.if-is_some.false) in
    let once = sym c.is_any_twice.ensures ∙ c.if-is_any_twice.false in
    let room : AreAllUsed ImageKind c.args.self.now.store.catalog.listing → ⊥ = λ all. true≢false (sym (c.is_full.ensures.1 all) ∙ c.if-is_full.false) in
    let some : 1 ≤ length fields = omega (arith, eqb-false (length fields) 0 (sym c.is_empty.ensures ∙ c.if-is_empty.false)) in
    let narrow = subst (λ (own : List FieldDef). key_width (key_kinds own fields) ≤ most_key_width) c.as_slice-known.ensures c.in_ok-numbers.ensures.narrow in
    λ told state shows. image_planned shows (c.in_ok-test_rest.ensures.tests told state shows) c.args.name.now c.args.relation.now fields c.in-Some.number c.in-Some.ensures.some c.relation.result.now c.relation.ensures.is named known fresh once room some narrow
