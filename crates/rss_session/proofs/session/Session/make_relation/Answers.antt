use Rattle.std.proofs.Common.{◌≡◌, ◌≤◌, true, ◌∙◌, List, ap, subst, sym, rules, refl, arith}
use Rattle.std.specs.Prelude.{Some, is_some, option_map}
use Rattle.std.proofs.lemmas.Bool.{true≢false}
use Rattle.std.proofs.lemmas.List.{length-map}
use Rattle.rss_base.specs.Listings.{with_relation}
use Rattle.rss_base.specs.TupleTypes.{AreFields, field_names, kinds, width, most_width, are_kinds}
use Rattle.rss_base.specs.declared.field.FieldDef.{FieldDef}
use Rattle.rss_base.specs.declared.relation.RelationEntry.{RelationEntry}
use Rattle.rss_base.specs.declared.call.Call.TheVariants.{MakeRelation}
use Rattle.rss_base.specs.declared.refusal.Kind.TheVariants.{Relation as RelationKind}
use Rattle.rss_catalog.specs.Catalogs.{Lists, page_of}
use Rattle.rss_model.specs.Defining.{has_twice, if_any_open}
use Rattle.rss_model.specs.Steps.{first_of}
use Rattle.rss_model.proofs.Redefining.{originals_fit}
use Rattle.rss_model.proofs.Tests.{refuses_at}
use Rattle.rss_session.specs.FieldTests.{fields_tests}
use Rattle.rss_session.specs.Definitions.{entry_of}
use Rattle.rss_session.specs.Definitions.Relists.{relation}
use Rattle.rss_access.proofs.Recounting.{page_same}
use Rattle.rss_session.proofs.Defined.{found, not_found, refused, refused_for, within_lacks, relation_known, fields_taken, relation_many, relation_by_fields, relation_may, redefines, relation_page, imaged_still}
use Rattle.rss_session.proofs.session.Session.make_relation.Goals as goal
use Rattle.rss_session.proofs.session.Session.make_relation.Goals.{then-is_some-via-then-is_some, then-is_some-via-else-is_some+then-has_twice}

pub returns-in_err-test_rest : goal.returns-in_err-test_rest
returns-in_err-test_rest g c = refused g.S.Pages.view c.args.self.now (MakeRelation c.args.name.now c.args.segment.now c.args.fields) if_any_open c.from_residual.result c.from_residual.ensures.1 (λ state. refuses_at _) c.in_err-test_rest.ensures.tests

pub returns-in_default : goal.returns-in_default
returns-in_default g c = record {
  tests = (λ told state shows. within_lacks shows c.in_ok-test_rest.ensures.closed c.args.segment.now c.in_default.ensures.none c.args.name.now c.args.fields, search rules);
  redefines = tt;
  same = refl;
}

pub returns-then-is_some : goal.returns-then-is_some
returns-then-is_some g c = record {
  tests = (
    λ told state shows. elim c.then-is_some.branch [
      | then-is_some-via-then-is_some w ↦
          let some = found c.find-2.result c.find-2.ensures.some (sym c.is_some.ensures ∙ w.if-is_some.true) in
          relation_known shows c.in_ok-test_rest.ensures.closed c.args.name.now c.args.segment.now c.args.fields c.in-Some.segment c.in-Some.ensures.some some.0 some.1
      | then-is_some-via-else-is_some+then-has_twice w ↦
          let fresh = not_found c.find-2.result c.find-2.ensures.none (sym c.is_some.ensures ∙ w.if-is_some.false) in
          let twice = ap (λ (f : List FieldDef). has_twice (field_names f)) (sym w.as_slice.ensures) ∙ sym w.has_twice.ensures ∙ w.if-has_twice.true in
          fields_taken shows c.in_ok-test_rest.ensures.closed c.args.name.now c.args.segment.now c.args.fields c.in-Some.segment c.in-Some.ensures.some fresh twice
    ],
    search rules,
  );
  redefines = tt;
  same = refl;
}

pub returns-then-is_full : goal.returns-then-is_full
returns-then-is_full g c =
    let fresh = not_found c.find-2.result c.find-2.ensures.none (sym c.is_some.ensures ∙ c.if-is_some.false) in
    let once = ap (λ (f : List FieldDef). has_twice (field_names f)) (sym c.as_slice.ensures) ∙ sym c.has_twice.ensures ∙ c.if-has_twice.false in record {
      tests = (λ told state shows. relation_many shows c.in_ok-test_rest.ensures.closed c.args.name.now c.args.segment.now c.args.fields c.in-Some.segment c.in-Some.ensures.some fresh once (c.is_full.ensures.0 c.if-is_full.true), search rules);
      redefines = tt;
      same = refl;
    }

pub returns-in_err-test_fields : goal.returns-in_err-test_fields
returns-in_err-test_fields g c =
    let fresh = not_found c.find-2.result c.find-2.ensures.none (sym c.is_some.ensures ∙ c.if-is_some.false) in
    let once = ap (λ (f : List FieldDef). has_twice (field_names f)) (sym c.as_slice.ensures) ∙ sym c.has_twice.ensures ∙ c.if-has_twice.false in
    refused_for g.S.Pages.view c.args.self.now (MakeRelation c.args.name.now c.args.segment.now c.args.fields) c.from_residual-in_err-test_fields.result c.from_residual-in_err-test_fields.ensures.1 (λ told state shows.
    relation_by_fields shows c.in_ok-test_rest.ensures.closed c.args.name.now c.args.segment.now c.args.fields c.in-Some.segment c.in-Some.ensures.some fresh once (λ all. true≢false (sym (c.is_full.ensures.1 all) ∙ c.if-is_full.false))
    ∙ ap (λ (f : List FieldDef). first_of (fields_tests f)) (sym (c.as_slice-2.ensures ∙ c.make_original.ensures)) ∙ c.in_err-test_fields.ensures.refused) c.in_err-test_fields.ensures.short

pub add_relation-requires-clause-entry : goal.add_relation-requires-clause-entry
add_relation-requires-clause-entry g c =
    let once = ap (λ (f : List FieldDef). has_twice (field_names f)) (sym c.as_slice.ensures) ∙ sym c.has_twice.ensures ∙ c.if-has_twice.false in
    let are = c.as_slice-2.ensures ∙ c.make_original.ensures in
    record {
      name = c.requires.name;
      segment = ap is_some c.in-Some.ensures.some;
      fields = subst AreFields (sym c.make_original.ensures) (originals_fit c.args.fields
          (subst (λ (f : List FieldDef). are_kinds (kinds f) ≡ true) are c.in_ok-test_fields.ensures.formed)
          (subst (λ (f : List FieldDef). width (kinds f) ≤ most_width) are c.in_ok-test_fields.ensures.narrow)
          c.requires.fields once);
      live = omega arith;
    }

pub returns : goal.returns
returns g c =
    let listing = c.args.self.now.store.catalog.listing in
    let fresh = not_found c.find-2.result c.find-2.ensures.none (sym c.is_some.ensures ∙ c.if-is_some.false) in
    let once = ap (λ (f : List FieldDef). has_twice (field_names f)) (sym c.as_slice.ensures) ∙ sym c.has_twice.ensures ∙ c.if-has_twice.false in
    let are = c.as_slice-2.ensures ∙ c.make_original.ensures in
    let formed = subst (λ (f : List FieldDef). are_kinds (kinds f) ≡ true) are c.in_ok-test_fields.ensures.formed in
    let narrow = subst (λ (f : List FieldDef). width (kinds f) ≤ most_width) are c.in_ok-test_fields.ensures.narrow in
    let least = c.add_relation.ensures.least in
    let lists = subst (λ (f : List FieldDef). Lists (with_relation listing c.add_relation.result (Some (entry_of c.args.name.now c.in-Some.segment f))) (page_of RelationKind c.add_relation.result) c.args.self.now.store.catalog c.add_relation.new.self) c.make_original.ensures c.add_relation.ensures.lists in
    let places = length-map listing.relations (option_map (λ (r : RelationEntry). r.name)) in record {
      tests = λ told state shows. relation_may shows c.in_ok-test_rest.ensures.closed c.args.name.now c.args.segment.now c.args.fields c.in-Some.segment c.in-Some.ensures.some fresh once (λ all. true≢false (sym (c.is_full.ensures.1 all) ∙ c.if-is_full.false)) formed narrow;
      redefines = redefines _ (λ fits. relation_page c.add_relation.result (omega (arith, least.high, places, fits.relation_places))) (relation c.args.name.now c.args.segment.now c.args.fields c.in-Some.segment c.add_relation.result c.in-Some.ensures.some fresh least) lists (λ k low. page_same listing c.add_relation.result _ k) c.add_relation.ensures.fits (imaged_still listing c.add_relation.result _ least.low c.add_relation.ensures.none) c.in_ok-test_rest.ensures.closed
          (record { tuples = refl; log = refl; root = refl; number = refl; opened = refl; heap = refl; surviving = refl; entries = refl; survived = refl });
      same = tt;
    }
