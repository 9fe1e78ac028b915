use Rattle.std.proofs.Common.{◌∙◌, ap, rules, subst, sym}
use Rattle.std.specs.Prelude.{is_some, Err}
use Rattle.std.proofs.lemmas.Option.{same_Some}
use Rattle.std.proofs.lemmas.Result.{err_from_is_err_and}
use Rattle.rss_base.specs.declared.call.Call.TheVariants.{DropImage}
use Rattle.rss_base.specs.declared.image.ImageEntry.{ImageEntry}
use Rattle.rss_model.specs.Steps.{refusal}
use Rattle.rss_model.proofs.Tests.{refuses_at}
use Rattle.rss_session.specs.Admissions.{Tests}
use Rattle.rss_session.specs.Parts.{view}
use Rattle.rss_session.proofs.Dropped.{image_lacks, image_drops}
use Rattle.rss_session.proofs.NextUniques.{image_named}
use Rattle.rss_session.proofs.session.Session.test_drop.Goals as goal

pub returns-in_err-test_rest-clause-tests : goal.returns-in_err-test_rest-clause-tests
returns-in_err-test_rest-clause-tests g c =
    let now = view g.S.Pages.view c.args.self.now in
    let why = err_from_is_err_and c.from_residual.result c.from_residual.ensures.1 in
    let tests = c.in_err-test_rest.ensures.tests in
    subst (Tests now (λ state. refusal state (DropImage c.args.name.now))) (sym (why.1 ∙ ap Err why.2)) ((λ told state shows. refuses_at _ (tests.0 told state shows)), tests.1)

pub returns-in_default-clause-tests : goal.returns-in_default-clause-tests
returns-in_default-clause-tests g c = (λ told state shows. image_lacks shows c.in_ok-test_rest.ensures.closed c.args.name.now c.in_default.ensures.none, search rules)

pub image-image-requires : goal.image-image-requires
image-image-requires g c = ap is_some (image_named c.args.self.now.store.catalog.listing c.args.name.now c.in-Some.number c.in-Some.ensures.some).1

pub returns-clause-known : goal.returns-clause-known
returns-clause-known g c =
    let its = image_named c.args.self.now.store.catalog.listing c.args.name.now c.in-Some.number c.in-Some.ensures.some in
    let found = c.image-image.ensures in record {
      image = c.image-image.result.now;
      relation = found.safe.relation;
      at = record { at = found.is; within = found.safe.listed };
      named = ap (λ (i : ImageEntry). i.name) (same_Some _ _ (sym found.is ∙ its.1)) ∙ its.2;
    }

pub returns-clause-tests : goal.returns-clause-tests
returns-clause-tests g c = λ told state shows.
    let its = image_named c.args.self.now.store.catalog.listing c.args.name.now c.in-Some.number c.in-Some.ensures.some in
    let found = c.image-image.ensures in
    image_drops shows c.in_ok-test_rest.ensures.closed (record { at = found.is; within = found.safe.listed }) (ap (λ (i : ImageEntry). i.name) (same_Some _ _ (sym found.is ∙ its.1)) ∙ its.2)
