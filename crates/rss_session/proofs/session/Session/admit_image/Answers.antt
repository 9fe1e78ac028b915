use Rattle.std.proofs.Common.{ap}
use Rattle.std.specs.Prelude.{is_some}
use Rattle.rss_model.proofs.Tests.{refuses_at}
use Rattle.rss_model.specs.Steps.{unless_open}
use Rattle.rss_model.specs.Machine.{State}
use Rattle.rss_session.specs.Admissions.{image_admission}
use Rattle.rss_session.specs.Parts.{view}
use Rattle.rss_session.proofs.First.{fails_first}
use Rattle.rss_session.proofs.Starts.{image_entry, starts_badly, starts_first, starts_from}
use Rattle.rss_session.proofs.session.Session.admit_image.Goals as goal

pub returns-in_err-test_open-clause-tests : goal.returns-in_err-test_open-clause-tests
returns-in_err-test_open-clause-tests g c =
    fails_first (view g.S.Pages.view c.args.self.now) (λ state. unless_open state c.args.transaction) (λ state. image_admission state c.args.transaction c.args.image.now c.args.from.now) c.from_residual.result c.from_residual.ensures.1 (λ state. refuses_at _) c.in_err-test_open.ensures.tests

pub returns-in_default-from-clause-tests : goal.returns-in_default-from-clause-tests
returns-in_default-from-clause-tests g c = λ told state shows.
    starts_first shows c.args.transaction c.args.image.now c.args.from.now (c.in_ok-test_open.ensures.tests told state shows) c.in-Some.number c.in-Some.ensures.some c.in_default-from.is

pub test_key-requires : goal.test_key-requires
test_key-requires g c = ap is_some (image_entry c.args.self.now.store.catalog.listing c.args.image.now c.in-Some.number c.in-Some.ensures.some).at

pub returns-in_err-test_key-clause-tests : goal.returns-in_err-test_key-clause-tests
returns-in_err-test_key-clause-tests g c =
    let test = λ (state : State). image_admission state c.args.transaction c.args.image.now c.args.from.now in
    fails_first (view g.S.Pages.view c.args.self.now) test test c.from_residual-in_err-test_key.result c.from_residual-in_err-test_key.ensures.1 (λ state is. is) (
      (λ told state shows. starts_badly shows c.args.transaction c.args.image.now c.args.from.now (c.in_ok-test_open.ensures.tests told state shows) c.in-Some.number c.in-Some.ensures.some c.in-Some-from.key c.in-Some-from.is c.in_err-test_key.ensures.first),
      c.in_err-test_key.ensures.short,
    )

pub returns-clause-tests : goal.returns-clause-tests
returns-clause-tests g c = λ told state shows.
    starts_from shows c.args.transaction c.args.image.now c.args.from.now (c.in_ok-test_open.ensures.tests told state shows) c.in-Some.number c.in-Some.ensures.some c.in-Some-from.key c.in-Some-from.is c.in_ok-test_key.ensures.fit
