use Rattle.std.proofs.Common.{ap, rules}
use Rattle.std.specs.Prelude.{is_some}
use Rattle.rss_model.proofs.Tests.{refuses_at}
use Rattle.rss_model.specs.Steps.{unless_open}
use Rattle.rss_session.specs.Admissions.{link_admission}
use Rattle.rss_session.specs.Parts.{view}
use Rattle.rss_session.proofs.First.{fails_first}
use Rattle.rss_session.proofs.LinkAdmitted.{link_listed, admits_any, admits_formed, refuses_misformed, refuses_absent}
use Rattle.rss_session.proofs.session.Session.admit_link.Goals as goal

pub returns-in_err-test_open-clause-tests : goal.returns-in_err-test_open-clause-tests
returns-in_err-test_open-clause-tests g c =
    fails_first (view g.S.Pages.view c.args.self.now) (λ state. unless_open state c.args.transaction) (λ state. link_admission state c.args.transaction c.args.link.now c.args.has_parent) c.from_residual.result c.from_residual.ensures.1 (λ state. refuses_at _) c.in_err-test_open.ensures.tests

pub returns-in_default-clause-tests : goal.returns-in_default-clause-tests
returns-in_default-clause-tests g c = (λ told state shows. refuses_absent shows c.args.transaction c.args.link.now (c.in_ok-test_open.ensures.tests told state shows) c.in_default.ensures.none c.args.has_parent, search rules)

pub returns-in_default-has_parent-clause-tests : goal.returns-in_default-has_parent-clause-tests
returns-in_default-has_parent-clause-tests g c = λ told state shows.
    admits_any shows c.args.transaction c.args.link.now (c.in_ok-test_open.ensures.tests told state shows) c.in-Some.number c.in-Some.ensures.some c.args.has_parent c.in_default-has_parent.is

pub link-requires : goal.link-requires
link-requires g c = ap is_some (link_listed c.args.self.now.store.catalog.listing c.args.link.now c.in-Some.number c.in-Some.ensures.some).1.0

pub returns-then-is_some-has_parent-clause-tests : goal.returns-then-is_some-has_parent-clause-tests
returns-then-is_some-has_parent-clause-tests g c = (
  λ told state shows.
      refuses_misformed shows c.args.transaction c.args.link.now (c.in_ok-test_open.ensures.tests told state shows) c.in-Some.number c.in-Some.ensures.some c.link.result.now c.link.ensures.is c.args.has_parent c.in-Some-has_parent.has_parent c.in-Some-has_parent.is c.is_some.result c.is_some.ensures c.if-is_some-has_parent.true,
  search rules,
)

pub returns-clause-tests : goal.returns-clause-tests
returns-clause-tests g c = λ told state shows.
    admits_formed shows c.args.transaction c.args.link.now (c.in_ok-test_open.ensures.tests told state shows) c.in-Some.number c.in-Some.ensures.some c.link.result.now c.link.ensures.is c.args.has_parent c.in-Some-has_parent.has_parent c.in-Some-has_parent.is c.is_some.result c.is_some.ensures c.if-is_some-has_parent.false
