use Rattle.rss_model.specs.Steps.{unless_open, admission}
use Rattle.rss_session.specs.Parts.{view}
use Rattle.rss_session.proofs.Admitted.{admits}
use Rattle.rss_session.proofs.First.{fails_first}
use Rattle.rss_model.proofs.Tests.{refuses_at}
use Rattle.rss_session.proofs.session.Session.admit.Goals as goal

pub returns-in_err-test_open-clause-tests : goal.returns-in_err-test_open-clause-tests
returns-in_err-test_open-clause-tests g c =
    fails_first (view g.S.Pages.view c.args.self.now) (λ state. unless_open state c.args.transaction) (λ state. admission state c.args.transaction c.args.relation.now) c.from_residual.result c.from_residual.ensures.1 (λ state. refuses_at _) c.in_err-test_open.ensures.tests

pub returns-in-Some-clause-tests : goal.returns-in-Some-clause-tests
returns-in-Some-clause-tests g c = λ told state shows.
    admits shows c.args.transaction c.args.relation.now c.in-Some.number c.in-Some.ensures.some (c.in_ok-test_open.ensures.tests told state shows)
