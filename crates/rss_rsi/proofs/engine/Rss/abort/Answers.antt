use Rattle.std.proofs.Common.{refl, arith}
use Rattle.rss_stored.proofs.Endings.{comes_to}
use Rattle.rss_model.proofs.Tests.{refuses_at}
use Rattle.rss_lock.specs.Table.{told}
use Rattle.rss_scan.specs.Scans.{told as scans_told}
use Rattle.rss_session.specs.Parts.{view as session_view}
use Rattle.rss_rsi.proofs.TransactionSteps.{abort_stops, abort_leads}
use Rattle.rss_rsi.proofs.Ways.{asked, answers, goes_bounded, ready_gone, refused_test, failed_within}
use Rattle.rss_rsi.proofs.engine.Rss.abort.Goals as goal

pub returns-in_err-test_open-clause-did : goal.returns-in_err-test_open-clause-did
returns-in_err-test_open-clause-did g c =
    let asked_so = c.in_ok-ask.ensures in
    let tests = c.in_err-test_open.ensures.tests in
    asked g.S.Pages.view asked_so.session asked_so.locks asked_so.scans
    (refused_test _ c.from_residual-in_err-test_open.ensures.1 asked_so.was_up asked_so.up (omega (arith, asked_so.counted)) tests.1 (λ tables. refl) (λ told state shows. refuses_at _ (tests.0 told state shows)))

pub returns-in_err-abort-clause-did : goal.returns-in_err-abort-clause-did
returns-in_err-abort-clause-did g c =
    let asked_so = c.in_ok-ask.ensures in
    let failed = c.in_err-abort.ensures in
    asked g.S.Pages.view asked_so.session asked_so.locks asked_so.scans
    (failed_within _ c.from_residual-in_err-abort.ensures.1 asked_so.was_up (λ up. absurd (cc (up))) failed.goes (goes_bounded _ (λ t is. absurd (cc (is))) failed.goes (omega (arith, asked_so.counted)) tt tt (λ none. tt))
    (λ place is told state is_in. failed.sound place is told state is_in.kept is_in.shows)
    (abort_stops _ (record { session = session_view g.S.Pages.view c.abort.new.self; locks = told c.ask.new.self.locks; scans = scans_told c.ask.new.self.scans }) c.args.transaction c.in_ok-test_open.ensures.tests failed.moments))

pub returns-clause-did : goal.returns-clause-did
returns-clause-did g c =
    let asked_so = c.in_ok-ask.ensures in
    let gone = c.in_ok-abort.ensures in
    asked g.S.Pages.view asked_so.session asked_so.locks asked_so.scans
    (comes_to asked_so.was_up (goes_bounded _ (λ t is. absurd (cc (is))) gone.goes (omega (arith, asked_so.counted)) tt tt (λ none. tt))
    (answers refl (omega arith) (λ told state is_in. tt) (abort_leads _ _ c.args.transaction c.in_ok-test_open.ensures.tests c.release_all.ensures.released c.close_all.ensures gone.moments gone.shows)))

pub invariant_of-self-2 : goal.invariant_of-self-2
invariant_of-self-2 g c =
    let asked_so = c.in_ok-ask.ensures in
    let gone = c.in_ok-abort.ensures in
    record { ready = λ up. ready_gone c.args.transaction asked_so.ready asked_so.counted (omega arith) gone.ready gone.appends gone.goes.saves gone.others gone.listed c.release_all.ensures.released c.close_all.ensures }
