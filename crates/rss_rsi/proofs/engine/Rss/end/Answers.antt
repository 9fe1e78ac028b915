use Rattle.std.proofs.Common.{refl, arith, ap}
use Rattle.rss_stored.proofs.Endings.{comes_to}
use Rattle.rss_model.proofs.Tests.{refuses_at}
use Rattle.rss_lock.specs.Table.{told}
use Rattle.rss_scan.specs.Scans.{told as scans_told}
use Rattle.rss_session.specs.Parts.{view as session_view}
use Rattle.rss_catalog.specs.Catalogs.{CatalogView}
use Rattle.rss_session.proofs.StaysOpen.{same_listed}
use Rattle.rss_rsi.proofs.TransactionSteps.{end_stops, end_leads, end_writes}
use Rattle.rss_rsi.proofs.Ways.{asked, answers, goes, ready_gone, refused_test, failed_within}
use Rattle.rss_rsi.proofs.engine.Rss.end.Goals as goal

pub returns-in_err-test_open-clause-did : goal.returns-in_err-test_open-clause-did
returns-in_err-test_open-clause-did g c =
    let asked_so = c.in_ok-ask.ensures in
    let tests = c.in_err-test_open.ensures.tests in
    asked g.S.Pages.view asked_so.session asked_so.locks asked_so.scans
    (refused_test _ c.from_residual-in_err-test_open.ensures.1 asked_so.was_up asked_so.up (omega (arith, asked_so.counted)) tests.1 (λ tables. refl) (λ told state shows. refuses_at _ (tests.0 told state shows)))

pub returns-in_err-commit-clause-did : goal.returns-in_err-commit-clause-did
returns-in_err-commit-clause-did g c =
    let asked_so = c.in_ok-ask.ensures in
    let failed = c.in_err-commit.ensures in
    asked g.S.Pages.view asked_so.session asked_so.locks asked_so.scans
    (failed_within _ c.from_residual-in_err-commit.ensures.1 asked_so.was_up (λ up. absurd (cc (up))) failed.goes
    (goes _ failed.goes (omega (arith, asked_so.counted)) (omega (arith, failed.asks)) (end_writes (session_view g.S.Pages.view c.ask.new.self.session) (session_view g.S.Pages.view c.commit.new.self) failed.only failed.writes failed.appends) (λ never. failed.checkpoint))
    (λ place is told state is_in. failed.sound place is told)
    (end_stops _ (record { session = session_view g.S.Pages.view c.commit.new.self; locks = told c.ask.new.self.locks; scans = scans_told c.ask.new.self.scans }) c.args.transaction c.in_ok-test_open.ensures.tests failed.moments))

pub returns-clause-did : goal.returns-clause-did
returns-clause-did g c =
    let asked_so = c.in_ok-ask.ensures in
    let ended = c.in_ok-commit.ensures in
    asked g.S.Pages.view asked_so.session asked_so.locks asked_so.scans
    (comes_to asked_so.was_up
    (goes _ ended.goes (omega (arith, asked_so.counted)) (omega (arith, ended.asks)) (end_writes (session_view g.S.Pages.view c.ask.new.self.session) (session_view g.S.Pages.view c.commit.new.self) ended.only ended.writes ended.appends) (λ never. ended.checkpoint))
    (answers refl (omega arith) (λ told state is_in. tt) (end_leads _ _ c.args.transaction c.in_ok-test_open.ensures.tests ended.moments c.release_all.ensures.released c.close_all.ensures ended.shows)))

pub invariant_of-self-2 : goal.invariant_of-self-2
invariant_of-self-2 g c =
    let asked_so = c.in_ok-ask.ensures in
    let ended = c.in_ok-commit.ensures in
    record { ready = λ up. ready_gone c.args.transaction asked_so.ready asked_so.counted (omega arith) ended.ready ended.appends ended.goes.saves ended.others (same_listed (ap (λ (catalog : CatalogView). catalog.listing) ended.catalog)) c.release_all.ensures.released c.close_all.ensures }
