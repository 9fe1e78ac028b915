use Rattle.std.proofs.Common.{arith, refl, sym, subst}
use Rattle.rss_model.proofs.Tests.{refuses_at}
use Rattle.rss_session.specs.Parts.{view as session_view}
use Rattle.rss_rsi.specs.Views.{AllMayGoOn}
use Rattle.rss_rsi.proofs.ScanCalls.{close_lacks, closes_scan}
use Rattle.rss_rsi.proofs.Scans.{closed_may, lent_none, lent_some, ready_scans}
use Rattle.rss_rsi.proofs.Ways.{asked, refused_test}
use Rattle.rss_rsi.proofs.engine.Rss.close_scan.Goals as goal

pub returns-in_err-test_open-clause-did : goal.returns-in_err-test_open-clause-did
returns-in_err-test_open-clause-did g c =
    let counted = c.in_ok-ask.ensures in
    let tests = c.in_err-test_open.ensures.tests in
    asked g.S.Pages.view counted.session counted.locks counted.scans
    (refused_test _ c.from_residual-in_err-test_open.ensures.1 counted.was_up counted.up (omega (arith, counted.counted)) tests.1 (λ tables. refl) (λ told state shows. refuses_at _ (tests.0 told state shows)))

pub returns-then-is_none-clause-did : goal.returns-then-is_none-clause-did
returns-then-is_none-clause-did g c =
    let counted = c.in_ok-ask.ensures in
    asked g.S.Pages.view counted.session counted.locks counted.scans
    (close_lacks c.args.transaction c.args.scan c.in_ok-test_open.ensures.tests counted.was_up counted.up (omega (arith, counted.counted)) (lent_none _ c.get.ensures c.if-is_none.ensures) c.no_scan.result c.no_scan.ensures)

pub invariant_of-self : goal.invariant_of-self
invariant_of-self g c = record { ready = λ up. ready_scans _ (subst (AllMayGoOn c.ask.new.self.session.store.catalog.listing (session_view g.S.Pages.view c.ask.new.self.session).opened) (sym c.close.ensures) (closed_may _ (c.ask.new.self.ready up).scans c.args.scan)) (c.ask.new.self.ready up) }

pub returns-clause-did : goal.returns-clause-did
returns-clause-did g c =
    let counted = c.in_ok-ask.ensures in
    asked g.S.Pages.view counted.session counted.locks counted.scans
    (closes_scan c.args.transaction c.args.scan c.in_ok-test_open.ensures.tests counted.was_up counted.up (omega (arith, counted.counted)) (lent_some _ c.get.ensures c.if-is_none.ensures).1 refl refl c.close.ensures)
