use Rattle.rss_store.specs.Stores.{StoreView}
use Rattle.rss_session.proofs.StaysOpen.{same_listed}
use Rattle.std.proofs.Common.{refl, ap, arith}
use Rattle.rss_stored.proofs.Endings.{comes_to}
use Rattle.rss_model.proofs.Tests.{refuses_at}
use Rattle.rss_store.specs.Parts.{view as store_view}
use Rattle.rss_rsi.proofs.TransactionSteps.{number_line, save_leads}
use Rattle.rss_rsi.proofs.Ways.{asked, answers, goes_nowhere, lacks_memory, refused_test, ready_stay}
use Rattle.rss_rsi.proofs.engine.Rss.save.Goals as goal

pub returns-in_err-test_open-clause-did : goal.returns-in_err-test_open-clause-did
returns-in_err-test_open-clause-did g c =
    let asked_so = c.in_ok-ask.ensures in
    let tests = c.in_err-test_open.ensures.tests in
    asked g.S.Pages.view asked_so.session asked_so.locks asked_so.scans
    (refused_test _ c.from_residual-in_err-test_open.ensures.1 asked_so.was_up asked_so.up (omega (arith, asked_so.counted)) tests.1 (λ tables. refl) (λ told state shows. refuses_at _ (tests.0 told state shows)))

pub returns-clause-did : goal.returns-clause-did
returns-clause-did g c =
    let asked_so = c.in_ok-ask.ensures in
    let saved = c.in-Ok.ensures in
    let same = ap (store_view g.S.Pages.view) saved.store in
    asked g.S.Pages.view asked_so.session asked_so.locks asked_so.scans
    (comes_to asked_so.was_up (goes_nowhere _ same (omega (arith, asked_so.counted)))
    (answers asked_so.up (number_line c.in-Ok.save (omega arith)) (λ told state is_in. tt) (save_leads _ _ c.args.transaction c.in-Ok.save c.in_ok-test_open.ensures.open same (record { locks = refl; scans = refl }) c.in_ok-test_open.ensures.tests saved.saves)))

pub returns-in_default-clause-did : goal.returns-in_default-clause-did
returns-in_default-clause-did g c =
    let asked_so = c.in_ok-ask.ensures in
    let lacks = c.in_default.ensures in
    asked g.S.Pages.view asked_so.session asked_so.locks asked_so.scans
    (lacks_memory _ refl asked_so.was_up asked_so.up (ap (store_view g.S.Pages.view) lacks.store) (omega (arith, asked_so.counted)) lacks.same (record { locks = refl; scans = refl }))

pub invariant_of-self : goal.invariant_of-self
invariant_of-self g c = record {
  ready = λ up.
      let counted = c.in_ok-ask.ensures in
      let saved = c.save.ensures in
      let same = ap (store_view g.S.Pages.view) saved.store in
      ready_stay {appended = 0} counted.ready counted.counted (omega arith) saved.ready (omega (arith, ap (λ (s : StoreView). s.log.end) same)) saved.more saved.stay (same_listed (ap (λ (s : StoreView). s.catalog.listing) same)) (record { locks = refl; scans = refl });
}
