use Rattle.rss_session.proofs.StaysOpen.{same_listed}
use Rattle.std.proofs.Common.{refl, arith, ◌∙◌, ⊎_elim}
use Rattle.std.proofs.lemmas.Bool.{true≢false}
use Rattle.rss_stored.proofs.Endings.{comes_to}
use Rattle.rss_model.proofs.Tests.{refuses_at}
use Rattle.rss_lock.specs.Table.{told}
use Rattle.rss_scan.specs.Scans.{told as scans_told}
use Rattle.rss_session.specs.Parts.{view as session_view}
use Rattle.rss_rsi.proofs.TransactionSteps.{checkpoint_stops, checkpoint_leads, checkpoint_asked}
use Rattle.rss_rsi.proofs.Ways.{asked, answers, goes_bounded, refused_test, failed_within, opened_stay, ready_stay}
use Rattle.rss_rsi.proofs.engine.Rss.checkpoint.Goals as goal

pub returns-in_err-test_checkpoint-clause-did : goal.returns-in_err-test_checkpoint-clause-did
returns-in_err-test_checkpoint-clause-did g c =
    let asked_so = c.in_ok-ask.ensures in
    let tests = c.in_err-test_checkpoint.ensures.tests in
    asked g.S.Pages.view asked_so.session asked_so.locks asked_so.scans
    (refused_test _ c.from_residual-in_err-test_checkpoint.ensures.1 asked_so.was_up asked_so.up (omega (arith, asked_so.counted)) tests.1 (λ tables. refl) (λ told state shows. refuses_at _ (tests.0 told state shows)))

pub returns-in_err-checkpoint-clause-did : goal.returns-in_err-checkpoint-clause-did
returns-in_err-checkpoint-clause-did g c =
    let asked_so = c.in_ok-ask.ensures in
    let failed = c.in_err-checkpoint.ensures in
    asked g.S.Pages.view asked_so.session asked_so.locks asked_so.scans
    (failed_within _ c.from_residual-in_err-checkpoint.ensures.1 asked_so.was_up (λ up. absurd (cc (up))) failed.goes (goes_bounded _ (λ t is. absurd (cc (is))) failed.goes (omega (arith, asked_so.counted)) tt tt (λ none. ⊎_elim (λ never. absurd (true≢false never)) (λ so. absurd (cc (so.0))) none))
    (λ place is told state is_in. failed.sound place is told state is_in.kept is_in.shows)
    (checkpoint_stops _ (record { session = session_view g.S.Pages.view c.checkpoint.new.self; locks = told c.ask.new.self.locks; scans = scans_told c.ask.new.self.scans }) c.in_ok-test_checkpoint.ensures.tests failed.moments))

pub returns-clause-did : goal.returns-clause-did
returns-clause-did g c =
    let asked_so = c.in_ok-ask.ensures in
    let saved = c.in_ok-checkpoint.ensures in
    asked g.S.Pages.view asked_so.session asked_so.locks asked_so.scans
    (comes_to asked_so.was_up (goes_bounded _ (λ t is. absurd (cc (is))) saved.goes (omega (arith, asked_so.counted)) tt tt (λ none. ⊎_elim (λ never. absurd (true≢false never)) (λ so. (refl, so.1)) none))
    (answers refl (omega arith) (λ told state is_in. tt) (checkpoint_leads _ _ c.in_ok-test_checkpoint.ensures.tests saved.moments (record { locks = refl; scans = refl }) saved.shows)))

pub returns-clause-saves : goal.returns-clause-saves
returns-clause-saves g c =
    let asked_so = c.in_ok-ask.ensures in
    let saved = c.in_ok-checkpoint.ensures in
    checkpoint_asked g.S.Pages.view asked_so.session asked_so.locks asked_so.scans (record {
      unchanged = saved.anew.unchanged;
      saved = saved.saved;
      begins = saved.anew.checkpoint;
      ends = saved.saved.log ∙ saved.anew.end;
      stands = λ told state is_in. saved.stands told state is_in.kept is_in.shows;
    })

pub invariant_of-self-2 : goal.invariant_of-self-2
invariant_of-self-2 g c = record {
  ready = λ up.
      let counted = c.in_ok-ask.ensures in
      let saved = c.in_ok-checkpoint.ensures in
      ready_stay counted.ready counted.counted (omega arith) saved.ready saved.appends (λ t. omega (arith, saved.goes.saves t)) (opened_stay (session_view g.S.Pages.view c.ask.new.self.session) (session_view g.S.Pages.view c.checkpoint.new.self) saved.anew.transactions) (same_listed saved.anew.listing) (record { locks = refl; scans = refl });
}
