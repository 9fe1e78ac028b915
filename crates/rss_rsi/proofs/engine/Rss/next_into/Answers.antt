use Rattle.std.proofs.Common.{◌∙◌, arith, refl, sym, ap, subst}
use Rattle.std.specs.Prelude.{Some, Err}
use Rattle.std.proofs.lemmas.Bool.{true≢false}
use Rattle.rss_base.specs.declared.call.Call.TheVariants.{Next}
use Rattle.rss_catalog.specs.Catalogs.{CatalogView}
use Rattle.rss_lock.specs.Table.{told}
use Rattle.rss_lock.specs.declared.locks.Locks.{Locks as LockTable}
use Rattle.rss_model.proofs.Tests.{refuses_at}
use Rattle.rss_scan.specs.Scans.{cursor_of}
use Rattle.rss_scan.specs.Scans.{told as scans_told}
use Rattle.rss_scan.specs.declared.cursor.Cursor.{Cursor}
use Rattle.rss_session.specs.Parts.{view as session_view}
use Rattle.rss_rsi.specs.Parts.{view}
use Rattle.rss_rsi.specs.Views.{AreLong, AllMayGoOn}
use Rattle.rss_rsi.proofs.ImageScans.{costs_asked, gave_next, idle_asked, idle_same}
use Rattle.rss_rsi.proofs.Looks.{ends_so}
use Rattle.rss_rsi.proofs.Reused.{row_ends, stays_down}
use Rattle.rss_rsi.proofs.ScanCalls.{next_gives, next_lacks, next_stops}
use Rattle.rss_rsi.proofs.Scans.{has_cursor, given_may, lent_none, lent_some, ready_scans}
use Rattle.rss_rsi.proofs.Ways.{ScanTable, asked, refused_test, rss_parts}
use Rattle.rss_rsi.proofs.engine.Rss.next_into.Goals as goal

pub returns-in_err-ask-clause-did : goal.returns-in_err-ask-clause-did
returns-in_err-ask-clause-did g c =
    let down = c.in_err-ask.ensures.down in
    row_ends c.from_residual.result _ c.from_residual.ensures.1 (stays_down view down.0 down.2 (λ up. true≢false (sym down.1 ∙ up)))

pub returns-in_err-test_open-clause-did : goal.returns-in_err-test_open-clause-did
returns-in_err-test_open-clause-did g c =
    let counted = c.in_ok-ask.ensures in
    let tests = c.in_err-test_open.ensures.tests in
    row_ends c.from_residual-in_err-test_open.result _ c.from_residual-in_err-test_open.ensures.1 (asked g.S.Pages.view counted.session counted.locks counted.scans
    (refused_test (Err _) refl counted.was_up counted.up (omega (arith, counted.counted)) tests.1 (λ tables. refl) (λ told state shows. refuses_at _ (tests.0 told state shows))))

pub returns-then-is_none-clause-did : goal.returns-then-is_none-clause-did
returns-then-is_none-clause-did g c =
    let counted = c.in_ok-ask.ensures in
    asked g.S.Pages.view counted.session counted.locks counted.scans
    (next_lacks c.args.transaction c.args.scan c.in_ok-test_open.ensures.tests counted.was_up counted.up (omega (arith, counted.counted)) (lent_none _ c.get.ensures c.if-is_none.ensures) c.no_scan.result c.no_scan.ensures)

pub returns-in_err-key-clause-did : goal.returns-in_err-key-clause-did
returns-in_err-key-clause-did g c =
    let counted = c.in_ok-ask.ensures in
    row_ends c.from_residual-in_err-key.result _ c.from_residual-in_err-key.ensures.1 (ends_so g.S.Pages.view (Err _) refl counted.session counted.locks counted.scans (counted.up ∙ sym counted.was_up)
    (c.in_err-key.ensures.fails c.args.self.now.calls (Next c.args.transaction c.args.scan) (omega (arith, counted.counted)) (record { is = refl; opened = c.in_ok-test_open.ensures.tests })))

pub returns-in_err-key-clause-costs : goal.returns-in_err-key-clause-costs
returns-in_err-key-clause-costs g c =
    let counted = c.in_ok-ask.ensures in
    costs_asked g.S.Pages.view counted.session counted.locks counted.scans (rss_parts g.S.Pages.view c.find_next.new.self.session c.find_next.new.self.locks c.find_next.new.self.scans) c.args.transaction c.args.scan c.in_err-key.ensures.costs

pub invariant_of-self : goal.invariant_of-self
invariant_of-self g c = record {
  ready = λ up.
      let found = c.in_ok-key.ensures in
      let some = lent_some _ c.get.ensures c.if-is_none.ensures in
      let row = rw c.in-Some.is at found.finds in
      let same = ap scans_told found.scans in
      let has = has_cursor (scans_told c.find_next.new.self.scans) c.args.transaction c.args.scan some.0 (ap (λ (scans : ScanTable). cursor_of (scans_told scans) c.args.transaction c.args.scan) found.scans ∙ some.1) in
      let long = subst (λ (cursor : Cursor). AreLong c.find_next.new.self.session.store.catalog.listing cursor.path (Some (c.in-Some.key, c.in-Some.tid))) (sym has.at)
      (subst (λ (catalog : CatalogView). AreLong catalog.listing some.0.path (Some (c.in-Some.key, c.in-Some.tid))) (sym found.looks.catalog) (row.long some.0 some.1)) in
      ready_scans _ (subst (AllMayGoOn c.find_next.new.self.session.store.catalog.listing (session_view g.S.Pages.view c.find_next.new.self.session).opened) (sym (c.gave.ensures has.scan has.there))
      (given_may (scans_told c.find_next.new.self.scans) (c.find_next.new.self.ready up).scans c.args.scan c.in-Some.key c.in-Some.tid has.scan has.there long)) (c.find_next.new.self.ready up);
}

pub returns-in-Some-clause-did : goal.returns-in-Some-clause-did
returns-in-Some-clause-did g c =
    let counted = c.in_ok-ask.ensures in
    let found = c.in_ok-key.ensures in
    let some = lent_some _ c.get.ensures c.if-is_none.ensures in
    asked g.S.Pages.view counted.session counted.locks counted.scans
    (next_gives c.args.transaction c.args.scan c.in_ok-test_open.ensures.tests counted.was_up found.up (omega (arith, counted.counted, found.calls)) some.1 found.looks (ap (λ (l : LockTable). (told l).locks) found.locks)
    c.in-Some.key c.in-Some.tid c.in-Some.tuple (rw c.in-Some.is at found.finds) (gave_next c.args.scan c.in-Some.key c.in-Some.tid (ap scans_told found.scans) c.gave.ensures))

pub returns-in-Some-clause-costs : goal.returns-in-Some-clause-costs
returns-in-Some-clause-costs g c =
    let counted = c.in_ok-ask.ensures in
    costs_asked g.S.Pages.view counted.session counted.locks counted.scans (rss_parts g.S.Pages.view c.find_next.new.self.session c.find_next.new.self.locks c.find_next.new.self.scans) c.args.transaction c.args.scan c.in_ok-key.ensures.costs

pub returns-in-None-clause-did : goal.returns-in-None-clause-did
returns-in-None-clause-did g c =
    let counted = c.in_ok-ask.ensures in
    let found = c.in_ok-key.ensures in
    let some = lent_some _ c.get.ensures c.if-is_none.ensures in
    asked g.S.Pages.view counted.session counted.locks counted.scans
    (next_stops c.args.transaction c.args.scan c.in_ok-test_open.ensures.tests counted.was_up found.up (omega (arith, counted.counted, found.calls)) some.1 found.looks (ap (λ (l : LockTable). (told l).locks) found.locks)
    (rw c.in-None.is at found.finds) (ap scans_told found.scans))

pub returns-in-None-clause-costs : goal.returns-in-None-clause-costs
returns-in-None-clause-costs g c =
    let counted = c.in_ok-ask.ensures in
    costs_asked g.S.Pages.view counted.session counted.locks counted.scans (rss_parts g.S.Pages.view c.find_next.new.self.session c.find_next.new.self.locks c.find_next.new.self.scans) c.args.transaction c.args.scan c.in_ok-key.ensures.costs

-- ---- where all pages are in memory

pub returns-in_err-ask-clause-idle : goal.returns-in_err-ask-clause-idle
returns-in_err-ask-clause-idle g c = idle_same g.S.Pages.view c.in_err-ask.ensures.session

pub returns-in_err-test_open-clause-idle : goal.returns-in_err-test_open-clause-idle
returns-in_err-test_open-clause-idle g c = idle_same g.S.Pages.view c.in_ok-ask.ensures.session

pub returns-then-is_none-clause-idle : goal.returns-then-is_none-clause-idle
returns-then-is_none-clause-idle g c = idle_same g.S.Pages.view c.in_ok-ask.ensures.session

pub returns-in_err-key-clause-idle : goal.returns-in_err-key-clause-idle
returns-in_err-key-clause-idle g c = idle_asked g.S.Pages.view c.in_ok-ask.ensures.session c.in_err-key.ensures.idle

pub returns-in-Some-clause-idle : goal.returns-in-Some-clause-idle
returns-in-Some-clause-idle g c = idle_asked g.S.Pages.view c.in_ok-ask.ensures.session c.in_ok-key.ensures.idle

pub returns-in-None-clause-idle : goal.returns-in-None-clause-idle
returns-in-None-clause-idle g c = idle_asked g.S.Pages.view c.in_ok-ask.ensures.session c.in_ok-key.ensures.idle
