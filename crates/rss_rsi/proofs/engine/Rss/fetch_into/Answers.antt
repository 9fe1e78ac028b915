use Rattle.std.proofs.Common.{◌∙◌, refl, sym, ap, arith}
use Rattle.std.specs.Prelude.{Err}
use Rattle.std.proofs.lemmas.Bool.{true≢false}
use Rattle.rss_base.specs.declared.call.Call.TheVariants.{Fetch}
use Rattle.rss_lock.specs.Table.{told}
use Rattle.rss_scan.specs.Scans.{told as scans_told}
use Rattle.rss_session.specs.Parts.{view as session_view}
use Rattle.rss_trans.specs.Transactions.{OpenView, is_open}
use Rattle.rss_rsi.proofs.Claims.{claimed_free}
use Rattle.rss_rsi.specs.Parts.{view}
use Rattle.rss_rsi.proofs.Fetches.{fetch_looks, fetch_gives}
use Rattle.rss_rsi.proofs.Looks.{ends_so}
use Rattle.rss_rsi.proofs.Reused.{stays_down, tuple_ends}
use Rattle.rss_rsi.proofs.TupleTests.{fetch_unfit, admission_keeps}
use Rattle.rss_rsi.proofs.Ways.{asked, refused_early}
use Rattle.rss_rsi.proofs.engine.Rss.fetch_into.Goals as goal

pub returns-in_err-ask-clause-did : goal.returns-in_err-ask-clause-did
returns-in_err-ask-clause-did g c =
    let down = c.in_err-ask.ensures.down in
    tuple_ends c.from_residual.result _ c.from_residual.ensures.1 (stays_down view down.0 down.2 (λ up. true≢false (sym down.1 ∙ up)))

pub returns-in_err-number-clause-did : goal.returns-in_err-number-clause-did
returns-in_err-number-clause-did g c =
    let counted = c.in_ok-ask.ensures in
    let tests = c.in_err-number.ensures.tests in
    tuple_ends c.from_residual-in_err-number.result _ c.from_residual-in_err-number.ensures.1 (asked g.S.Pages.view counted.session counted.locks counted.scans
    (refused_early (Err _) refl counted.was_up counted.up (omega (arith, counted.counted)) tests.1
    (λ told state shows. (
      fetch_unfit state c.args.transaction c.args.relation.now c.args.tid (tests.0 told state shows),
      admission_keeps state c.args.transaction c.args.relation.now (tests.0 told state shows),
    ))))

pub returns-in_err-found-clause-did : goal.returns-in_err-found-clause-did
returns-in_err-found-clause-did g c =
    let call = Fetch c.args.transaction c.args.relation.now c.args.tid in
    let counted = c.in_ok-ask.ensures in
    tuple_ends c.from_residual-in_err-found.result _ c.from_residual-in_err-found.ensures.1 (ends_so g.S.Pages.view (Err _) refl counted.session counted.locks counted.scans (counted.up ∙ sym counted.was_up)
    (c.in_err-found.ensures.fails c.args.self.now.calls call (omega (arith, counted.counted)) (fetch_looks _ c.args.transaction c.args.relation.now c.args.tid c.in_ok-number.ensures.tests)))

pub hold-requires-clause-open : goal.hold-requires-clause-open
hold-requires-clause-open g c = ap (λ (o : OpenView). is_open o c.args.transaction) c.in_ok-found.ensures.finds.looked.looks.opened ∙ c.in_ok-number.ensures.open

pub hold-requires-clause-free : goal.hold-requires-clause-free
hold-requires-clause-free g c = claimed_free (told c.ask.new.self.locks) (told c.find.new.self.locks) c.in_ok-found.ensures.finds.claimed

pub hold-requires-clause-room : goal.hold-requires-clause-room
hold-requires-clause-room g c = omega (arith, c.in_ok-found.ensures.finds.claimed.room, c.in_ok-found.found.needs.ok)

pub returns-clause-did : goal.returns-clause-did
returns-clause-did g c =
    let counted = c.in_ok-ask.ensures in
    let found = c.in_ok-found.ensures in
    let held = c.hold.ensures in
    asked g.S.Pages.view counted.session counted.locks counted.scans
    (fetch_gives _ c.args.transaction c.args.relation.now c.args.tid c.in_ok-number.ensures.tests found.finds (ap (session_view g.S.Pages.view) held.session) held.locks (ap scans_told (held.scans ∙ found.scans)) counted.was_up (held.down ∙ found.up) (omega (arith, counted.counted, found.calls, held.calls)))
