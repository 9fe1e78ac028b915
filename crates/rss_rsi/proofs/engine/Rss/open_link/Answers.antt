use Rattle.std.proofs.Common.{◌≡◌, ◌∙◌, ap, arith, refl, sym, subst, true, Vec, Global}
use Rattle.std.specs.Prelude.{Bool, Some, None, Ok, Err, is_some}
use Rattle.std.specs.FinMap.{insert}
use Rattle.std.proofs.lemmas.Bool.{true≢false}
use Rattle.rss_base.specs.Listings.{IsNumberOf}
use Rattle.rss_base.specs.declared.call.Call.TheVariants.{OpenLink}
use Rattle.rss_base.specs.declared.need.Need.{Need}
use Rattle.rss_base.specs.declared.refusal.Kind.TheVariants.{Link as LinkKind}
use Rattle.rss_catalog.specs.Catalogs.{CatalogView}
use Rattle.rss_lock.specs.Table.{told}
use Rattle.rss_lock.specs.declared.locks.Locks.{Locks as LockTable}
use Rattle.rss_members.specs.Calls.{HasForm}
use Rattle.rss_model.specs.Locks.{Locks, granted}
use Rattle.rss_model.proofs.Tests.{refuses_at}
use Rattle.rss_scan.specs.Scans.{IsLeastFree, begun}
use Rattle.rss_scan.specs.Scans.{told as scans_told}
use Rattle.rss_scan.specs.declared.cursor.Path.TheVariants.{Link}
use Rattle.rss_session.specs.Admissions.{HasParents, Refuses, Says, link_admission}
use Rattle.rss_session.specs.Looks.{LooksOn}
use Rattle.rss_session.specs.Parts.{view as session_view}
use Rattle.rss_session.specs.declared.session.Session.{Session}
use Rattle.rss_session.proofs.Behind.{looks_itself, looks_then}
use Rattle.rss_trans.specs.Transactions.{OpenView, is_open}
use Rattle.rss_rsi.specs.Linking.{above_test, kept_by}
use Rattle.rss_rsi.specs.Parts.{parts_of, session_of}
use Rattle.rss_rsi.specs.Views.{HasChain}
use Rattle.rss_rsi.proofs.Claims.{free_as}
use Rattle.rss_rsi.proofs.Follows.{linked_early}
use Rattle.rss_rsi.proofs.LinkOpens.{chain_first, link_admitted, link_full, link_opens, test_passed}
use Rattle.rss_rsi.proofs.LinkEnds.{refused_so, says_before, still_tested, tested_fails, unclaimed}
use Rattle.rss_rsi.proofs.LinkTests.{linked_refused, open_link_linked}
use Rattle.rss_rsi.proofs.Looks.{passed_call}
use Rattle.rss_rsi.proofs.Scans.{opened_may, ready_scans}
use Rattle.rss_rsi.proofs.Ways.{ScanTable, asked}
use Rattle.rss_rsi.proofs.engine.Rss.open_link.Goals as goal

pub returns-in_err-number-clause-did : goal.returns-in_err-number-clause-did
returns-in_err-number-clause-did g c =
    let counted = c.in_ok-ask.ensures in
    asked g.S.Pages.view counted.session counted.locks counted.scans
    (linked_early (open_link_linked c.args.transaction c.args.link.now c.args.parent) (λ state. link_admission state c.args.transaction c.args.link.now (Some (is_some c.args.parent))) (λ state why is. refuses_at _ is) counted.was_up counted.up (omega (arith, counted.counted)) c.from_residual-in_err-number.result c.from_residual-in_err-number.ensures.1
    (subst (λ (b : Bool). Refuses (session_of c.ask.new.self) (λ state. link_admission state c.args.transaction c.args.link.now (Some b)) c.in_err-number.field-0.0) c.is_some.ensures c.in_err-number.ensures.tests))

pub returns-then-is_full-clause-did : goal.returns-then-is_full-clause-did
returns-then-is_full-clause-did g c =
    let counted = c.in_ok-ask.ensures in
    asked g.S.Pages.view counted.session counted.locks counted.scans
    (link_full (parts_of c.ask.new.self) c.args.transaction c.args.link.now c.args.parent (subst (λ (b : Bool). Says (session_of c.ask.new.self) (λ state. link_admission state c.args.transaction c.args.link.now (Some b)) None) c.is_some.ensures c.in_ok-number.ensures.tests) (omega (arith, counted.counted)) counted.was_up counted.up (c.is_full.ensures.0 c.if-is_full.true))

pub returns-in_err-needs-clause-did : goal.returns-in_err-needs-clause-did
returns-in_err-needs-clause-did g c =
    let counted = c.in_ok-ask.ensures in
    let claim = c.in_err-needs.ensures in
    let linked = open_link_linked c.args.transaction c.args.link.now c.args.parent in
    asked g.S.Pages.view counted.session counted.locks counted.scans
    (passed_call c.from_residual-in_err-needs.result c.from_residual-in_err-needs.ensures.1
    (unclaimed (parts_of c.ask.new.self) (parts_of c.claim.new.self) (looks_itself (tt {0}) counted.ready.session) (omega (arith, counted.counted, claim.calls)) counted.was_up linked.may linked.by linked
    (ap (session_view g.S.Pages.view) claim.session) (claim.down ∙ counted.up)
    (λ told state is_in. (
      link_admitted (parts_of c.ask.new.self) c.args.transaction c.args.link.now c.args.parent (subst (λ (b : Bool). Says (session_of c.ask.new.self) (λ state. link_admission state c.args.transaction c.args.link.now (Some b)) None) c.is_some.ensures c.in_ok-number.ensures.tests) (λ full. absurd (true≢false (sym (c.is_full.ensures.1 full) ∙ c.if-is_full.false))) told state is_in,
      c.in-Ok.ensures.lists told state is_in,
    ))
    _ (Vec Need Global) (told c.ask.new.self.locks) (told c.claim.new.self.locks) refl (record { locks = claim.locks; scans = ap scans_told claim.scans }) claim.ends))

pub test_parent-requires-clause-known : goal.test_parent-requires-clause-known
test_parent-requires-clause-known g c = subst (λ (session : Session _). IsNumberOf LinkKind session.store.catalog.listing c.args.link.now c.in_ok-number.number) (sym c.in_ok-needs.ensures.session) c.in_ok-number.ensures.known

pub test_parent-requires-clause-form : goal.test_parent-requires-clause-form
test_parent-requires-clause-form g c = subst (λ (session : Session _). HasForm session.store.catalog.listing c.in_ok-number.number c.args.parent) (sym c.in_ok-needs.ensures.session)
    (subst (HasParents c.ask.new.self.session.store.catalog.listing c.in_ok-number.number) c.is_some.ensures c.in_ok-number.ensures.form)

-- it is refused for what it finds

pub keep-requires-clause-up : goal.keep-requires-clause-up
keep-requires-clause-up g c = λ is. (refused_so c.in-Err.why c.in-Err.ensures.ends is).0

pub keep-requires-clause-open : goal.keep-requires-clause-open
keep-requires-clause-open g c = λ is.
    ap (λ (o : OpenView). is_open o c.args.transaction) (refused_so c.in-Err.why c.in-Err.ensures.ends is).1.opened
    ∙ ap (λ (session : Session _). is_open (session_view g.S.Pages.view session).opened c.args.transaction) c.in_ok-needs.ensures.session ∙ c.in_ok-number.ensures.open

pub returns-in-Err-clause-did : goal.returns-in-Err-clause-did
returns-in-Err-clause-did g c =
    let counted = c.in_ok-ask.ensures in
    let claim = c.in_ok-needs.ensures in
    let keep = c.keep.ensures in
    let call = OpenLink c.args.transaction c.args.link.now c.args.parent in
    let linked = open_link_linked c.args.transaction c.args.link.now c.args.parent in
    let looks = subst (λ (session : Session _). LooksOn (session_of c.ask.new.self) (session_view g.S.Pages.view session) (Ok (tt {0}))) (sym claim.session) (looks_itself (tt {0}) counted.ready.session) in
    let same = ap (λ (needs : Vec Need Global). needs.items) (sym claim.same) in
    asked g.S.Pages.view counted.session counted.locks counted.scans
    (passed_call (Err c.keep.result) keep.is
    (tested_fails (parts_of c.ask.new.self) (parts_of c.keep.new.self) looks (omega (arith, counted.counted, claim.calls, c.test_parent.ensures.calls, keep.calls)) counted.was_up linked.may linked.by c.in-Err.why
    (still_tested g.S.Pages.view keep.session keep.down c.in-Err.ensures.ends)
    (keep.locks ∙ ap (λ (locks : Locks). kept_by c.in-Err.why c.args.transaction c.in_ok-needs.needs.items locks) (ap (λ (t : LockTable). (told t).locks) c.test_parent.ensures.locks ∙ claim.locks))
    (ap scans_told (keep.scans ∙ c.test_parent.ensures.scans ∙ claim.scans))
    (λ told state is_in other is.
    let listed = c.in-Ok.ensures.lists told state is_in in
    let admitted = link_admitted (parts_of c.ask.new.self) c.args.transaction c.args.link.now c.args.parent (subst (λ (b : Bool). Says (session_of c.ask.new.self) (λ state. link_admission state c.args.transaction c.args.link.now (Some b)) None) c.is_some.ensures c.in_ok-number.ensures.tests) (λ full. absurd (true≢false (sym (c.is_full.ensures.1 full) ∙ c.if-is_full.false))) told state is_in in
    (listed ∙ same, linked_refused linked state admitted (free_as is_in call listed claim.ends) is))))

-- or the scan is open

pub invariant_of-self : goal.invariant_of-self
invariant_of-self g c = record {
  ready = λ up.
      let mine = subst (λ (session : Session _). is_open (session_view g.S.Pages.view session).opened c.args.transaction ≡ true) (sym c.hold.ensures.session)
      (ap (λ (o : OpenView). is_open o c.args.transaction) (test_passed c.test_parent.result c.in_default-test_parent.not-Err c.test_parent.ensures.ends).1.opened
      ∙ ap (λ (session : Session _). is_open (session_view g.S.Pages.view session).opened c.args.transaction) c.in_ok-needs.ensures.session ∙ c.in_ok-number.ensures.open) in
      let found = test_passed c.test_parent.result c.in_default-test_parent.not-Err c.test_parent.ensures.ends in
      let number = c.in_ok-number.ensures in
      let form = subst (HasParents c.ask.new.self.session.store.catalog.listing c.in_ok-number.number) c.is_some.ensures number.form in
      let catalog = ap (λ (session : Session _). (session_view g.S.Pages.view session).store.catalog) c.hold.ensures.session ∙ found.1.catalog ∙ ap (λ (session : Session _). (session_view g.S.Pages.view session).store.catalog) c.in_ok-needs.ensures.session in
      let long = subst (λ (catalog : CatalogView). HasChain catalog.listing c.args.link.now c.args.parent) (sym catalog) (chain_first c.ask.new.self.session.store.catalog.listing c.args.link.now c.in_ok-number.number c.args.parent number.known number.first form) in
      ready_scans _ (opened_may _ _ c.args.transaction (Link c.args.link.now c.args.parent) c.add.result c.add.ensures.added c.add.ensures.same mine long (c.hold.new.self.ready up).scans) (c.hold.new.self.ready up);
}

pub returns-clause-did : goal.returns-clause-did
returns-clause-did g c =
    let counted = c.in_ok-ask.ensures in
    let claim = c.in_ok-needs.ensures in
    let test = c.test_parent.ensures in
    let found = test_passed c.test_parent.result c.in_default-test_parent.not-Err test.ends in
    let held = c.hold.ensures in
    let looks = subst (λ (session : Session _). LooksOn (session_of c.ask.new.self) (session_view g.S.Pages.view session) (Ok (tt {0}))) (sym claim.session) (looks_itself (tt {0}) counted.ready.session) in
    let still = subst (λ (session : Session _). LooksOn (session_of c.ask.new.self) (session_view g.S.Pages.view session) (Ok (tt {0}))) (sym held.session) (looks_then looks found.1) in
    let same = held.scans ∙ test.scans ∙ claim.scans in
    asked g.S.Pages.view counted.session counted.locks counted.scans
    (link_opens (parts_of c.ask.new.self) c.args.transaction c.args.link.now c.args.parent (subst (λ (b : Bool). Says (session_of c.ask.new.self) (λ state. link_admission state c.args.transaction c.args.link.now (Some b)) None) c.is_some.ensures c.in_ok-number.ensures.tests) (λ full. absurd (true≢false (sym (c.is_full.ensures.1 full) ∙ c.if-is_full.false)))
    c.in-Ok.ensures.lists claim.ends still (says_before looks (above_test c.args.link.now c.args.parent) _ found.2)
    (held.locks ∙ ap (λ (t : LockTable). granted c.args.transaction c.in_ok-needs.needs.items (told t).locks) test.locks
    ∙ ap (λ (needs : Vec Need Global). granted c.args.transaction needs.items (told c.claim.new.self.locks).locks) claim.same ∙ ap (granted c.args.transaction c.in-Ok.needs.items) claim.ends.same)
    c.in-Some.scan (subst (λ (scans : ScanTable). IsLeastFree (scans_told scans) c.in-Some.scan) same c.in-Some.ensures.least)
    (c.in-Some.ensures.added ∙ ap (λ (scans : ScanTable). insert (scans_told scans) c.in-Some.scan (begun c.args.transaction (Link c.args.link.now c.args.parent))) same)
    (omega (arith, counted.counted, claim.calls, test.calls, held.calls)) counted.was_up (held.down ∙ found.0))

pub hold-requires-clause-up : goal.hold-requires-clause-up
hold-requires-clause-up g c = (test_passed c.test_parent.result c.in_default-test_parent.not-Err c.test_parent.ensures.ends).0

pub hold-requires-clause-open : goal.hold-requires-clause-open
hold-requires-clause-open g c =
    ap (λ (o : OpenView). is_open o c.args.transaction) (test_passed c.test_parent.result c.in_default-test_parent.not-Err c.test_parent.ensures.ends).1.opened
    ∙ ap (λ (session : Session _). is_open (session_view g.S.Pages.view session).opened c.args.transaction) c.in_ok-needs.ensures.session ∙ c.in_ok-number.ensures.open
