use Rattle.std.proofs.Common.{◌≡◌, ◌∙◌, ap, arith, length, refl, sym, subst, Vec, Global}
use Rattle.std.specs.Prelude.{Bool, Some, None, Ok, Err, is_some}
use Rattle.rss_base.specs.Listings.{IsNumberOf}
use Rattle.rss_base.specs.declared.call.Call.TheVariants.{Connect}
use Rattle.rss_base.specs.declared.name.Name.{Name}
use Rattle.rss_base.specs.declared.need.Need.{Need}
use Rattle.rss_base.specs.declared.refusal.Kind.TheVariants.{Link as LinkKind}
use Rattle.rss_lock.specs.Table.{told}
use Rattle.rss_lock.specs.declared.locks.Locks.{Locks as LockTable}
use Rattle.rss_members.specs.Calls.{HasForm}
use Rattle.rss_model.specs.Chains.{chain, left_of}
use Rattle.rss_model.specs.Locks.{Locks, first_bar, granted}
use Rattle.rss_model.specs.Machine.{State, now}
use Rattle.rss_scan.specs.Scans.{told as scans_told}
use Rattle.rss_session.specs.Admissions.{Refuses, Says, link_admission}
use Rattle.rss_session.specs.Looks.{LooksOn}
use Rattle.rss_session.specs.Parts.{view as session_view}
use Rattle.rss_session.specs.declared.session.Session.{Session}
use Rattle.rss_session.proofs.Behind.{looks_itself, looks_then}
use Rattle.rss_trans.specs.Transactions.{OpenView, is_open}
use Rattle.rss_rsi.specs.Linking.{connect_tests, kept_by}
use Rattle.rss_rsi.specs.Parts.{parts_of, session_of}
use Rattle.rss_rsi.proofs.Changes.{ends_made, ends_short, still_made}
use Rattle.rss_rsi.proofs.Chained.{link_entry}
use Rattle.rss_rsi.proofs.Claims.{claimed_free, free_as}
use Rattle.rss_rsi.proofs.Connects.{connect_ends}
use Rattle.rss_rsi.proofs.Follows.{linked_early}
use Rattle.rss_rsi.proofs.Places.{link_before, told_page, told_slot}
use Rattle.rss_rsi.proofs.LinkEnds.{refused_so, says_before, still_tested, tested_fails, unclaimed}
use Rattle.rss_rsi.proofs.LinkTests.{connect_linked, linked_refused}
use Rattle.rss_rsi.proofs.Looks.{asked_looked, passed_call}
use Rattle.rss_rsi.proofs.Ways.{asked}
use Rattle.rss_rsi.proofs.engine.Rss.connect.Goals as goal

pub returns-in_err-number-clause-did : goal.returns-in_err-number-clause-did
returns-in_err-number-clause-did g c =
    let counted = c.in_ok-ask.ensures in
    asked g.S.Pages.view counted.session counted.locks counted.scans
    (linked_early (connect_linked c.args.transaction c.args.link.now c.args.child c.args.parent c.args.spot.now) (λ state. link_admission state c.args.transaction c.args.link.now (Some (is_some c.args.parent))) (λ state why is. is) counted.was_up counted.up (omega (arith, counted.counted)) c.from_residual-in_err-number.result c.from_residual-in_err-number.ensures.1
    (subst (λ (b : Bool). Refuses (session_of c.ask.new.self) (λ state. link_admission state c.args.transaction c.args.link.now (Some b)) c.in_err-number.field-0.0) c.is_some.ensures c.in_err-number.ensures.tests))

pub returns-in_err-needs-clause-did : goal.returns-in_err-needs-clause-did
returns-in_err-needs-clause-did g c =
    let counted = c.in_ok-ask.ensures in
    let claim = c.in_err-needs.ensures in
    let linked = connect_linked c.args.transaction c.args.link.now c.args.child c.args.parent c.args.spot.now in
    asked g.S.Pages.view counted.session counted.locks counted.scans
    (passed_call c.from_residual-in_err-needs.result c.from_residual-in_err-needs.ensures.1
    (unclaimed (parts_of c.ask.new.self) (parts_of c.claim.new.self) (looks_itself (tt {0}) counted.ready.session) (omega (arith, counted.counted, claim.calls)) counted.was_up linked.may linked.by linked
    (ap (session_view g.S.Pages.view) claim.session) (claim.down ∙ counted.up)
    (λ told state is_in. ((subst (λ (b : Bool). Says (session_of c.ask.new.self) (λ state. link_admission state c.args.transaction c.args.link.now (Some b)) None) c.is_some.ensures c.in_ok-number.ensures.tests) told state is_in.shows, c.in-Ok.ensures.lists told state is_in))
    _ (Vec Need Global) (told c.ask.new.self.locks) (told c.claim.new.self.locks) refl (record { locks = claim.locks; scans = ap scans_told claim.scans }) claim.ends))

pub test_connect-requires-clause-known : goal.test_connect-requires-clause-known
test_connect-requires-clause-known g c = subst (λ (session : Session _). IsNumberOf LinkKind session.store.catalog.listing c.args.link.now c.in_ok-number.number) (sym c.in_ok-needs.ensures.session) c.in_ok-number.ensures.known

pub test_connect-requires-clause-form : goal.test_connect-requires-clause-form
test_connect-requires-clause-form g c = subst (λ (session : Session _). HasForm session.store.catalog.listing c.in_ok-number.number c.args.parent) (sym c.in_ok-needs.ensures.session) (λ link at. c.in_ok-number.ensures.form link at ∙ c.is_some.ensures)

-- it is refused for what it finds

pub keep-requires-clause-up : goal.keep-requires-clause-up
keep-requires-clause-up g c = λ is. (refused_so c.in-Err.why c.in-Err.ensures.ends is).0

pub keep-requires-clause-open : goal.keep-requires-clause-open
keep-requires-clause-open g c = λ is.
    ap (λ (o : OpenView). is_open o c.args.transaction) (refused_so c.in-Err.why c.in-Err.ensures.ends is).1.opened
    ∙ ap (λ (session : Session _). is_open (session_view g.S.Pages.view session).opened c.args.transaction) c.in_ok-needs.ensures.session ∙ c.in_ok-number.ensures.open

pub keep-requires-clause-free : goal.keep-requires-clause-free
keep-requires-clause-free g c =
    ap (λ (t : LockTable). first_bar (told t).locks c.args.transaction c.in_ok-needs.needs.items) c.test_connect.ensures.locks
    ∙ ap (λ (needs : Vec Need Global). first_bar (told c.claim.new.self.locks).locks c.args.transaction needs.items) c.in_ok-needs.ensures.same
    ∙ claimed_free (told c.ask.new.self.locks) (told c.claim.new.self.locks) c.in_ok-needs.ensures.ends

pub keep-requires-clause-room : goal.keep-requires-clause-room
keep-requires-clause-room g c =
    let claim = c.in_ok-needs.ensures in
    omega (arith, claim.ends.room, ap (λ (needs : Vec Need Global). length needs.items) claim.same, c.in_ok-needs.needs.ok, ap (λ (t : LockTable). (told t).spare) c.test_connect.ensures.locks)

pub returns-in-Err-clause-did : goal.returns-in-Err-clause-did
returns-in-Err-clause-did g c =
    let counted = c.in_ok-ask.ensures in
    let claim = c.in_ok-needs.ensures in
    let keep = c.keep.ensures in
    let call = Connect c.args.transaction c.args.link.now c.args.child c.args.parent c.args.spot.now in
    let linked = connect_linked c.args.transaction c.args.link.now c.args.child c.args.parent c.args.spot.now in
    let looks = subst (λ (session : Session _). LooksOn (session_of c.ask.new.self) (session_view g.S.Pages.view session) (Ok (tt {0}))) (sym claim.session) (looks_itself (tt {0}) counted.ready.session) in
    let same = ap (λ (needs : Vec Need Global). needs.items) (sym claim.same) in
    asked g.S.Pages.view counted.session counted.locks counted.scans
    (passed_call (Err c.keep.result) keep.is
    (tested_fails (parts_of c.ask.new.self) (parts_of c.keep.new.self) looks (omega (arith, counted.counted, claim.calls, c.test_connect.ensures.calls, keep.calls)) counted.was_up linked.may linked.by c.in-Err.why
    (still_tested g.S.Pages.view keep.session keep.down c.in-Err.ensures.ends)
    (keep.locks ∙ ap (λ (locks : Locks). kept_by c.in-Err.why c.args.transaction c.in_ok-needs.needs.items locks) (ap (λ (t : LockTable). (told t).locks) c.test_connect.ensures.locks ∙ claim.locks))
    (ap scans_told (keep.scans ∙ c.test_connect.ensures.scans ∙ claim.scans))
    (λ told state is_in other is.
    let listed = c.in-Ok.ensures.lists told state is_in in
    (listed ∙ same, linked_refused linked state ((subst (λ (b : Bool). Says (session_of c.ask.new.self) (λ state. link_admission state c.args.transaction c.args.link.now (Some b)) None) c.is_some.ensures c.in_ok-number.ensures.tests) told state is_in.shows) (free_as is_in call listed claim.ends) is))))

-- its change is made

pub change-requires-clause-open : goal.change-requires-clause-open
change-requires-clause-open g c =
    ap (λ (o : OpenView). is_open o c.args.transaction) c.in-Ok-test_connect.ensures.ends.by.1.opened
    ∙ ap (λ (session : Session _). is_open (session_view g.S.Pages.view session).opened c.args.transaction) c.in_ok-needs.ensures.session ∙ c.in_ok-number.ensures.open

pub change-requires-clause-asked : goal.change-requires-clause-asked
change-requires-clause-asked g c =
    let counted = c.in_ok-ask.ensures in
    let claim = c.in_ok-needs.ensures in
    let test = c.in-Ok-test_connect.ensures in
    let looks = subst (λ (session : Session _). LooksOn (session_of c.ask.new.self) (session_view g.S.Pages.view session) (Ok (tt {0}))) (sym claim.session) (looks_itself (tt {0}) counted.ready.session) in
    asked_looked (parts_of c.ask.new.self) (parts_of c.test_connect.new.self) counted.ready (looks_then looks test.ends.by.1)
    (record { locks = ap (λ (t : LockTable). (told t).locks) test.locks ∙ claim.locks; scans = ap scans_told (test.scans ∙ claim.scans) }) (test.calls ∙ claim.calls ∙ counted.counted)

pub change-requires-clause-bounded : goal.change-requires-clause-bounded
change-requires-clause-bounded g c = let named = c.in-Ok-test_connect.ensures.named in (told_slot c.args.parent named.0, named.1, told_slot c.in-Ok-test_connect.left named.2)

pub returns-in_err-change-clause-did : goal.returns-in_err-change-clause-did
returns-in_err-change-clause-did g c =
    let counted = c.in_ok-ask.ensures in
    let claim = c.in_ok-needs.ensures in
    let test = c.in-Ok-test_connect.ensures in
    let number = c.in_ok-number.ensures in
    let looks = subst (λ (session : Session _). LooksOn (session_of c.ask.new.self) (session_view g.S.Pages.view session) (Ok (tt {0}))) (sym claim.session) (looks_itself (tt {0}) counted.ready.session) in
    let at = (link_entry c.ask.new.self.session.store.catalog.listing c.args.link.now c.in_ok-number.number number.known).at in
    asked g.S.Pages.view counted.session counted.locks counted.scans
    (ends_short (looks_then looks test.ends.by.1)
    (connect_ends (parts_of c.ask.new.self) c.args.transaction c.args.link.now c.in_ok-number.number number.known at c.args.child (omega arith) c.args.parent c.args.spot.now (λ link at. number.form link at ∙ c.is_some.ensures) (subst (λ (b : Bool). Says (session_of c.ask.new.self) (λ state. link_admission state c.args.transaction c.args.link.now (Some b)) None) c.is_some.ensures number.tests) c.in-Ok.ensures.lists claim.ends
    (says_before looks (connect_tests c.args.link.now c.args.child c.args.parent c.args.spot.now) None test.ends.by.2)
    (link_before looks c.in_ok-number.number (λ (state : State) (name : Name). c.in-Ok-test_connect.left ≡ left_of c.args.spot.now (chain (now state).contents name c.args.parent)) test.left)
    (told_slot c.args.parent test.named.0, test.named.1, told_slot c.in-Ok-test_connect.left test.named.2) (told_page c.args.parent test.named.0, omega arith, told_page c.in-Ok-test_connect.left test.named.2))
    c.from_residual-in_err-change.result c.from_residual-in_err-change.ensures.1 (record { locks = ap (λ (t : LockTable). (told t).locks) (c.change.ensures.locks ∙ test.locks) ∙ claim.locks; scans = ap scans_told (c.change.ensures.scans ∙ test.scans ∙ claim.scans) })
    counted.was_up (omega (arith, counted.counted, claim.calls, test.calls, c.change.ensures.calls)) c.in_err-change.ensures.did)

pub hold-requires-clause-open : goal.hold-requires-clause-open
hold-requires-clause-open g c = c.in_ok-change.ensures.stay c.args.transaction
    (ap (λ (o : OpenView). is_open o c.args.transaction) c.in-Ok-test_connect.ensures.ends.by.1.opened
    ∙ ap (λ (session : Session _). is_open (session_view g.S.Pages.view session).opened c.args.transaction) c.in_ok-needs.ensures.session ∙ c.in_ok-number.ensures.open)

pub hold-requires-clause-free : goal.hold-requires-clause-free
hold-requires-clause-free g c =
    ap (λ (t : LockTable). first_bar (told t).locks c.args.transaction c.in_ok-needs.needs.items) (c.change.ensures.locks ∙ c.test_connect.ensures.locks)
    ∙ ap (λ (needs : Vec Need Global). first_bar (told c.claim.new.self.locks).locks c.args.transaction needs.items) c.in_ok-needs.ensures.same
    ∙ claimed_free (told c.ask.new.self.locks) (told c.claim.new.self.locks) c.in_ok-needs.ensures.ends

pub hold-requires-clause-room : goal.hold-requires-clause-room
hold-requires-clause-room g c =
    let claim = c.in_ok-needs.ensures in
    omega (arith, claim.ends.room, ap (λ (needs : Vec Need Global). length needs.items) claim.same, c.in_ok-needs.needs.ok, ap (λ (t : LockTable). (told t).spare) (c.change.ensures.locks ∙ c.test_connect.ensures.locks))

pub returns-clause-did : goal.returns-clause-did
returns-clause-did g c =
    let counted = c.in_ok-ask.ensures in
    let claim = c.in_ok-needs.ensures in
    let test = c.in-Ok-test_connect.ensures in
    let number = c.in_ok-number.ensures in
    let held = c.hold.ensures in
    let looks = subst (λ (session : Session _). LooksOn (session_of c.ask.new.self) (session_view g.S.Pages.view session) (Ok (tt {0}))) (sym claim.session) (looks_itself (tt {0}) counted.ready.session) in
    let at = (link_entry c.ask.new.self.session.store.catalog.listing c.args.link.now c.in_ok-number.number number.known).at in
    asked g.S.Pages.view counted.session counted.locks counted.scans
    (ends_made (looks_then looks test.ends.by.1)
    (connect_ends (parts_of c.ask.new.self) c.args.transaction c.args.link.now c.in_ok-number.number number.known at c.args.child (omega arith) c.args.parent c.args.spot.now (λ link at. number.form link at ∙ c.is_some.ensures) (subst (λ (b : Bool). Says (session_of c.ask.new.self) (λ state. link_admission state c.args.transaction c.args.link.now (Some b)) None) c.is_some.ensures number.tests) c.in-Ok.ensures.lists claim.ends
    (says_before looks (connect_tests c.args.link.now c.args.child c.args.parent c.args.spot.now) None test.ends.by.2)
    (link_before looks c.in_ok-number.number (λ (state : State) (name : Name). c.in-Ok-test_connect.left ≡ left_of c.args.spot.now (chain (now state).contents name c.args.parent)) test.left)
    (told_slot c.args.parent test.named.0, test.named.1, told_slot c.in-Ok-test_connect.left test.named.2) (told_page c.args.parent test.named.0, omega arith, told_page c.in-Ok-test_connect.left test.named.2))
    (held.locks ∙ ap (λ (t : LockTable). granted c.args.transaction c.in_ok-needs.needs.items (told t).locks) (c.change.ensures.locks ∙ test.locks)
    ∙ ap (λ (needs : Vec Need Global). granted c.args.transaction needs.items (told c.claim.new.self.locks).locks) claim.same ∙ ap (granted c.args.transaction c.in-Ok.needs.items) claim.ends.same)
    (ap scans_told (held.scans ∙ c.change.ensures.scans ∙ test.scans ∙ claim.scans))
    counted.was_up (omega (arith, counted.counted, claim.calls, test.calls, c.change.ensures.calls, held.calls)) (λ told state is_in. tt) (still_made g.S.Pages.view held.session held.down c.in_ok-change.ensures.did))
