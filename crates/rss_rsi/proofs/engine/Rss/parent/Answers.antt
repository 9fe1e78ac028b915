use Rattle.std.proofs.Common.{◌≡◌, ◌∙◌, ap, arith, refl, sym, subst, Vec, Global}
use Rattle.std.specs.Prelude.{Ok, Err}
use Rattle.rss_base.specs.declared.call.Call.TheVariants.{Parent}
use Rattle.rss_base.specs.declared.name.Name.{Name}
use Rattle.rss_base.specs.declared.need.Need.{Need}
use Rattle.rss_lock.specs.Table.{told}
use Rattle.rss_lock.specs.declared.locks.Locks.{Locks as LockTable}
use Rattle.rss_members.specs.Calls.{above_in}
use Rattle.std.specs.FinMap.{get}
use Rattle.rss_model.proofs.Lengths.{identifier_line}
use Rattle.rss_model.specs.Chains.{chain_with}
use Rattle.rss_model.specs.Locks.{Locks, granted}
use Rattle.rss_model.specs.Machine.{State, now}
use Rattle.rss_scan.specs.Scans.{told as scans_told}
use Rattle.rss_session.specs.Looks.{LooksOn}
use Rattle.rss_session.specs.Parts.{view as session_view}
use Rattle.rss_session.specs.declared.session.Session.{Session}
use Rattle.rss_session.proofs.Behind.{looks_itself, looks_then}
use Rattle.rss_trans.specs.Transactions.{OpenView, is_open}
use Rattle.rss_rsi.specs.Linking.{below_test, kept_by}
use Rattle.rss_rsi.specs.Parts.{parts_of, session_of}
use Rattle.rss_rsi.proofs.Chained.{link_entry}
use Rattle.rss_rsi.proofs.Claims.{free_as}
use Rattle.rss_rsi.proofs.Follows.{linked_early}
use Rattle.rss_rsi.proofs.LinkParents.{parent_found, parent_none}
use Rattle.rss_rsi.proofs.LinkNeeds.{parent_split}
use Rattle.rss_rsi.proofs.LinkEnds.{refused_so, says_before, still_tested, tested_fails, unclaimed}
use Rattle.rss_rsi.proofs.LinkTests.{linked_refused, parent_linked}
use Rattle.rss_rsi.proofs.Looks.{passed_call}
use Rattle.rss_rsi.proofs.Places.{link_before}
use Rattle.rss_rsi.proofs.Ways.{asked}
use Rattle.rss_rsi.proofs.engine.Rss.parent.Goals as goal

pub returns-in_err-number-clause-did : goal.returns-in_err-number-clause-did
returns-in_err-number-clause-did g c =
    let counted = c.in_ok-ask.ensures in
    asked g.S.Pages.view counted.session counted.locks counted.scans
    (linked_early (parent_linked c.args.transaction c.args.link.now c.args.child) _ (λ state why is. is) counted.was_up counted.up (omega (arith, counted.counted)) c.from_residual-in_err-number.result c.from_residual-in_err-number.ensures.1 c.in_err-number.ensures.tests)

pub returns-in_err-needs-clause-did : goal.returns-in_err-needs-clause-did
returns-in_err-needs-clause-did g c =
    let counted = c.in_ok-ask.ensures in
    let claim = c.in_err-needs.ensures in
    let linked = parent_linked c.args.transaction c.args.link.now c.args.child in
    asked g.S.Pages.view counted.session counted.locks counted.scans
    (passed_call c.from_residual-in_err-needs.result c.from_residual-in_err-needs.ensures.1
    (unclaimed (parts_of c.ask.new.self) (parts_of c.claim.new.self) (looks_itself (tt {0}) counted.ready.session) (omega (arith, counted.counted, claim.calls)) counted.was_up linked.may linked.by linked
    (ap (session_view g.S.Pages.view) claim.session) (claim.down ∙ counted.up)
    (λ told state is_in. (c.in_ok-number.ensures.tests told state is_in.shows, parent_split (now state) c.args.child (get (now state).definitions.links c.args.link.now) ∙ c.in-Ok.ensures.lists told state is_in))
    _ (Vec Need Global) (told c.ask.new.self.locks) (told c.claim.new.self.locks) refl (record { locks = claim.locks; scans = ap scans_told claim.scans }) claim.ends))

-- it is refused for what it finds

pub keep-requires-clause-up : goal.keep-requires-clause-up
keep-requires-clause-up g c = λ is. (refused_so c.in-Err.why c.in-Err.ensures.ends is).0

pub keep-requires-clause-open : goal.keep-requires-clause-open
keep-requires-clause-open g c = λ is.
    ap (λ (o : OpenView). is_open o c.args.transaction) (refused_so c.in-Err.why c.in-Err.ensures.ends is).1.opened
    ∙ ap (λ (session : Session _). is_open (session_view g.S.Pages.view session).opened c.args.transaction) c.in_ok-needs.ensures.session ∙ c.in_ok-number.ensures.open

pub returns-in-Err-clause-did : goal.returns-in-Err-clause-did
returns-in-Err-clause-did g c =
    let counted = c.in_ok-ask.ensures in
    let claim = c.in_ok-needs.ensures in
    let keep = c.keep.ensures in
    let call = Parent c.args.transaction c.args.link.now c.args.child in
    let linked = parent_linked c.args.transaction c.args.link.now c.args.child in
    let looks = subst (λ (session : Session _). LooksOn (session_of c.ask.new.self) (session_view g.S.Pages.view session) (Ok (tt {0}))) (sym claim.session) (looks_itself (tt {0}) counted.ready.session) in
    let same = ap (λ (needs : Vec Need Global). needs.items) (sym claim.same) in
    asked g.S.Pages.view counted.session counted.locks counted.scans
    (passed_call (Err c.keep.result) keep.is
    (tested_fails (parts_of c.ask.new.self) (parts_of c.keep.new.self) looks (omega (arith, counted.counted, claim.calls, c.find_parent.ensures.calls, keep.calls)) counted.was_up linked.may linked.by c.in-Err.why
    (still_tested g.S.Pages.view keep.session keep.down c.in-Err.ensures.ends)
    (keep.locks ∙ ap (λ (locks : Locks). kept_by c.in-Err.why c.args.transaction c.in_ok-needs.needs.items locks) (ap (λ (t : LockTable). (told t).locks) c.find_parent.ensures.locks ∙ claim.locks))
    (ap scans_told (keep.scans ∙ c.find_parent.ensures.scans ∙ claim.scans))
    (λ told state is_in other is.
    let listed = parent_split (now state) c.args.child (get (now state).definitions.links c.args.link.now) ∙ c.in-Ok.ensures.lists told state is_in in
    (listed ∙ same, linked_refused linked state (c.in_ok-number.ensures.tests told state is_in.shows) (free_as is_in call listed claim.ends) is))))

-- the parent is found, or there is none

pub returns-in-Some-clause-did : goal.returns-in-Some-clause-did
returns-in-Some-clause-did g c =
    let counted = c.in_ok-ask.ensures in
    let claim = c.in_ok-needs.ensures in
    let number = c.in_ok-number.ensures in
    let test = c.in-Ok-find_parent.ensures in
    let held = c.hold.ensures in
    let looks = subst (λ (session : Session _). LooksOn (session_of c.ask.new.self) (session_view g.S.Pages.view session) (Ok (tt {0}))) (sym claim.session) (looks_itself (tt {0}) counted.ready.session) in
    let still = subst (λ (session : Session _). LooksOn (session_of c.ask.new.self) (session_view g.S.Pages.view session) (Ok (tt {0}))) (sym held.session) (looks_then looks test.ends.by.1) in
    let its = link_entry c.ask.new.self.session.store.catalog.listing c.args.link.now c.in_ok-number.number number.known in
    asked g.S.Pages.view counted.session counted.locks counted.scans
    (parent_found (parts_of c.ask.new.self) c.args.transaction c.args.link.now c.in_ok-number.number number.known its.at its.named (number.form its.entry its.at) c.args.child
    number.tests (λ told state is_in. parent_split (now state) c.args.child (get (now state).definitions.links c.args.link.now) ∙ c.in-Ok.ensures.lists told state is_in) claim.ends
    (says_before looks (below_test c.args.link.now c.args.child) _ test.ends.by.2)
    {new = parts_of c.hold.new.self} still
    (held.locks ∙ ap (λ (t : LockTable). granted c.args.transaction c.in_ok-needs.needs.items (told t).locks) test.locks
    ∙ ap (λ (needs : Vec Need Global). granted c.args.transaction needs.items (told c.claim.new.self.locks).locks) claim.same ∙ ap (granted c.args.transaction c.in-Ok.needs.items) claim.ends.same)
    (ap scans_told (held.scans ∙ test.scans ∙ claim.scans))
    (omega (arith, counted.counted, claim.calls, test.calls, held.calls)) counted.was_up (held.down ∙ test.ends.by.0)
    c.in-Ok-find_parent.found c.in-Some.tid c.in-Some.is
    (link_before looks c.in_ok-number.number (λ (state : State) (name : Name). c.in-Ok-find_parent.found ≡ above_in (chain_with (now state).contents name c.args.child)) test.finds)
    (identifier_line c.in-Some.tid (omega arith) (omega arith)))

pub returns-in-None-clause-did : goal.returns-in-None-clause-did
returns-in-None-clause-did g c =
    let counted = c.in_ok-ask.ensures in
    let claim = c.in_ok-needs.ensures in
    let number = c.in_ok-number.ensures in
    let test = c.in-Ok-find_parent.ensures in
    let held = c.hold.ensures in
    let looks = subst (λ (session : Session _). LooksOn (session_of c.ask.new.self) (session_view g.S.Pages.view session) (Ok (tt {0}))) (sym claim.session) (looks_itself (tt {0}) counted.ready.session) in
    let still = subst (λ (session : Session _). LooksOn (session_of c.ask.new.self) (session_view g.S.Pages.view session) (Ok (tt {0}))) (sym held.session) (looks_then looks test.ends.by.1) in
    let its = link_entry c.ask.new.self.session.store.catalog.listing c.args.link.now c.in_ok-number.number number.known in
    asked g.S.Pages.view counted.session counted.locks counted.scans
    (parent_none (parts_of c.ask.new.self) c.args.transaction c.args.link.now c.in_ok-number.number number.known its.at its.named (number.form its.entry its.at) c.args.child
    number.tests (λ told state is_in. parent_split (now state) c.args.child (get (now state).definitions.links c.args.link.now) ∙ c.in-Ok.ensures.lists told state is_in) claim.ends
    (says_before looks (below_test c.args.link.now c.args.child) _ test.ends.by.2)
    {new = parts_of c.hold.new.self} still
    (held.locks ∙ ap (λ (t : LockTable). granted c.args.transaction c.in_ok-needs.needs.items (told t).locks) test.locks
    ∙ ap (λ (needs : Vec Need Global). granted c.args.transaction needs.items (told c.claim.new.self.locks).locks) claim.same ∙ ap (granted c.args.transaction c.in-Ok.needs.items) claim.ends.same)
    (ap scans_told (held.scans ∙ test.scans ∙ claim.scans))
    (omega (arith, counted.counted, claim.calls, test.calls, held.calls)) counted.was_up (held.down ∙ test.ends.by.0)
    c.in-Ok-find_parent.found c.in-None.is
    (link_before looks c.in_ok-number.number (λ (state : State) (name : Name). c.in-Ok-find_parent.found ≡ above_in (chain_with (now state).contents name c.args.child)) test.finds))
