use Rattle.std.proofs.Common.{◌∙◌, ap, arith, length, sym, subst, Vec, Global}
use Rattle.std.specs.Prelude.{Option, None, Ok, Err, IfSome, is_some}
use Rattle.std.proofs.lemmas.Option.{none-some}
use Rattle.rss_base.specs.Listings.{IsNumberOf}
use Rattle.rss_base.specs.declared.need.Need.{Need}
use Rattle.rss_base.specs.declared.refusal.Kind.TheVariants.{Link as LinkKind}
use Rattle.rss_catalog.specs.Catalogs.{CatalogView}
use Rattle.rss_lock.specs.Table.{told}
use Rattle.rss_lock.specs.declared.locks.Locks.{Locks as LockTable}
use Rattle.rss_members.specs.declared.membership.Membership.{Membership}
use Rattle.rss_model.specs.Locks.{Locks, first_bar, granted}
use Rattle.rss_scan.specs.Scans.{told as scans_told}
use Rattle.rss_session.specs.Admissions.{link_admission}
use Rattle.rss_session.specs.Linking.{FindsMembership}
use Rattle.rss_session.specs.Looks.{LooksOn}
use Rattle.rss_session.specs.Parts.{view as session_view}
use Rattle.rss_session.specs.declared.session.Session.{Session}
use Rattle.rss_session.proofs.Behind.{looks_itself}
use Rattle.rss_trans.specs.Transactions.{OpenView, is_open}
use Rattle.rss_rsi.specs.Linking.{IsPlaced, ListsPlaced, kept_by}
use Rattle.rss_rsi.specs.Locking.{IsClaimed}
use Rattle.rss_rsi.specs.Parts.{parts_of, session_of}
use Rattle.rss_rsi.proofs.Changes.{ends_made, ends_short, still_made}
use Rattle.rss_rsi.proofs.Chained.{link_entry}
use Rattle.rss_rsi.proofs.Claims.{claimed_free, claimed_from}
use Rattle.rss_rsi.proofs.Connects.{disconnect_ends, disconnect_lists, stray_refused}
use Rattle.rss_rsi.proofs.Follows.{kept_none, linked_early}
use Rattle.rss_rsi.proofs.LinkEnds.{refused_so, still_tested, tested_fails, unclaimed}
use Rattle.rss_rsi.proofs.LinkTests.{disconnect_linked}
use Rattle.rss_rsi.proofs.Looks.{asked_looked, lacks_costly, passed_call}
use Rattle.rss_rsi.proofs.Places.{told_page, told_slot}
use Rattle.rss_rsi.proofs.Ways.{asked}
use Rattle.rss_rsi.proofs.engine.Rss.disconnect.Goals as goal

pub returns-in_err-number-clause-did : goal.returns-in_err-number-clause-did
returns-in_err-number-clause-did g c =
    let counted = c.in_ok-ask.ensures in
    asked g.S.Pages.view counted.session counted.locks counted.scans
    (linked_early (disconnect_linked c.args.transaction c.args.link.now c.args.child) (λ state. link_admission state c.args.transaction c.args.link.now None) (λ state why is. is) counted.was_up counted.up (omega (arith, counted.counted)) c.from_residual-in_err-number.result c.from_residual-in_err-number.ensures.1 c.in_err-number.ensures.tests)

pub place_of-requires-clause-known : goal.place_of-requires-clause-known
place_of-requires-clause-known g c = ap is_some (link_entry c.ask.new.self.session.store.catalog.listing c.args.link.now c.in_ok-number.number c.in_ok-number.ensures.known).at

pub returns-in_err-place-clause-did : goal.returns-in_err-place-clause-did
returns-in_err-place-clause-did g c =
    let counted = c.in_ok-ask.ensures in
    let look = c.in_err-place.ensures in
    let linked = disconnect_linked c.args.transaction c.args.link.now c.args.child in
    asked g.S.Pages.view counted.session counted.locks counted.scans
    (passed_call c.from_residual-in_err-place.result c.from_residual-in_err-place.ensures.1
    (tested_fails (parts_of c.ask.new.self) (parts_of c.place_of.new.self) (looks_itself (tt {0}) counted.ready.session) (omega (arith, counted.counted, look.calls)) counted.was_up linked.may linked.by _ look.ends
    (ap (λ (t : LockTable). (told t).locks) look.locks ∙ sym (kept_none _ c.args.transaction (told c.ask.new.self.locks).locks)) (ap scans_told look.scans)
    (λ told state is_in other is. absurd (none-some other is))))

pub disconnect_needs-requires : goal.disconnect_needs-requires
disconnect_needs-requires g c = record { known = subst (λ (catalog : CatalogView). IsNumberOf LinkKind catalog.listing c.args.link.now c.in_ok-number.number) (sym c.in_ok-place.ensures.ends.by.1.catalog) c.in_ok-number.ensures.known }

-- memory for its locks runs out

pub returns-in_default-clause-did : goal.returns-in_default-clause-did
returns-in_default-clause-did g c =
    let counted = c.in_ok-ask.ensures in
    let look = c.in_ok-place.ensures in
    asked g.S.Pages.view counted.session counted.locks counted.scans
    (lacks_costly (parts_of c.ask.new.self) (parts_of c.place_of.new.self) look.ends.by.1 (omega (arith, counted.counted, look.calls)) (disconnect_linked c.args.transaction c.args.link.now c.args.child).may counted.was_up look.ends.by.0
    (record { locks = ap (λ (t : LockTable). (told t).locks) look.locks; scans = ap scans_told look.scans }))

pub returns-in_err-needs-clause-did : goal.returns-in_err-needs-clause-did
returns-in_err-needs-clause-did g c =
    let counted = c.in_ok-ask.ensures in
    let look = c.in_ok-place.ensures in
    let claim = c.in_err-needs.ensures in
    let number = c.in_ok-number.ensures in
    let linked = disconnect_linked c.args.transaction c.args.link.now c.args.child in
    let at = (link_entry c.ask.new.self.session.store.catalog.listing c.args.link.now c.in_ok-number.number number.known).at in
    let same = ap (λ (t : LockTable). (told t).locks) look.locks in
    let lists = disconnect_lists (parts_of c.ask.new.self) c.args.transaction c.args.link.now c.in_ok-number.number number.known at c.args.child (omega arith) {mid = parts_of c.place_of.new.self} look.ends.by.1 (record { locks = same; scans = ap scans_told look.scans }) c.in_ok-place.place look.finds c.in-Ok.ensures.lists in
    asked g.S.Pages.view counted.session counted.locks counted.scans
    (passed_call c.from_residual-in_err-needs.result c.from_residual-in_err-needs.ensures.1
    (unclaimed (parts_of c.ask.new.self) (parts_of c.claim.new.self) look.ends.by.1 (omega (arith, counted.counted, look.calls, claim.calls)) counted.was_up linked.may linked.by linked
    (ap (session_view g.S.Pages.view) claim.session) (claim.down ∙ look.ends.by.0)
    (λ told state is_in. (number.tests told state is_in.shows, lists told state is_in))
    _ (Vec Need Global) (told c.place_of.new.self.locks) (told c.claim.new.self.locks) same (record { locks = claim.locks ∙ same; scans = ap scans_told (claim.scans ∙ look.scans) }) claim.ends))

-- it stands in no chain

pub why_outside-why-requires-clause-known : goal.why_outside-why-requires-clause-known
why_outside-why-requires-clause-known g c =
    subst (λ (session : Session _). IsNumberOf LinkKind session.store.catalog.listing c.args.link.now c.in_ok-number.number) (sym c.in_ok-needs.ensures.session)
    (subst (λ (catalog : CatalogView). IsNumberOf LinkKind catalog.listing c.args.link.now c.in_ok-number.number) (sym c.in_ok-place.ensures.ends.by.1.catalog) c.in_ok-number.ensures.known)

pub keep-requires-clause-up : goal.keep-requires-clause-up
keep-requires-clause-up g c = λ is. (refused_so c.why_outside-why.result c.why_outside-why.ensures.ends is).0

pub keep-requires-clause-open : goal.keep-requires-clause-open
keep-requires-clause-open g c = λ is.
    ap (λ (o : OpenView). is_open o c.args.transaction) (refused_so c.why_outside-why.result c.why_outside-why.ensures.ends is).1.opened
    ∙ ap (λ (session : Session _). is_open (session_view g.S.Pages.view session).opened c.args.transaction) c.in_ok-needs.ensures.session
    ∙ ap (λ (o : OpenView). is_open o c.args.transaction) c.in_ok-place.ensures.ends.by.1.opened ∙ c.in_ok-number.ensures.open

pub keep-requires-clause-free : goal.keep-requires-clause-free
keep-requires-clause-free g c =
    ap (λ (t : LockTable). first_bar (told t).locks c.args.transaction c.in_ok-needs.needs.items) c.why_outside-why.ensures.locks
    ∙ ap (λ (needs : Vec Need Global). first_bar (told c.claim.new.self.locks).locks c.args.transaction needs.items) c.in_ok-needs.ensures.same
    ∙ claimed_free (told c.place_of.new.self.locks) (told c.claim.new.self.locks) c.in_ok-needs.ensures.ends

pub keep-requires-clause-room : goal.keep-requires-clause-room
keep-requires-clause-room g c =
    let claim = c.in_ok-needs.ensures in
    omega (arith, claim.ends.room, ap (λ (needs : Vec Need Global). length needs.items) claim.same, c.in_ok-needs.needs.ok, ap (λ (t : LockTable). (told t).spare) c.why_outside-why.ensures.locks)

pub returns-in_default-place-clause-did : goal.returns-in_default-place-clause-did
returns-in_default-place-clause-did g c =
    let counted = c.in_ok-ask.ensures in
    let look = c.in_ok-place.ensures in
    let claim = c.in_ok-needs.ensures in
    let keep = c.keep.ensures in
    let number = c.in_ok-number.ensures in
    let why = c.why_outside-why.ensures in
    let linked = disconnect_linked c.args.transaction c.args.link.now c.args.child in
    let at = (link_entry c.ask.new.self.session.store.catalog.listing c.args.link.now c.in_ok-number.number number.known).at in
    let same = ap (λ (t : LockTable). (told t).locks) look.locks in
    let looks = subst (λ (session : Session _). LooksOn (session_of c.ask.new.self) (session_view g.S.Pages.view session) (Ok (tt {0}))) (sym claim.session) look.ends.by.1 in
    let lists = disconnect_lists (parts_of c.ask.new.self) c.args.transaction c.args.link.now c.in_ok-number.number number.known at c.args.child (omega arith) {mid = parts_of c.place_of.new.self} look.ends.by.1 (record { locks = same; scans = ap scans_told look.scans }) c.in_ok-place.place look.finds
    (subst (λ (v : Vec Need Global). ListsPlaced (parts_of c.place_of.new.self) c.args.link.now c.args.child c.in_ok-place.place v.items) (sym claim.same) c.in-Ok.ensures.lists) in
    let claimed = subst (λ (v : Vec Need Global). IsClaimed (told c.ask.new.self.locks) (told c.claim.new.self.locks) c.args.transaction v.items) (sym claim.same) (claimed_from (told c.ask.new.self.locks) (told c.place_of.new.self.locks) (told c.claim.new.self.locks) same claim.ends) in
    asked g.S.Pages.view counted.session counted.locks counted.scans
    (passed_call (Err c.keep.result) keep.is
    (tested_fails (parts_of c.ask.new.self) (parts_of c.keep.new.self) looks (omega (arith, counted.counted, look.calls, claim.calls, why.calls, keep.calls)) counted.was_up linked.may linked.by c.why_outside-why.result
    (still_tested g.S.Pages.view keep.session keep.down why.ends)
    (keep.locks ∙ ap (λ (locks : Locks). kept_by c.why_outside-why.result c.args.transaction c.in_ok-needs.needs.items locks) (ap (λ (t : LockTable). (told t).locks) why.locks ∙ claim.locks ∙ same))
    (ap scans_told (keep.scans ∙ why.scans ∙ claim.scans ∙ look.scans))
    (stray_refused (parts_of c.ask.new.self) c.args.transaction c.args.link.now c.in_ok-number.number number.known at c.args.child (omega arith) c.in_ok-place.place c.in_default-place.is look.finds number.tests lists claimed)))

-- its change is made

pub change-requires-clause-open : goal.change-requires-clause-open
change-requires-clause-open g c =
    ap (λ (session : Session _). is_open (session_view g.S.Pages.view session).opened c.args.transaction) c.in_ok-needs.ensures.session
    ∙ ap (λ (o : OpenView). is_open o c.args.transaction) c.in_ok-place.ensures.ends.by.1.opened ∙ c.in_ok-number.ensures.open

pub change-requires-clause-asked : goal.change-requires-clause-asked
change-requires-clause-asked g c =
    let counted = c.in_ok-ask.ensures in
    let look = c.in_ok-place.ensures in
    let claim = c.in_ok-needs.ensures in
    let looks = subst (λ (session : Session _). LooksOn (session_of c.ask.new.self) (session_view g.S.Pages.view session) (Ok (tt {0}))) (sym claim.session) look.ends.by.1 in
    asked_looked (parts_of c.ask.new.self) (parts_of c.claim.new.self) counted.ready looks
    (record { locks = claim.locks ∙ ap (λ (t : LockTable). (told t).locks) look.locks; scans = ap scans_told (claim.scans ∙ look.scans) }) (claim.calls ∙ look.calls ∙ counted.counted)

pub change-requires-clause-bounded : goal.change-requires-clause-bounded
change-requires-clause-bounded g c =
    let placed = subst (λ (p : Option Membership). IfSome p (IsPlaced c.args.child)) c.in-Some.is c.in_ok-place.ensures.placed in
    (told_slot c.in-Some.place.parent placed.parent, placed.child_slot, told_slot c.in-Some.place.left placed.left)

pub returns-in_err-change-clause-did : goal.returns-in_err-change-clause-did
returns-in_err-change-clause-did g c =
    let counted = c.in_ok-ask.ensures in
    let look = c.in_ok-place.ensures in
    let claim = c.in_ok-needs.ensures in
    let number = c.in_ok-number.ensures in
    let at = (link_entry c.ask.new.self.session.store.catalog.listing c.args.link.now c.in_ok-number.number number.known).at in
    let same = ap (λ (t : LockTable). (told t).locks) look.locks in
    let looks = subst (λ (session : Session _). LooksOn (session_of c.ask.new.self) (session_view g.S.Pages.view session) (Ok (tt {0}))) (sym claim.session) look.ends.by.1 in
    let lists = disconnect_lists (parts_of c.ask.new.self) c.args.transaction c.args.link.now c.in_ok-number.number number.known at c.args.child (omega arith) {mid = parts_of c.place_of.new.self} look.ends.by.1 (record { locks = same; scans = ap scans_told look.scans }) c.in_ok-place.place look.finds c.in-Ok.ensures.lists in
    let claimed = claimed_from (told c.ask.new.self.locks) (told c.place_of.new.self.locks) (told c.claim.new.self.locks) same claim.ends in
    let placed = subst (λ (p : Option Membership). IfSome p (IsPlaced c.args.child)) c.in-Some.is look.placed in
    asked g.S.Pages.view counted.session counted.locks counted.scans
    (ends_short looks
    (disconnect_ends (parts_of c.ask.new.self) c.args.transaction c.args.link.now c.in_ok-number.number number.known at c.args.child (omega arith) c.in-Some.place (subst (FindsMembership (session_of c.ask.new.self) c.in_ok-number.number c.args.child) c.in-Some.is look.finds) number.tests lists claimed
    (told_slot c.in-Some.place.parent placed.parent, placed.child_slot, told_slot c.in-Some.place.left placed.left) (told_page c.in-Some.place.parent placed.parent, omega arith, told_page c.in-Some.place.left placed.left))
    c.from_residual-in_err-change.result c.from_residual-in_err-change.ensures.1 (record { locks = ap (λ (t : LockTable). (told t).locks) c.change.ensures.locks ∙ claim.locks ∙ same; scans = ap scans_told (c.change.ensures.scans ∙ claim.scans ∙ look.scans) })
    counted.was_up (omega (arith, counted.counted, look.calls, claim.calls, c.change.ensures.calls)) c.in_err-change.ensures.did)

pub hold-requires-clause-open : goal.hold-requires-clause-open
hold-requires-clause-open g c = c.in_ok-change.ensures.stay c.args.transaction
    (ap (λ (session : Session _). is_open (session_view g.S.Pages.view session).opened c.args.transaction) c.in_ok-needs.ensures.session
    ∙ ap (λ (o : OpenView). is_open o c.args.transaction) c.in_ok-place.ensures.ends.by.1.opened ∙ c.in_ok-number.ensures.open)

pub hold-requires-clause-free : goal.hold-requires-clause-free
hold-requires-clause-free g c =
    ap (λ (t : LockTable). first_bar (told t).locks c.args.transaction c.in_ok-needs.needs.items) c.change.ensures.locks
    ∙ ap (λ (needs : Vec Need Global). first_bar (told c.claim.new.self.locks).locks c.args.transaction needs.items) c.in_ok-needs.ensures.same
    ∙ claimed_free (told c.place_of.new.self.locks) (told c.claim.new.self.locks) c.in_ok-needs.ensures.ends

pub hold-requires-clause-room : goal.hold-requires-clause-room
hold-requires-clause-room g c =
    let claim = c.in_ok-needs.ensures in
    omega (arith, claim.ends.room, ap (λ (needs : Vec Need Global). length needs.items) claim.same, c.in_ok-needs.needs.ok, ap (λ (t : LockTable). (told t).spare) c.change.ensures.locks)

pub returns-clause-did : goal.returns-clause-did
returns-clause-did g c =
    let counted = c.in_ok-ask.ensures in
    let look = c.in_ok-place.ensures in
    let claim = c.in_ok-needs.ensures in
    let number = c.in_ok-number.ensures in
    let held = c.hold.ensures in
    let at = (link_entry c.ask.new.self.session.store.catalog.listing c.args.link.now c.in_ok-number.number number.known).at in
    let same = ap (λ (t : LockTable). (told t).locks) look.locks in
    let looks = subst (λ (session : Session _). LooksOn (session_of c.ask.new.self) (session_view g.S.Pages.view session) (Ok (tt {0}))) (sym claim.session) look.ends.by.1 in
    let lists = disconnect_lists (parts_of c.ask.new.self) c.args.transaction c.args.link.now c.in_ok-number.number number.known at c.args.child (omega arith) {mid = parts_of c.place_of.new.self} look.ends.by.1 (record { locks = same; scans = ap scans_told look.scans }) c.in_ok-place.place look.finds c.in-Ok.ensures.lists in
    let claimed = claimed_from (told c.ask.new.self.locks) (told c.place_of.new.self.locks) (told c.claim.new.self.locks) same claim.ends in
    let placed = subst (λ (p : Option Membership). IfSome p (IsPlaced c.args.child)) c.in-Some.is look.placed in
    asked g.S.Pages.view counted.session counted.locks counted.scans
    (ends_made looks
    (disconnect_ends (parts_of c.ask.new.self) c.args.transaction c.args.link.now c.in_ok-number.number number.known at c.args.child (omega arith) c.in-Some.place (subst (FindsMembership (session_of c.ask.new.self) c.in_ok-number.number c.args.child) c.in-Some.is look.finds) number.tests lists claimed
    (told_slot c.in-Some.place.parent placed.parent, placed.child_slot, told_slot c.in-Some.place.left placed.left) (told_page c.in-Some.place.parent placed.parent, omega arith, told_page c.in-Some.place.left placed.left))
    (held.locks ∙ ap (λ (t : LockTable). granted c.args.transaction c.in_ok-needs.needs.items (told t).locks) c.change.ensures.locks
    ∙ ap (λ (needs : Vec Need Global). granted c.args.transaction needs.items (told c.claim.new.self.locks).locks) claim.same ∙ ap (granted c.args.transaction c.in-Ok.needs.items) claimed.same)
    (ap scans_told (held.scans ∙ c.change.ensures.scans ∙ claim.scans ∙ look.scans))
    counted.was_up (omega (arith, counted.counted, look.calls, claim.calls, c.change.ensures.calls, held.calls)) (λ told state is_in. tt) (still_made g.S.Pages.view held.session held.down c.in_ok-change.ensures.did))
