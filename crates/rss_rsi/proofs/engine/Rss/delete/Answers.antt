use Rattle.std.proofs.Common.{◌≡◌, ◌∙◌, sym, ap, arith, subst, List}
use Rattle.std.specs.Prelude.{Some, None, Err, is_some}
use Rattle.rss_base.specs.Listings.{relation_at}
use Rattle.rss_base.specs.TupleTypes.{kinds, misfit}
use Rattle.rss_base.specs.declared.field.FieldDef.{FieldDef}
use Rattle.rss_base.specs.declared.call.Call.TheVariants.{Delete}
use Rattle.rss_catalog.specs.Catalogs.{CatalogView}
use Rattle.rss_access.proofs.Numbered.{entry_at}
use Rattle.rss_lock.specs.Table.{told}
use Rattle.rss_scan.specs.Scans.{told as scans_told}
use Rattle.rss_lock.specs.declared.locks.Locks.{Locks as LockTable}
use Rattle.rss_base.specs.declared.name.Name.{Name}
use Rattle.rss_model.specs.Locks.{Locks, first_bar, granted}
use Rattle.rss_model.specs.Refusals.{if_connected}
use Rattle.rss_trans.specs.Transactions.{OpenView, is_open}
use Rattle.rss_rsi.specs.Parts.{parts_of}
use Rattle.rss_rsi.proofs.Changes.{still_made, ends_short, ends_made}
use Rattle.rss_rsi.proofs.Claims.{claimed_free}
use Rattle.rss_rsi.proofs.Looks.{ends_so, asked_looked, passed_call}
use Rattle.rss_rsi.proofs.TupleTests.{delete_unfit, admission_keeps}
use Rattle.rss_rsi.specs.Linking.{kept_by}
use Rattle.rss_rsi.proofs.Deletes.{alone_found, delete_connected, delete_looks, delete_ends, listed_found}
use Rattle.rss_rsi.proofs.LinkEnds.{refused_so, still_tested, tested_fails}
use Rattle.rss_rsi.proofs.LinkTests.{delete_linked}
use Rattle.rss_session.proofs.Behind.{looks_then}
use Rattle.rss_rsi.proofs.Ways.{asked, refused_early}
use Rattle.rss_rsi.proofs.engine.Rss.delete.Goals as goal

pub returns-in_err-number-clause-did : goal.returns-in_err-number-clause-did
returns-in_err-number-clause-did g c =
    let counted = c.in_ok-ask.ensures in
    let tests = c.in_err-number.ensures.tests in
    asked g.S.Pages.view counted.session counted.locks counted.scans
    (refused_early c.from_residual-in_err-number.result c.from_residual-in_err-number.ensures.1 counted.was_up counted.up (omega (arith, counted.counted)) tests.1
    (λ told state shows. (
      delete_unfit state c.args.transaction c.args.relation.now c.args.tid (tests.0 told state shows),
      admission_keeps state c.args.transaction c.args.relation.now (tests.0 told state shows),
    )))

pub returns-in_err-found-clause-did : goal.returns-in_err-found-clause-did
returns-in_err-found-clause-did g c =
    let counted = c.in_ok-ask.ensures in
    ends_so g.S.Pages.view c.from_residual-in_err-found.result c.from_residual-in_err-found.ensures.1 counted.session counted.locks counted.scans (counted.up ∙ sym counted.was_up)
    (c.in_err-found.ensures.fails c.args.self.now.calls (Delete c.args.transaction c.args.relation.now c.args.tid) (omega (arith, counted.counted))
    (delete_looks _ c.args.transaction c.args.relation.now c.args.tid c.in_ok-number.ensures.tests))

-- the tuple stands in a chain, or has one

pub test_unconnected-requires-clause-known : goal.test_unconnected-requires-clause-known
test_unconnected-requires-clause-known g c =
    ap (λ (catalog : CatalogView). is_some (relation_at catalog.listing c.in_ok-number.number)) c.in_ok-found.ensures.finds.looked.looks.catalog
    ∙ ap is_some (entry_at c.ask.new.self.session.store.catalog.listing c.args.relation.now c.in_ok-number.number c.in_ok-number.ensures.known).at

pub keep-requires-clause-up : goal.keep-requires-clause-up
keep-requires-clause-up g c = λ is. (refused_so c.in-Err.why (c.in-Err.ensures.ends _ (listed_found c.in_ok-found.ensures.finds c.in_ok-number.ensures.known)) is).0

pub keep-requires-clause-open : goal.keep-requires-clause-open
keep-requires-clause-open g c = λ is.
    ap (λ (o : OpenView). is_open o c.args.transaction) ((refused_so c.in-Err.why (c.in-Err.ensures.ends _ (listed_found c.in_ok-found.ensures.finds c.in_ok-number.ensures.known)) is).1.opened ∙ c.in_ok-found.ensures.finds.looked.looks.opened) ∙ c.in_ok-number.ensures.open

pub keep-requires-clause-free : goal.keep-requires-clause-free
keep-requires-clause-free g c =
    ap (λ (t : LockTable). first_bar (told t).locks c.args.transaction c.in_ok-found.found.needs.items) c.test_unconnected.ensures.locks
    ∙ claimed_free (told c.ask.new.self.locks) (told c.find.new.self.locks) c.in_ok-found.ensures.finds.claimed

pub keep-requires-clause-room : goal.keep-requires-clause-room
keep-requires-clause-room g c =
    omega (arith, c.in_ok-found.ensures.finds.claimed.room, c.in_ok-found.found.needs.ok, ap (λ (t : LockTable). (told t).spare) c.test_unconnected.ensures.locks)

pub returns-in-Err-clause-did : goal.returns-in-Err-clause-did
returns-in-Err-clause-did g c =
    let counted = c.in_ok-ask.ensures in
    let admitted = c.in_ok-number.ensures in
    let found = c.in_ok-found.ensures in
    let keep = c.keep.ensures in
    let linked = delete_linked c.args.transaction c.args.relation.now c.args.tid in
    let its = entry_at c.ask.new.self.session.store.catalog.listing c.args.relation.now c.in_ok-number.number admitted.known in
    asked g.S.Pages.view counted.session counted.locks counted.scans
    (passed_call (Err c.keep.result) keep.is
    (tested_fails (parts_of c.ask.new.self) (parts_of c.keep.new.self) found.finds.looked.looks (omega (arith, counted.counted, found.calls, c.test_unconnected.ensures.calls, keep.calls)) counted.was_up linked.may linked.by c.in-Err.why
    (still_tested g.S.Pages.view keep.session keep.down (c.in-Err.ensures.ends _ (listed_found found.finds admitted.known)))
    (keep.locks ∙ ap (λ (locks : Locks). kept_by c.in-Err.why c.args.transaction c.in_ok-found.found.needs.items locks) (ap (λ (t : LockTable). (told t).locks) c.test_unconnected.ensures.locks ∙ found.finds.claimed.same))
    (ap scans_told (keep.scans ∙ c.test_unconnected.ensures.scans ∙ found.scans))
    (λ told state is_in other is. delete_connected (parts_of c.ask.new.self) c.args.transaction c.args.relation.now c.args.tid admitted.tests found.finds told state is_in other
    (subst (λ (name : Name). if_connected state name c.args.tid ≡ Some other) its.named is))))

-- it is taken away

pub relation-entry-requires : goal.relation-entry-requires
relation-entry-requires g c =
    ap (λ (catalog : CatalogView). is_some (relation_at catalog.listing c.in_ok-number.number)) ((c.in-Ok.ensures.ends _ (listed_found c.in_ok-found.ensures.finds c.in_ok-number.ensures.known)).by.1.catalog ∙ c.in_ok-found.ensures.finds.looked.looks.catalog)
    ∙ ap is_some (entry_at c.ask.new.self.session.store.catalog.listing c.args.relation.now c.in_ok-number.number c.in_ok-number.ensures.known).at

pub values_of-requires-clause-fit : goal.values_of-requires-clause-fit
values_of-requires-clause-fit g c =
    subst (λ (fields : List FieldDef). misfit (kinds fields) c.in_ok-found.found.tuple ≡ None) (sym c.as_slice.ensures)
    (c.in_ok-found.ensures.finds.finds.fit c.relation-entry.result.now
    (ap (λ (catalog : CatalogView). relation_at catalog.listing c.in_ok-number.number) (sym c.in_ok-found.ensures.finds.looked.looks.catalog ∙ sym (c.in-Ok.ensures.ends _ (listed_found c.in_ok-found.ensures.finds c.in_ok-number.ensures.known)).by.1.catalog) ∙ c.relation-entry.ensures.is))

pub change-requires-clause-up : goal.change-requires-clause-up
change-requires-clause-up g c = (c.in-Ok.ensures.ends _ (listed_found c.in_ok-found.ensures.finds c.in_ok-number.ensures.known)).by.0

pub change-requires-clause-open : goal.change-requires-clause-open
change-requires-clause-open g c =
    ap (λ (o : OpenView). is_open o c.args.transaction) ((c.in-Ok.ensures.ends _ (listed_found c.in_ok-found.ensures.finds c.in_ok-number.ensures.known)).by.1.opened ∙ c.in_ok-found.ensures.finds.looked.looks.opened) ∙ c.in_ok-number.ensures.open

pub change-requires-clause-asked : goal.change-requires-clause-asked
change-requires-clause-asked g c =
    let counted = c.in_ok-ask.ensures in
    let found = c.in_ok-found.ensures in
    let test = c.in-Ok.ensures in
    asked_looked (parts_of c.ask.new.self) (parts_of c.test_unconnected.new.self) counted.ready (looks_then found.finds.looked.looks (test.ends _ (listed_found found.finds c.in_ok-number.ensures.known)).by.1)
    (record { locks = ap (λ (t : LockTable). (told t).locks) test.locks ∙ found.finds.claimed.same; scans = ap scans_told (test.scans ∙ found.scans) }) (test.calls ∙ found.calls ∙ counted.counted)

pub returns-in_err-change-clause-did : goal.returns-in_err-change-clause-did
returns-in_err-change-clause-did g c =
    let counted = c.in_ok-ask.ensures in
    let admitted = c.in_ok-number.ensures in
    let found = c.in_ok-found.ensures in
    let test = c.in-Ok.ensures in
    let its = (test.ends _ (listed_found found.finds admitted.known)).by in
    asked g.S.Pages.view counted.session counted.locks counted.scans
    (ends_short (looks_then found.finds.looked.looks its.1)
    (delete_ends _ c.args.transaction c.args.relation.now c.args.tid admitted.tests found.finds admitted.known (ap (λ (catalog : CatalogView). relation_at catalog.listing c.in_ok-number.number) (sym its.1.catalog) ∙ c.relation-entry.ensures.is) (omega arith) (omega arith) c.as_slice.ensures c.values_of.ensures.spelled c.values_of.ensures.short
    (alone_found (parts_of c.ask.new.self) found.finds admitted.known its.2))
    c.from_residual-in_err-change.result c.from_residual-in_err-change.ensures.1 (record { locks = ap (λ (t : LockTable). (told t).locks) (c.change.ensures.locks ∙ test.locks) ∙ found.finds.claimed.same; scans = ap scans_told (c.change.ensures.scans ∙ test.scans ∙ found.scans) })
    counted.was_up (omega (arith, counted.counted, found.calls, test.calls, c.change.ensures.calls)) c.in_err-change.ensures.did)

pub hold-requires-clause-open : goal.hold-requires-clause-open
hold-requires-clause-open g c = c.in_ok-change.ensures.stay c.args.transaction
    (ap (λ (o : OpenView). is_open o c.args.transaction) ((c.in-Ok.ensures.ends _ (listed_found c.in_ok-found.ensures.finds c.in_ok-number.ensures.known)).by.1.opened ∙ c.in_ok-found.ensures.finds.looked.looks.opened) ∙ c.in_ok-number.ensures.open)

pub hold-requires-clause-free : goal.hold-requires-clause-free
hold-requires-clause-free g c =
    ap (λ (t : LockTable). first_bar (told t).locks c.args.transaction c.in_ok-found.found.needs.items) (c.change.ensures.locks ∙ c.test_unconnected.ensures.locks)
    ∙ claimed_free (told c.ask.new.self.locks) (told c.find.new.self.locks) c.in_ok-found.ensures.finds.claimed

pub hold-requires-clause-room : goal.hold-requires-clause-room
hold-requires-clause-room g c =
    omega (arith, c.in_ok-found.ensures.finds.claimed.room, c.in_ok-found.found.needs.ok, ap (λ (t : LockTable). (told t).spare) (c.change.ensures.locks ∙ c.test_unconnected.ensures.locks))

pub returns-clause-did : goal.returns-clause-did
returns-clause-did g c =
    let counted = c.in_ok-ask.ensures in
    let admitted = c.in_ok-number.ensures in
    let found = c.in_ok-found.ensures in
    let test = c.in-Ok.ensures in
    let its = (test.ends _ (listed_found found.finds admitted.known)).by in
    let held = c.hold.ensures in
    asked g.S.Pages.view counted.session counted.locks counted.scans
    (ends_made (looks_then found.finds.looked.looks its.1)
    (delete_ends _ c.args.transaction c.args.relation.now c.args.tid admitted.tests found.finds admitted.known (ap (λ (catalog : CatalogView). relation_at catalog.listing c.in_ok-number.number) (sym its.1.catalog) ∙ c.relation-entry.ensures.is) (omega arith) (omega arith) c.as_slice.ensures c.values_of.ensures.spelled c.values_of.ensures.short
    (alone_found (parts_of c.ask.new.self) found.finds admitted.known its.2))
    (held.locks ∙ ap (λ (t : LockTable). granted c.args.transaction c.in_ok-found.found.needs.items (told t).locks) (c.change.ensures.locks ∙ test.locks) ∙ ap (granted c.args.transaction c.in_ok-found.found.needs.items) found.finds.claimed.same)
    (ap scans_told (held.scans ∙ c.change.ensures.scans ∙ test.scans ∙ found.scans))
    counted.was_up (omega (arith, counted.counted, found.calls, test.calls, c.change.ensures.calls, held.calls)) (λ told state is_in. tt) (still_made g.S.Pages.view held.session held.down c.in_ok-change.ensures.did))
