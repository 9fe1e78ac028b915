use Rattle.std.proofs.Common.{◌≡◌, List, ℕ, true, refl, sym, ◌∙◌, ap, subst, arith}
use Rattle.std.specs.Prelude.{is_some, Option, Some, None, IfSome, Ok, Err}
use Rattle.std.proofs.lemmas.Option.{same_Some}
use Rattle.rss_base.specs.Listings.{relation_at}
use Rattle.rss_base.specs.TupleTypes.{kinds, misfit, Spells}
use Rattle.rss_base.specs.declared.call.Call.TheVariants.{Update}
use Rattle.rss_base.specs.declared.field.FieldDef.{FieldDef}
use Rattle.rss_base.specs.declared.refusal.Refusal.{Refusal}
use Rattle.rss_base.specs.declared.relation.RelationEntry.{RelationEntry}
use Rattle.rss_base.specs.declared.value.Value.{Value}
use Rattle.rss_catalog.specs.Catalogs.{CatalogView}
use Rattle.rss_access.proofs.Numbered.{entry_at}
use Rattle.rss_lock.specs.Table.{told}
use Rattle.rss_scan.specs.Scans.{told as scans_told}
use Rattle.rss_lock.specs.declared.locks.Locks.{Locks as LockTable}
use Rattle.rss_model.specs.Locks.{first_bar, granted}
use Rattle.rss_model.specs.ReplyText.{IsShort}
use Rattle.rss_model.specs.Steps.{keeps_locks}
use Rattle.rss_session.specs.Looks.{LooksOn}
use Rattle.rss_session.specs.Parts.{view as session_view}
use Rattle.rss_session.specs.Uniques.{FindsDuplicate}
use Rattle.rss_session.specs.declared.session.Session.{Session}
use Rattle.rss_session.proofs.Behind.{looks_then}
use Rattle.rss_trans.specs.Transactions.{OpenView, is_open}
use Rattle.rss_rsi.specs.Parts.{parts_of, session_of}
use Rattle.rss_rsi.proofs.Changes.{still_made, ends_short, ends_made}
use Rattle.rss_rsi.proofs.Claims.{claimed_free}
use Rattle.rss_rsi.proofs.KeyLocks.{duplicate_said, refused_keeping}
use Rattle.rss_rsi.proofs.Looks.{ends_so, asked_looked, costly_fails}
use Rattle.rss_rsi.proofs.Placed.{fails_then}
use Rattle.rss_rsi.proofs.TupleTests.{update_unfit, values_keep}
use Rattle.rss_rsi.proofs.Updates.{may_update, update_looks, update_owned, update_ends}
use Rattle.rss_rsi.proofs.Ways.{asked, refused_early}
use Rattle.rss_rsi.proofs.engine.Rss.update.Goals as goal

pub returns-in_err-number-clause-did : goal.returns-in_err-number-clause-did
returns-in_err-number-clause-did g c =
    let counted = c.in_ok-ask.ensures in
    let tests = c.in_err-number.ensures.tests in
    asked g.S.Pages.view counted.session counted.locks counted.scans
    (refused_early c.from_residual-in_err-number.result c.from_residual-in_err-number.ensures.1 counted.was_up counted.up (omega (arith, counted.counted)) tests.1
    (λ told state shows. (
      update_unfit state c.args.transaction c.args.relation.now c.args.tid c.args.tuple.now (tests.0 told state shows),
      values_keep state c.args.transaction c.args.relation.now c.args.tuple.now (tests.0 told state shows),
    )))

pub returns-in_err-found-clause-did : goal.returns-in_err-found-clause-did
returns-in_err-found-clause-did g c =
    let counted = c.in_ok-ask.ensures in
    ends_so g.S.Pages.view c.from_residual-in_err-found.result c.from_residual-in_err-found.ensures.1 counted.session counted.locks counted.scans (counted.up ∙ sym counted.was_up)
    (c.in_err-found.ensures.fails c.args.self.now.calls (Update c.args.transaction c.args.relation.now c.args.tid c.args.tuple.now) (omega (arith, counted.counted))
    (update_looks _ c.args.transaction c.args.relation.now c.args.tid c.args.tuple.now c.in_ok-number.ensures.tests))

pub relation-entry-requires : goal.relation-entry-requires
relation-entry-requires g c = ap is_some (entry_at c.ask.new.self.session.store.catalog.listing c.args.relation.now c.in_ok-number.number c.in_ok-number.ensures.known).at

pub find-requires-clause-to : goal.find-requires-clause-to
find-requires-clause-to g c = record { fit = c.in_ok-number.ensures.fit; storable = c.values_of-to.ensures.spelled.storable }

pub find_duplicate-requires-clause-spelled : goal.find_duplicate-requires-clause-spelled
find_duplicate-requires-clause-spelled g c = λ relation at. (
  c.args.tuple.now,
  subst (λ (fields : List FieldDef). Spells (kinds fields) c.values_of-to.result c.args.tuple.now)
      (c.as_slice.ensures ∙ ap (λ (r : RelationEntry). r.fields) (same_Some _ _ (sym c.relation-entry.ensures.is ∙ ap (λ (catalog : CatalogView). relation_at catalog.listing c.in_ok-number.number) (sym c.in_ok-found.ensures.finds.looked.looks.catalog) ∙ at)))
      c.values_of-to.ensures.spelled,
)

-- a look for a duplicate fails
pub returns-in_err-owned-clause-did : goal.returns-in_err-owned-clause-did
returns-in_err-owned-clause-did g c =
    let counted = c.in_ok-ask.ensures in
    let found = c.in_ok-found.ensures in
    let owned = c.in_err-owned.ensures in
    ends_so g.S.Pages.view c.from_residual-in_err-owned.result c.from_residual-in_err-owned.ensures.1 counted.session counted.locks counted.scans (counted.up ∙ sym counted.was_up)
    (costly_fails (parts_of c.ask.new.self) (parts_of c.find_duplicate.new.self) (fails_then found.finds.looked.looks owned.looks) c.ask.new.self.calls c.find_duplicate.new.self.calls (owned.calls ∙ found.calls) counted.up (λ up. absurd (cc (up, owned.down)))
    c.args.self.now.calls (Update c.args.transaction c.args.relation.now c.args.tid c.args.tuple.now) (omega (arith, counted.counted)) (may_update (parts_of c.ask.new.self) c.args.transaction c.args.relation.now c.args.tid c.args.tuple.now c.in_ok-number.ensures.tests))

-- another tuple has a key
pub returns-in-Some-clause-did : goal.returns-in-Some-clause-did
returns-in-Some-clause-did g c =
    let counted = c.in_ok-ask.ensures in
    let admitted = c.in_ok-number.ensures in
    let found = c.in_ok-found.ensures in
    let owned = c.in_ok-owned.ensures in
    let held = c.hold.ensures in
    let spelled = subst (λ (fields : List FieldDef). Spells (kinds fields) c.values_of-to.result c.args.tuple.now) c.as_slice.ensures c.values_of-to.ensures.spelled in
    asked g.S.Pages.view counted.session counted.locks counted.scans
    (refused_keeping (parts_of c.ask.new.self) (parts_of c.hold.new.self)
    (subst (λ (session : Session _). LooksOn (session_of c.ask.new.self) (session_view g.S.Pages.view session) (Ok c.in_ok-owned.owned)) (sym held.session) (looks_then found.finds.looked.looks owned.looks))
    (omega (arith, counted.counted, found.calls, owned.calls, held.calls)) counted.was_up (held.down ∙ owned.up)
    (may_update (parts_of c.ask.new.self) c.args.transaction c.args.relation.now c.args.tid c.args.tuple.now admitted.tests) refl
    (subst (λ (why : Option Refusal). IfSome why (λ w. IsShort (Err w))) c.in-Some.is owned.short)
    (subst (λ (why : Option Refusal). IfSome why (λ w. keeps_locks w ≡ true)) c.in-Some.is owned.kept)
    (held.locks ∙ ap (λ (t : LockTable). granted c.args.transaction c.in_ok-found.found.needs.items (told t).locks) owned.locks ∙ ap (granted c.args.transaction c.in_ok-found.found.needs.items) found.finds.claimed.same)
    (ap scans_told (held.scans ∙ owned.scans ∙ found.scans))
    (update_owned (parts_of c.ask.new.self) c.args.transaction c.args.relation.now c.args.tid c.args.tuple.now admitted.tests found.finds
    (duplicate_said (parts_of c.ask.new.self) found.finds.looked.looks c.args.relation.now c.in_ok-number.number admitted.known c.relation-entry.ensures.is c.values_of-to.result spelled (Some c.args.tid)
    (subst (FindsDuplicate (session_of c.find.new.self) c.in_ok-number.number c.values_of-to.result (Some c.args.tid)) c.in-Some.is owned.finds))))

pub hold-requires-clause-open : goal.hold-requires-clause-open
hold-requires-clause-open g c = ap (λ (o : OpenView). is_open o c.args.transaction) (c.in_ok-owned.ensures.looks.opened ∙ c.in_ok-found.ensures.finds.looked.looks.opened) ∙ c.in_ok-number.ensures.open

pub hold-requires-clause-free : goal.hold-requires-clause-free
hold-requires-clause-free g c =
    ap (λ (t : LockTable). first_bar (told t).locks c.args.transaction c.in_ok-found.found.needs.items) c.find_duplicate.ensures.locks
    ∙ claimed_free (told c.ask.new.self.locks) (told c.find.new.self.locks) c.in_ok-found.ensures.finds.claimed

pub hold-requires-clause-room : goal.hold-requires-clause-room
hold-requires-clause-room g c =
    omega (arith, c.in_ok-found.ensures.finds.claimed.room, c.in_ok-found.found.needs.ok, ap (λ (t : LockTable). (told t).spare) c.find_duplicate.ensures.locks)

-- ---- no other tuple has one

pub relation-entry-requires-2 : goal.relation-entry-requires-2
relation-entry-requires-2 g c =
    ap (λ (catalog : CatalogView). is_some (relation_at catalog.listing c.in_ok-number.number)) (c.in_ok-owned.ensures.looks.catalog ∙ c.in_ok-found.ensures.finds.looked.looks.catalog)
    ∙ ap is_some (entry_at c.ask.new.self.session.store.catalog.listing c.args.relation.now c.in_ok-number.number c.in_ok-number.ensures.known).at

pub change-requires-clause-open : goal.change-requires-clause-open
change-requires-clause-open g c = ap (λ (o : OpenView). is_open o c.args.transaction) (c.in_ok-owned.ensures.looks.opened ∙ c.in_ok-found.ensures.finds.looked.looks.opened) ∙ c.in_ok-number.ensures.open

pub change-requires-clause-asked : goal.change-requires-clause-asked
change-requires-clause-asked g c =
    let counted = c.in_ok-ask.ensures in
    let found = c.in_ok-found.ensures in
    let owned = c.in_ok-owned.ensures in
    asked_looked (parts_of c.ask.new.self) (parts_of c.find_duplicate.new.self) counted.ready (looks_then found.finds.looked.looks owned.looks)
    (record { locks = ap (λ (t : LockTable). (told t).locks) owned.locks ∙ found.finds.claimed.same; scans = ap scans_told (owned.scans ∙ found.scans) }) (owned.calls ∙ found.calls ∙ counted.counted)

-- the values that it has and gets, by the fields of its relation
spelled_as : {bytes : List ℕ} {values : List Value} {fields : List FieldDef} {one : RelationEntry} (other : RelationEntry) → fields ≡ other.fields → other ≡ one → Spells (kinds fields) bytes values → Spells (kinds one.fields) bytes values
spelled_as {bytes = bytes} {values = values} other fields same = subst (λ (f : List FieldDef). Spells (kinds f) bytes values) (fields ∙ ap (λ (r : RelationEntry). r.fields) same)

pub returns-in_err-change-clause-did : goal.returns-in_err-change-clause-did
returns-in_err-change-clause-did g c =
    let counted = c.in_ok-ask.ensures in
    let admitted = c.in_ok-number.ensures in
    let found = c.in_ok-found.ensures in
    let owned = c.in_ok-owned.ensures in
    let one = same_Some _ _ (sym c.relation-entry-2.ensures.is ∙ ap (λ (catalog : CatalogView). relation_at catalog.listing c.in_ok-number.number) (owned.looks.catalog ∙ found.finds.looked.looks.catalog) ∙ c.relation-entry.ensures.is) in
    let spelled = subst (λ (fields : List FieldDef). Spells (kinds fields) c.values_of-to.result c.args.tuple.now) c.as_slice.ensures c.values_of-to.ensures.spelled in
    let none : c.in_ok-owned.owned ≡ None = cc in
    asked g.S.Pages.view counted.session counted.locks counted.scans
    (ends_short (looks_then found.finds.looked.looks owned.looks)
    (update_ends (parts_of c.ask.new.self) c.args.transaction c.args.relation.now c.args.tid c.args.tuple.now admitted.tests found.finds admitted.known c.relation-entry.ensures.is (omega arith) (omega arith) (spelled_as c.relation-entry-2.result.now c.as_slice-2.ensures one c.values_of.ensures.spelled) spelled c.values_of.ensures.short c.values_of-to.ensures.short
    (duplicate_said (parts_of c.ask.new.self) found.finds.looked.looks c.args.relation.now c.in_ok-number.number admitted.known c.relation-entry.ensures.is c.values_of-to.result spelled (Some c.args.tid)
    (subst (FindsDuplicate (session_of c.find.new.self) c.in_ok-number.number c.values_of-to.result (Some c.args.tid)) none owned.finds)))
    c.from_residual-in_err-change.result c.from_residual-in_err-change.ensures.1 (record { locks = ap (λ (t : LockTable). (told t).locks) (c.change.ensures.locks ∙ owned.locks) ∙ found.finds.claimed.same; scans = ap scans_told (c.change.ensures.scans ∙ owned.scans ∙ found.scans) })
    counted.was_up (omega (arith, counted.counted, found.calls, owned.calls, c.change.ensures.calls)) c.in_err-change.ensures.did)

pub hold-requires-2-clause-open : goal.hold-requires-2-clause-open
hold-requires-2-clause-open g c = c.in_ok-change.ensures.stay c.args.transaction (ap (λ (o : OpenView). is_open o c.args.transaction) (c.in_ok-owned.ensures.looks.opened ∙ c.in_ok-found.ensures.finds.looked.looks.opened) ∙ c.in_ok-number.ensures.open)

pub hold-requires-2-clause-free : goal.hold-requires-2-clause-free
hold-requires-2-clause-free g c =
    ap (λ (t : LockTable). first_bar (told t).locks c.args.transaction c.in_ok-found.found.needs.items) (c.change.ensures.locks ∙ c.find_duplicate.ensures.locks)
    ∙ claimed_free (told c.ask.new.self.locks) (told c.find.new.self.locks) c.in_ok-found.ensures.finds.claimed

pub hold-requires-2-clause-room : goal.hold-requires-2-clause-room
hold-requires-2-clause-room g c =
    omega (arith, c.in_ok-found.ensures.finds.claimed.room, c.in_ok-found.found.needs.ok, ap (λ (t : LockTable). (told t).spare) (c.change.ensures.locks ∙ c.find_duplicate.ensures.locks))

pub returns-clause-did : goal.returns-clause-did
returns-clause-did g c =
    let counted = c.in_ok-ask.ensures in
    let admitted = c.in_ok-number.ensures in
    let found = c.in_ok-found.ensures in
    let owned = c.in_ok-owned.ensures in
    let held = c.hold-2.ensures in
    let one = same_Some _ _ (sym c.relation-entry-2.ensures.is ∙ ap (λ (catalog : CatalogView). relation_at catalog.listing c.in_ok-number.number) (owned.looks.catalog ∙ found.finds.looked.looks.catalog) ∙ c.relation-entry.ensures.is) in
    let spelled = subst (λ (fields : List FieldDef). Spells (kinds fields) c.values_of-to.result c.args.tuple.now) c.as_slice.ensures c.values_of-to.ensures.spelled in
    let none : c.in_ok-owned.owned ≡ None = cc in
    asked g.S.Pages.view counted.session counted.locks counted.scans
    (ends_made (looks_then found.finds.looked.looks owned.looks)
    (update_ends (parts_of c.ask.new.self) c.args.transaction c.args.relation.now c.args.tid c.args.tuple.now admitted.tests found.finds admitted.known c.relation-entry.ensures.is (omega arith) (omega arith) (spelled_as c.relation-entry-2.result.now c.as_slice-2.ensures one c.values_of.ensures.spelled) spelled c.values_of.ensures.short c.values_of-to.ensures.short
    (duplicate_said (parts_of c.ask.new.self) found.finds.looked.looks c.args.relation.now c.in_ok-number.number admitted.known c.relation-entry.ensures.is c.values_of-to.result spelled (Some c.args.tid)
    (subst (FindsDuplicate (session_of c.find.new.self) c.in_ok-number.number c.values_of-to.result (Some c.args.tid)) none owned.finds)))
    (held.locks ∙ ap (λ (t : LockTable). granted c.args.transaction c.in_ok-found.found.needs.items (told t).locks) (c.change.ensures.locks ∙ owned.locks) ∙ ap (granted c.args.transaction c.in_ok-found.found.needs.items) found.finds.claimed.same)
    (ap scans_told (held.scans ∙ c.change.ensures.scans ∙ owned.scans ∙ found.scans))
    counted.was_up (omega (arith, counted.counted, found.calls, owned.calls, c.change.ensures.calls, held.calls)) (λ told state is_in. tt) (still_made g.S.Pages.view held.session held.down c.in_ok-change.ensures.did))

-- the tuple as it was fits the relation's fields
pub values_of-requires-clause-fit : goal.values_of-requires-clause-fit
values_of-requires-clause-fit g c =
    subst (λ (fields : List FieldDef). misfit (kinds fields) c.in_ok-found.found.tuple ≡ None) (sym c.as_slice-2.ensures)
    (c.in_ok-found.ensures.finds.finds.fit c.relation-entry-2.result.now
    (ap (λ (catalog : CatalogView). relation_at catalog.listing c.in_ok-number.number) (sym c.in_ok-found.ensures.finds.looked.looks.catalog ∙ sym c.in_ok-owned.ensures.looks.catalog) ∙ c.relation-entry-2.ensures.is))
