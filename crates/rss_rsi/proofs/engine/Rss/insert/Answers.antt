use Rattle.std.proofs.Common.{◌≡◌, ◌∙◌, List, [], ◌∷◌, Vec, Global, length, true, refl, sym, ap, subst, arith, length-append}
use Rattle.std.specs.Prelude.{is_some, Option, None, IfSome, Ok, Err}
use Rattle.std.proofs.lemmas.Option.{same_Some}
use Rattle.rss_base.specs.Listings.{IsNumberOf, relation_at}
use Rattle.rss_base.specs.TupleTypes.{kinds, Spells}
use Rattle.rss_base.specs.declared.call.Call.TheVariants.{Insert}
use Rattle.rss_base.specs.declared.field.FieldDef.{FieldDef}
use Rattle.rss_base.specs.declared.need.Need.{Need}
use Rattle.rss_base.specs.declared.refusal.Kind.TheVariants.{Relation as RelationKind}
use Rattle.rss_base.specs.declared.refusal.Refusal.{Refusal}
use Rattle.rss_base.specs.declared.relation.RelationEntry.{RelationEntry}
use Rattle.rss_catalog.specs.Catalogs.{CatalogView}
use Rattle.rss_lock.specs.Table.{told}
use Rattle.rss_scan.specs.Scans.{told as scans_told}
use Rattle.rss_lock.specs.declared.locks.Locks.{Locks as LockTable}
use Rattle.rss_model.specs.Locks.{first_bar, granted}
use Rattle.rss_model.specs.ReplyText.{IsShort}
use Rattle.rss_model.specs.Steps.{if_used_up, keeps_locks}
use Rattle.rss_model.specs.Tables.{Tables}
use Rattle.rss_access.proofs.Numbered.{entry_at}
use Rattle.rss_session.specs.Looks.{LooksOn}
use Rattle.rss_session.specs.Parts.{view as session_view}
use Rattle.rss_session.specs.Uniques.{FindsDuplicate}
use Rattle.rss_session.specs.declared.session.Session.{Session}
use Rattle.rss_session.proofs.Behind.{looks_then}
use Rattle.rss_trans.specs.Transactions.{OpenView, is_open}
use Rattle.rss_rsi.specs.Locking.{putting, MayBeOf}
use Rattle.rss_rsi.specs.Parts.{parts_of, session_of}
use Rattle.rss_rsi.specs.Views.{body_length}
use Rattle.rss_rsi.proofs.Changes.{still_made, ends_short, ends_made}
use Rattle.rss_rsi.proofs.Claims.{claimed_from, claimed_free, free_front}
use Rattle.rss_rsi.proofs.Inserts.{is_admitted, insert_unfit, insert_used_up, may_insert, insert_places, insert_no_needs, insert_lost, insert_owned, gets_place, insert_ends}
use Rattle.rss_rsi.proofs.KeyLocks.{duplicate_said, refused_keeping}
use Rattle.rss_rsi.proofs.Looks.{ends_so, asked_looked, costly_fails, lists_before, passed_call}
use Rattle.rss_rsi.proofs.Placed.{fails_then}
use Rattle.rss_rsi.proofs.TupleTests.{values_keep, used_up_keeps}
use Rattle.rss_rsi.proofs.Ways.{asked, refused_early}
use Rattle.rss_rsi.proofs.engine.Rss.insert.Goals as goal

pub returns-in_err-number-clause-did : goal.returns-in_err-number-clause-did
returns-in_err-number-clause-did g c =
    let counted = c.in_ok-ask.ensures in
    let tests = c.in_err-number.ensures.tests in
    asked g.S.Pages.view counted.session counted.locks counted.scans
    (refused_early c.from_residual-in_err-number.result c.from_residual-in_err-number.ensures.1 counted.was_up counted.up (omega (arith, counted.counted)) tests.1
    (λ told state shows. (
      insert_unfit state c.args.transaction c.args.relation.now c.args.tuple.now (tests.0 told state shows),
      values_keep state c.args.transaction c.args.relation.now c.args.tuple.now (tests.0 told state shows),
    )))

pub test_limit-requires : goal.test_limit-requires
test_limit-requires g c = ap is_some (entry_at c.ask.new.self.session.store.catalog.listing c.args.relation.now c.in_ok-number.number c.in_ok-number.ensures.known).at

pub returns-in_err-test_limit-clause-did : goal.returns-in_err-test_limit-clause-did
returns-in_err-test_limit-clause-did g c =
    let counted = c.in_ok-ask.ensures in
    let admitted = c.in_ok-number.ensures in
    let has = entry_at c.ask.new.self.session.store.catalog.listing c.args.relation.now c.in_ok-number.number admitted.known in
    let tests = c.in_err-test_limit.ensures has.entry has.at in
    asked g.S.Pages.view counted.session counted.locks counted.scans
    (refused_early c.from_residual-in_err-test_limit.result c.from_residual-in_err-test_limit.ensures.1 counted.was_up counted.up (omega (arith, counted.counted)) tests.1
    (λ told state shows.
    let so = ap (if_used_up state) (sym has.named) ∙ tests.0 told state shows in (
      insert_used_up state c.args.transaction c.args.relation.now c.args.tuple.now (admitted.tests told state shows) so,
      used_up_keeps state c.args.relation.now so,
    )))

pub relation-requires : goal.relation-requires
relation-requires g c = ap is_some (entry_at c.ask.new.self.session.store.catalog.listing c.args.relation.now c.in_ok-number.number c.in_ok-number.ensures.known).at

pub returns-in_err-tid-clause-did : goal.returns-in_err-tid-clause-did
returns-in_err-tid-clause-did g c =
    let counted = c.in_ok-ask.ensures in
    let admitted = is_admitted c.in_ok-number.ensures.known c.relation.ensures.is c.in_ok-number.ensures.tests (c.in_ok-test_limit.ensures c.relation.result.now c.relation.ensures.is) in
    ends_so g.S.Pages.view c.from_residual-in_err-tid.result c.from_residual-in_err-tid.ensures.1 counted.session counted.locks counted.scans (counted.up ∙ sym counted.was_up)
    (c.in_err-tid.ensures.fails c.args.self.now.calls (Insert c.args.transaction c.args.relation.now c.args.tuple.now) (omega (arith, counted.counted)) (insert_places (parts_of c.ask.new.self) admitted))

pub new_needs-requires-clause-known : goal.new_needs-requires-clause-known
new_needs-requires-clause-known g c = subst (λ (catalog : CatalogView). IsNumberOf RelationKind catalog.listing c.args.relation.now c.in_ok-number.number) (sym c.in_ok-tid.ensures.looks.catalog) c.in_ok-number.ensures.known

pub new_needs-requires-clause-tuple : goal.new_needs-requires-clause-tuple
new_needs-requires-clause-tuple g c =
    subst (λ (catalog : CatalogView). MayBeOf catalog.listing c.in_ok-number.number c.args.tuple.now) (sym c.in_ok-tid.ensures.looks.catalog)
    (record { fit = c.in_ok-number.ensures.fit; storable = c.values_of-values.ensures.spelled.storable })

pub returns-in_default-clause-did : goal.returns-in_default-clause-did
returns-in_default-clause-did g c =
    let counted = c.in_ok-ask.ensures in
    let placed = c.in_ok-tid.ensures in
    let admitted = is_admitted {session = session_of c.ask.new.self} c.in_ok-number.ensures.known c.relation.ensures.is c.in_ok-number.ensures.tests (c.in_ok-test_limit.ensures c.relation.result.now c.relation.ensures.is) in
    asked g.S.Pages.view counted.session counted.locks counted.scans
    (insert_no_needs (parts_of c.ask.new.self) admitted placed.looks (parts_of c.place_for.new.self) refl (record { locks = ap (λ (t : LockTable). (told t).locks) c.in_ok-tid.ensures.locks; scans = ap scans_told c.in_ok-tid.ensures.scans }) counted.was_up placed.up (omega (arith, counted.counted, placed.calls)))

pub returns-in_err-needs-clause-did : goal.returns-in_err-needs-clause-did
returns-in_err-needs-clause-did g c =
    let counted = c.in_ok-ask.ensures in
    let placed = c.in_ok-tid.ensures in
    let claim = c.claim.ensures in
    let admitted = is_admitted c.in_ok-number.ensures.known c.relation.ensures.is c.in_ok-number.ensures.tests (c.in_ok-test_limit.ensures c.relation.result.now c.relation.ensures.is) in
    let same = ap (λ (t : LockTable). (told t).locks) c.in_ok-tid.ensures.locks in
    asked g.S.Pages.view counted.session counted.locks counted.scans
    (passed_call c.from_residual-in_err-needs.result c.from_residual-in_err-needs.ensures.1
    (insert_lost (parts_of c.ask.new.self) admitted placed.looks placed.place (lists_before (parts_of c.ask.new.self) (parts_of c.place_for.new.self) (λ (tables : Tables). putting tables c.args.relation.now c.in_ok-tid.tid c.args.tuple.now) c.in_ok-tid.ensures.looks (record { locks = same; scans = ap scans_told c.in_ok-tid.ensures.scans }) c.in-Ok.ensures.lists)
    (parts_of c.claim.new.self) (Vec Need Global) (told c.place_for.new.self.locks) (told c.claim.new.self.locks) (ap (session_view g.S.Pages.view) claim.session) (record { locks = claim.locks ∙ same; scans = ap scans_told (claim.scans ∙ placed.scans) }) same counted.was_up (claim.down ∙ placed.up) (omega (arith, counted.counted, placed.calls, claim.calls)) c.in_err-needs.ensures.ends))

-- ---- keys of other tuples

pub find_duplicate-requires-clause-spelled : goal.find_duplicate-requires-clause-spelled
find_duplicate-requires-clause-spelled g c = λ relation at. (
  c.args.tuple.now,
  subst (λ (fields : List FieldDef). Spells (kinds fields) c.values_of-values.result c.args.tuple.now)
      (c.as_slice-fields.ensures ∙ ap (λ (r : RelationEntry). r.fields) (same_Some _ _ (sym c.relation.ensures.is
      ∙ ap (λ (catalog : CatalogView). relation_at catalog.listing c.in_ok-number.number) (sym c.in_ok-tid.ensures.looks.catalog)
      ∙ ap (λ (session : Session _). relation_at (session_view g.S.Pages.view session).store.catalog.listing c.in_ok-number.number) (sym c.in_ok-needs.ensures.session) ∙ at)))
      c.values_of-values.ensures.spelled,
)

-- a look for a duplicate fails
pub returns-in_err-owned-clause-did : goal.returns-in_err-owned-clause-did
returns-in_err-owned-clause-did g c =
    let counted = c.in_ok-ask.ensures in
    let placed = c.in_ok-tid.ensures in
    let claim = c.in_ok-needs.ensures in
    let owned = c.in_err-owned.ensures in
    let admitted = is_admitted {session = session_of c.ask.new.self} c.in_ok-number.ensures.known c.relation.ensures.is c.in_ok-number.ensures.tests (c.in_ok-test_limit.ensures c.relation.result.now c.relation.ensures.is) in
    let looks = (subst (λ (session : Session _). LooksOn (session_of c.ask.new.self) (session_view g.S.Pages.view session) (Ok c.in_ok-tid.tid)) (sym c.in_ok-needs.ensures.session) c.in_ok-tid.ensures.looks) in
    ends_so g.S.Pages.view c.from_residual-in_err-owned.result c.from_residual-in_err-owned.ensures.1 counted.session counted.locks counted.scans (counted.up ∙ sym counted.was_up)
    (costly_fails (parts_of c.ask.new.self) (parts_of c.find_duplicate.new.self) (fails_then looks owned.looks) c.ask.new.self.calls c.find_duplicate.new.self.calls (owned.calls ∙ claim.calls ∙ placed.calls) counted.up (λ up. absurd (cc (up, owned.down)))
    c.args.self.now.calls (Insert c.args.transaction c.args.relation.now c.args.tuple.now) (omega (arith, counted.counted)) (may_insert (parts_of c.ask.new.self) admitted))

-- another tuple has a key
pub returns-in-Some-clause-did : goal.returns-in-Some-clause-did
returns-in-Some-clause-did g c =
    let counted = c.in_ok-ask.ensures in
    let placed = c.in_ok-tid.ensures in
    let claim = c.in_ok-needs.ensures in
    let owned = c.in_ok-owned.ensures in
    let admitted = is_admitted {session = session_of c.ask.new.self} c.in_ok-number.ensures.known c.relation.ensures.is c.in_ok-number.ensures.tests (c.in_ok-test_limit.ensures c.relation.result.now c.relation.ensures.is) in
    let looks = (subst (λ (session : Session _). LooksOn (session_of c.ask.new.self) (session_view g.S.Pages.view session) (Ok c.in_ok-tid.tid)) (sym c.in_ok-needs.ensures.session) c.in_ok-tid.ensures.looks) in
    let same = ap (λ (t : LockTable). (told t).locks) placed.locks in
    let spelled = subst (λ (fields : List FieldDef). Spells (kinds fields) c.values_of-values.result c.args.tuple.now) c.as_slice-fields.ensures c.values_of-values.ensures.spelled in
    let lists = lists_before (parts_of c.ask.new.self) (parts_of c.place_for.new.self) (λ (tables : Tables). putting tables c.args.relation.now c.in_ok-tid.tid c.args.tuple.now) placed.looks (record { locks = same; scans = ap scans_told placed.scans }) c.in-Ok.ensures.lists in
    let claimed = claimed_from (told c.ask.new.self.locks) (told c.place_for.new.self.locks) (told c.claim.new.self.locks) same claim.ends in
    let held = c.hold.ensures in
    asked g.S.Pages.view counted.session counted.locks counted.scans
    (refused_keeping (parts_of c.ask.new.self) (parts_of c.hold.new.self)
    (subst (λ (session : Session _). LooksOn (session_of c.ask.new.self) (session_view g.S.Pages.view session) (Ok c.in_ok-owned.owned)) (sym held.session) (looks_then looks owned.looks))
    (omega (arith, counted.counted, placed.calls, claim.calls, owned.calls, held.calls)) counted.was_up (held.down ∙ owned.up)
    (may_insert (parts_of c.ask.new.self) admitted) refl
    (subst (λ (why : Option Refusal). IfSome why (λ w. IsShort (Err w))) c.in-Some.is owned.short)
    (subst (λ (why : Option Refusal). IfSome why (λ w. keeps_locks w ≡ true)) c.in-Some.is owned.kept)
    (held.locks ∙ ap (λ (t : LockTable). granted c.args.transaction c.pop.new.self.items (told t).locks) owned.locks ∙ ap (granted c.args.transaction c.pop.new.self.items) claimed.same)
    (ap scans_told (held.scans ∙ owned.scans ∙ claim.scans ∙ placed.scans))
    (insert_owned (parts_of c.ask.new.self) admitted placed.looks placed.place lists claimed c.pop.new.self.items c.in-Some-pop.field-0 (ap (λ (needs : Vec Need Global). needs.items) (sym claim.same) ∙ c.in-Some-pop.ensures.items)
    (duplicate_said (parts_of c.ask.new.self) looks c.args.relation.now c.in_ok-number.number c.in_ok-number.ensures.known c.relation.ensures.is c.values_of-values.result spelled None
    (subst (FindsDuplicate (session_of c.claim.new.self) c.in_ok-number.number c.values_of-values.result None) c.in-Some.is owned.finds))))

pub hold-requires-clause-open : goal.hold-requires-clause-open
hold-requires-clause-open g c =
    ap (λ (o : OpenView). is_open o c.args.transaction) (looks_then (subst (λ (session : Session _). LooksOn (session_of c.ask.new.self) (session_view g.S.Pages.view session) (Ok c.in_ok-tid.tid)) (sym c.in_ok-needs.ensures.session) c.in_ok-tid.ensures.looks) c.in_ok-owned.ensures.looks).opened ∙ c.in_ok-number.ensures.open

pub hold-requires-clause-free : goal.hold-requires-clause-free
hold-requires-clause-free g c =
    let claim = c.in_ok-needs.ensures in
    free_front (told c.find_duplicate.new.self.locks).locks c.args.transaction c.pop.new.self.items c.in-Some-pop.field-0
    (ap (first_bar (told c.find_duplicate.new.self.locks).locks c.args.transaction) (sym c.in-Some-pop.ensures.items)
    ∙ ap (λ (t : LockTable). first_bar (told t).locks c.args.transaction c.in_ok-needs.needs.items) c.find_duplicate.ensures.locks
    ∙ ap (λ (needs : Vec Need Global). first_bar (told c.claim.new.self.locks).locks c.args.transaction needs.items) claim.same
    ∙ claimed_free (told c.place_for.new.self.locks) (told c.claim.new.self.locks) claim.ends)

pub hold-requires-clause-room : goal.hold-requires-clause-room
hold-requires-clause-room g c =
    let claim = c.in_ok-needs.ensures in
    omega (
      arith,
      claim.ends.room,
      ap (λ (needs : Vec Need Global). length needs.items) claim.same,
      c.pop.new.self.ok,
      ap length c.in-Some-pop.ensures.items,
      length-append c.pop.new.self.items (c.in-Some-pop.field-0 ∷ []),
      ap (λ (t : LockTable). (told t).spare) c.find_duplicate.ensures.locks,
    )

-- ---- no other tuple has one

pub change-requires-clause-open : goal.change-requires-clause-open
change-requires-clause-open g c =
    ap (λ (o : OpenView). is_open o c.args.transaction) (looks_then (subst (λ (session : Session _). LooksOn (session_of c.ask.new.self) (session_view g.S.Pages.view session) (Ok c.in_ok-tid.tid)) (sym c.in_ok-needs.ensures.session) c.in_ok-tid.ensures.looks) c.in_ok-owned.ensures.looks).opened ∙ c.in_ok-number.ensures.open

pub change-requires-clause-asked : goal.change-requires-clause-asked
change-requires-clause-asked g c =
    let counted = c.in_ok-ask.ensures in
    let placed = c.in_ok-tid.ensures in
    let claim = c.in_ok-needs.ensures in
    let owned = c.in_ok-owned.ensures in
    asked_looked (parts_of c.ask.new.self) (parts_of c.find_duplicate.new.self) counted.ready (looks_then (subst (λ (session : Session _). LooksOn (session_of c.ask.new.self) (session_view g.S.Pages.view session) (Ok c.in_ok-tid.tid)) (sym c.in_ok-needs.ensures.session) c.in_ok-tid.ensures.looks) owned.looks)
    (record { locks = ap (λ (t : LockTable). (told t).locks) owned.locks ∙ claim.locks ∙ ap (λ (t : LockTable). (told t).locks) placed.locks; scans = ap scans_told (owned.scans ∙ claim.scans ∙ placed.scans) }) (owned.calls ∙ claim.calls ∙ placed.calls ∙ counted.counted)

pub change-requires-clause-bounded : goal.change-requires-clause-bounded
change-requires-clause-bounded g c = (c.in_ok-tid.ensures.place.named.low, c.values_of-values.ensures.short)

pub returns-in_err-change-clause-did : goal.returns-in_err-change-clause-did
returns-in_err-change-clause-did g c =
    let none : c.in_ok-owned.owned ≡ None = cc in
    let counted = c.in_ok-ask.ensures in
    let placed = c.in_ok-tid.ensures in
    let claim = c.in_ok-needs.ensures in
    let owned = c.in_ok-owned.ensures in
    let admitted = is_admitted {session = session_of c.ask.new.self} c.in_ok-number.ensures.known c.relation.ensures.is c.in_ok-number.ensures.tests (c.in_ok-test_limit.ensures c.relation.result.now c.relation.ensures.is) in
    let looks = (subst (λ (session : Session _). LooksOn (session_of c.ask.new.self) (session_view g.S.Pages.view session) (Ok c.in_ok-tid.tid)) (sym c.in_ok-needs.ensures.session) c.in_ok-tid.ensures.looks) in
    let same = ap (λ (t : LockTable). (told t).locks) placed.locks in
    let spelled = subst (λ (fields : List FieldDef). Spells (kinds fields) c.values_of-values.result c.args.tuple.now) c.as_slice-fields.ensures c.values_of-values.ensures.spelled in
    let lists = lists_before (parts_of c.ask.new.self) (parts_of c.place_for.new.self) (λ (tables : Tables). putting tables c.args.relation.now c.in_ok-tid.tid c.args.tuple.now) placed.looks (record { locks = same; scans = ap scans_told placed.scans }) c.in-Ok.ensures.lists in
    let claimed = claimed_from (told c.ask.new.self.locks) (told c.place_for.new.self.locks) (told c.claim.new.self.locks) same claim.ends in
    asked g.S.Pages.view counted.session counted.locks counted.scans
    (ends_short (looks_then looks owned.looks)
    (insert_ends (parts_of c.ask.new.self) admitted placed.looks placed.place lists claimed spelled c.values_of-values.ensures.short (omega arith) (omega arith) (omega arith)
    (duplicate_said (parts_of c.ask.new.self) looks c.args.relation.now c.in_ok-number.number c.in_ok-number.ensures.known c.relation.ensures.is c.values_of-values.result spelled None
    (subst (FindsDuplicate (session_of c.claim.new.self) c.in_ok-number.number c.values_of-values.result None) none owned.finds)))
    c.from_residual-in_err-change.result c.from_residual-in_err-change.ensures.1 (record { locks = ap (λ (t : LockTable). (told t).locks) (c.change.ensures.locks ∙ owned.locks) ∙ claim.locks ∙ same; scans = ap scans_told (c.change.ensures.scans ∙ owned.scans ∙ claim.scans ∙ placed.scans) })
    counted.was_up (omega (arith, counted.counted, placed.calls, claim.calls, owned.calls, c.change.ensures.calls)) c.in_err-change.ensures.did)

pub hold-requires-2-clause-open : goal.hold-requires-2-clause-open
hold-requires-2-clause-open g c = c.in_ok-change.ensures.stay c.args.transaction
    (ap (λ (o : OpenView). is_open o c.args.transaction) (looks_then (subst (λ (session : Session _). LooksOn (session_of c.ask.new.self) (session_view g.S.Pages.view session) (Ok c.in_ok-tid.tid)) (sym c.in_ok-needs.ensures.session) c.in_ok-tid.ensures.looks) c.in_ok-owned.ensures.looks).opened ∙ c.in_ok-number.ensures.open)

pub hold-requires-2-clause-free : goal.hold-requires-2-clause-free
hold-requires-2-clause-free g c =
    let claim = c.in_ok-needs.ensures in
    ap (λ (t : LockTable). first_bar (told t).locks c.args.transaction c.in_ok-needs.needs.items) (c.change.ensures.locks ∙ c.find_duplicate.ensures.locks)
    ∙ ap (λ (needs : Vec Need Global). first_bar (told c.claim.new.self.locks).locks c.args.transaction needs.items) claim.same
    ∙ claimed_free (told c.place_for.new.self.locks) (told c.claim.new.self.locks) claim.ends

pub hold-requires-2-clause-room : goal.hold-requires-2-clause-room
hold-requires-2-clause-room g c =
    let claim = c.in_ok-needs.ensures in
    omega (arith, claim.ends.room, ap (λ (needs : Vec Need Global). length needs.items) claim.same, c.in_ok-needs.needs.ok, ap (λ (t : LockTable). (told t).spare) (c.change.ensures.locks ∙ c.find_duplicate.ensures.locks))

pub returns-clause-did : goal.returns-clause-did
returns-clause-did g c =
    let none : c.in_ok-owned.owned ≡ None = cc in
    let counted = c.in_ok-ask.ensures in
    let placed = c.in_ok-tid.ensures in
    let claim = c.in_ok-needs.ensures in
    let owned = c.in_ok-owned.ensures in
    let admitted = is_admitted {session = session_of c.ask.new.self} c.in_ok-number.ensures.known c.relation.ensures.is c.in_ok-number.ensures.tests (c.in_ok-test_limit.ensures c.relation.result.now c.relation.ensures.is) in
    let looks = (subst (λ (session : Session _). LooksOn (session_of c.ask.new.self) (session_view g.S.Pages.view session) (Ok c.in_ok-tid.tid)) (sym c.in_ok-needs.ensures.session) c.in_ok-tid.ensures.looks) in
    let same = ap (λ (t : LockTable). (told t).locks) placed.locks in
    let spelled = subst (λ (fields : List FieldDef). Spells (kinds fields) c.values_of-values.result c.args.tuple.now) c.as_slice-fields.ensures c.values_of-values.ensures.spelled in
    let lists = lists_before (parts_of c.ask.new.self) (parts_of c.place_for.new.self) (λ (tables : Tables). putting tables c.args.relation.now c.in_ok-tid.tid c.args.tuple.now) placed.looks (record { locks = same; scans = ap scans_told placed.scans }) c.in-Ok.ensures.lists in
    let claimed = claimed_from (told c.ask.new.self.locks) (told c.place_for.new.self.locks) (told c.claim.new.self.locks) same claim.ends in
    let held = c.hold-2.ensures in
    asked g.S.Pages.view counted.session counted.locks counted.scans
    (ends_made (looks_then looks owned.looks)
    (insert_ends (parts_of c.ask.new.self) admitted placed.looks placed.place lists claimed spelled c.values_of-values.ensures.short (omega arith) (omega arith) (omega arith)
    (duplicate_said (parts_of c.ask.new.self) looks c.args.relation.now c.in_ok-number.number c.in_ok-number.ensures.known c.relation.ensures.is c.values_of-values.result spelled None
    (subst (FindsDuplicate (session_of c.claim.new.self) c.in_ok-number.number c.values_of-values.result None) none owned.finds)))
    (held.locks
    ∙ ap (λ (t : LockTable). granted c.args.transaction c.in_ok-needs.needs.items (told t).locks) (c.change.ensures.locks ∙ owned.locks)
    ∙ ap (λ (needs : Vec Need Global). granted c.args.transaction needs.items (told c.claim.new.self.locks).locks) claim.same
    ∙ ap (granted c.args.transaction c.in-Ok.needs.items) claimed.same)
    (ap scans_told (held.scans ∙ c.change.ensures.scans ∙ owned.scans ∙ claim.scans ∙ placed.scans))
    counted.was_up (omega (arith, counted.counted, placed.calls, claim.calls, owned.calls, c.change.ensures.calls, held.calls))
    (gets_place (parts_of c.ask.new.self) admitted placed.looks placed.place lists claimed (λ fits. c.body_len-length.ensures.is fits ∙ ap (body_length c.ask.new.self.session.store.catalog.listing c.in_ok-number.number) (ap length (c.as_slice.ensures.bytes ∙ spelled.same))))
    (still_made g.S.Pages.view held.session held.down c.in_ok-change.ensures.did))
