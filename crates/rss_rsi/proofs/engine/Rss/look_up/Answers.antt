use Rattle.std.proofs.Common.{arith, refl, ap}
use Rattle.std.specs.Prelude.{Some, None}
use Rattle.rss_base.specs.TupleTypes.{kinds}
use Rattle.rss_base.specs.declared.place.Place.TheVariants.{Tuple as TuplePlace}
use Rattle.rss_model.proofs.Lengths.{tuple_line}
use Rattle.rss_lock.specs.Table.{told}
use Rattle.rss_lock.specs.declared.locks.Locks.{Locks as LockTable}
use Rattle.rss_scan.specs.Scans.{told as scans_told}
use Rattle.rss_session.proofs.Behind.{looks_as}
use Rattle.rss_rsi.specs.Parts.{parts_of, session_of}
use Rattle.rss_rsi.proofs.Bodied.{comes_before, lent_there, look_comes, read_never, read_only}
use Rattle.rss_rsi.proofs.Looks.{look_fails, still_looked, passed_on, none_past, none_there, some_there, none_spelled, looks_nothing, ready_looked, body_fits, still_at, few_fields}
use Rattle.rss_rsi.proofs.engine.Rss.look_up.Goals as goal

pub returns-then-from-ge-PAGE_ENTRIES-clause-looks : goal.returns-then-from-ge-PAGE_ENTRIES-clause-looks
returns-then-from-ge-PAGE_ENTRIES-clause-looks g c = looks_nothing None (c.args.self.now.ready c.requires.up).session

pub returns-then-from-ge-PAGE_ENTRIES-clause-finds : goal.returns-then-from-ge-PAGE_ENTRIES-clause-finds
returns-then-from-ge-PAGE_ENTRIES-clause-finds g c = λ relation known.
    none_past relation c.args.tid (λ low. absurd (omega (arith, low, c.if-from-ge-PAGE_ENTRIES.true, c.from.ensures)))

pub returns-in_err-found-clause-fails : goal.returns-in_err-found-clause-fails
returns-in_err-found-clause-fails g c =
    let look = c.in_err-found.ensures in
    look_fails _ _ look.looks (record { asks_high = look.costs.0; writes_high = look.costs.1 }) _ c.from_residual.result c.from_residual.ensures.1 c.requires.up (λ up. absurd (cc (up)))

pub invariant_of-self-2 : goal.invariant_of-self-2
invariant_of-self-2 g c = record { ready = λ up. ready_looked (parts_of c.args.self.now) _ {found = c.in_ok-found.found} (c.args.self.now.ready c.requires.up) c.in_ok-found.ensures.looks (record { locks = refl; scans = refl }) }

pub returns-in_default-clause-looks : goal.returns-in_default-clause-looks
returns-in_default-clause-looks g c =
    let look = c.in_ok-found.ensures in
    record { looks = looks_as None look.looks; costs = record { asks_high = look.costs.0; writes_high = look.costs.1 } }

pub returns-in_default-clause-finds : goal.returns-in_default-clause-finds
returns-in_default-clause-finds g c = λ relation known.
    none_there _ relation c.args.number known c.relation.ensures.is (rw c.in_default.is at c.in_ok-found.ensures.finds) refl

pub returns-in_err-tuple-clause-fails : goal.returns-in_err-tuple-clause-fails
returns-in_err-tuple-clause-fails g c =
    let look = c.in_ok-found.ensures in
    let read = c.in_err-tuple.ensures in
    let comes = read.comes c.relation.result.now (still_at c.args.number look.looks.catalog c.relation.ensures.is) in
    let finds = lent_there (rw c.in-Some.is at look.finds) look.looks.goes.told.0 comes in
    let looked = still_looked g.S.Pages.view (session_of c.args.self.now) read.session (record { looks = look.looks; costs = record { asks_high = look.costs.0; writes_high = look.costs.1 } }) in
    passed_on c.from_residual-in_err-tuple.result c.from_residual-in_err-tuple.ensures.1
    (look_comes (parts_of c.args.self.now) (parts_of c.tuple_at.new.self) _ _ read.calls c.requires.up (record { locks = ap (λ (t : LockTable). (told t).locks) read.locks; scans = ap scans_told read.scans }) c.tuple_at.new.self.down (TuplePlace c.relation.result.now.segment c.args.tid)
    (λ none told state is_in. none_spelled _ c.relation.ensures.is finds None (read_never none) refl told state is_in refl)
    looked.looks looked.costs _ (comes_before look.looks.catalog comes) read.ends)

pub returns-clause-looks : goal.returns-clause-looks
returns-clause-looks g c =
    let look = c.in_ok-found.ensures in
    still_looked g.S.Pages.view (session_of c.args.self.now) c.in_ok-tuple.ensures.session
    (record { looks = looks_as (Some c.in_ok-tuple.tuple) look.looks; costs = record { asks_high = look.costs.0; writes_high = look.costs.1 } })

pub returns-clause-finds : goal.returns-clause-finds
returns-clause-finds g c = λ relation known.
    let look = c.in_ok-found.ensures in
    let comes = c.in_ok-tuple.ensures.comes c.relation.result.now (still_at c.args.number look.looks.catalog c.relation.ensures.is) in
    let finds = lent_there (rw c.in-Some.is at look.finds) look.looks.goes.told.0 comes in
    let read = comes_before look.looks.catalog comes in
    let spelled = read.is.spelled in
    record {
      has = λ told state is_in. some_there _ relation c.args.number known c.relation.ensures.is finds (Some c.in_ok-tuple.tuple) (read_only read) refl told state is_in c.in_ok-tuple.tuple refl;
      fit = body_fits c.args.self.now.session.store.catalog.listing c.relation.ensures.is read.is;
      storable = spelled.storable;
      short = tuple_line (kinds c.relation.result.now.fields) c.in_ok-tuple.tuple spelled.fit c.relation.ensures.safe.narrow (few_fields c.relation.ensures.safe) spelled.storable;
      slot = omega (arith, c.if-from-ge-PAGE_ENTRIES.false, c.from.ensures);
    }
