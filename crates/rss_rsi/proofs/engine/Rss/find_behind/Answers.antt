use Rattle.std.proofs.Common.{arith, refl, ap, []}
use Rattle.std.specs.Prelude.{Some, None}
use Rattle.rss_base.specs.TupleTypes.{kinds}
use Rattle.rss_base.specs.declared.place.Place.TheVariants.{Tuple as TuplePlace}
use Rattle.rss_lock.specs.Table.{told}
use Rattle.rss_lock.specs.declared.locks.Locks.{Locks as LockTable}
use Rattle.rss_model.proofs.Lengths.{row_line}
use Rattle.rss_scan.specs.Scans.{told as scans_told}
use Rattle.rss_session.proofs.Behind.{looks_as}
use Rattle.rss_rsi.specs.Parts.{parts_of, session_of}
use Rattle.rss_rsi.proofs.Bodied.{comes_before, costly_comes, idle_still, lent_there, read_never, read_only, still_looks}
use Rattle.rss_rsi.proofs.Looks.{ready_looked, costly_fails, passed_on, still_at, few_fields}
use Rattle.rss_rsi.proofs.Scans.{none_unread, none_behind, row_behind}
use Rattle.rss_rsi.proofs.engine.Rss.find_behind.Goals as goal

pub returns-in_err-found-clause-fails : goal.returns-in_err-found-clause-fails
returns-in_err-found-clause-fails g c =
    passed_on c.from_residual.result c.from_residual.ensures.1
    (costly_fails _ _ (record { fault = _; is = refl; looks = c.in_err-found.ensures.looks }) _ _ refl c.requires.up (λ up. absurd (cc (up))))

pub invariant_of-self-2 : goal.invariant_of-self-2
invariant_of-self-2 g c = record { ready = λ up. ready_looked (parts_of c.args.self.now) _ {found = c.in_ok-found.found} (c.args.self.now.ready c.requires.up) c.in_ok-found.ensures.looks (record { locks = refl; scans = refl }) }

pub returns-in_default-clause-finds : goal.returns-in_default-clause-finds
returns-in_default-clause-finds g c = none_behind (parts_of c.args.self.now) c.args.number c.relation.ensures.is c.args.after [] (rw c.in_default.is at c.in_ok-found.ensures.finds)

pub returns-in_err-tuple-clause-fails : goal.returns-in_err-tuple-clause-fails
returns-in_err-tuple-clause-fails g c =
    let look = c.in_ok-found.ensures in
    let read = c.in_err-tuple.ensures in
    let comes = read.comes c.relation.result.now (still_at c.args.number look.looks.catalog c.relation.ensures.is) in
    let finds = lent_there (rw c.in-Some.is at look.finds) look.looks.goes.told.0 comes in
    passed_on c.from_residual-in_err-tuple.result c.from_residual-in_err-tuple.ensures.1
    (costly_comes (parts_of c.args.self.now) (parts_of c.tuple_at.new.self) _ _ read.calls c.requires.up (record { locks = ap (λ (t : LockTable). (told t).locks) read.locks; scans = ap scans_told read.scans }) c.tuple_at.new.self.down (TuplePlace c.relation.result.now.segment c.in-Some.tid)
    (λ none told state is_in. none_unread (parts_of c.args.self.now) c.args.number c.relation.ensures.is c.args.after (Some c.in-Some.tid) comes.body finds c.in-Some.tid refl None (read_never none) told state is_in refl)
    (still_looks g.S.Pages.view (session_of c.args.self.now) read.session look.looks) _ (comes_before look.looks.catalog comes) read.ends)

pub returns-in_err-tuple-clause-idle : goal.returns-in_err-tuple-clause-idle
returns-in_err-tuple-clause-idle g c = idle_still g.S.Pages.view (session_of c.args.self.now) c.in_err-tuple.ensures.session c.in_ok-found.ensures.idle

pub returns-clause-looks : goal.returns-clause-looks
returns-clause-looks g c = still_looks g.S.Pages.view (session_of c.args.self.now) c.in_ok-tuple.ensures.session (looks_as (Some (c.in-Some.tid, c.in_ok-tuple.tuple)) c.in_ok-found.ensures.looks)

pub returns-clause-idle : goal.returns-clause-idle
returns-clause-idle g c = idle_still g.S.Pages.view (session_of c.args.self.now) c.in_ok-tuple.ensures.session c.in_ok-found.ensures.idle

pub returns-clause-finds : goal.returns-clause-finds
returns-clause-finds g c =
    let look = c.in_ok-found.ensures in
    let comes = c.in_ok-tuple.ensures.comes c.relation.result.now (still_at c.args.number look.looks.catalog c.relation.ensures.is) in
    let finds = lent_there (rw c.in-Some.is at look.finds) look.looks.goes.told.0 comes in
    let read = comes_before look.looks.catalog comes in
    let spelled = read.is.spelled in
    row_behind (parts_of c.args.self.now) c.args.number c.relation.ensures.is c.args.after (Some c.in-Some.tid) comes.body finds c.in-Some.tid refl (Some c.in_ok-tuple.tuple) (read_only read)
    c.in_ok-tuple.tuple refl
    (row_line c.in-Some.tid (kinds c.relation.result.now.fields) c.in_ok-tuple.tuple (omega (arith, c.tid_is_spelled.ensures.page)) (omega (arith, c.tid_is_spelled.ensures.slot)) spelled.fit c.relation.ensures.safe.narrow (few_fields c.relation.ensures.safe) spelled.storable)
