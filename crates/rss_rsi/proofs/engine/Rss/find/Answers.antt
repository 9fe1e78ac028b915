use Rattle.std.proofs.Common.{Vec, Global, sym, ◌∙◌, ap, arith, subst}
use Rattle.std.specs.Prelude.{option_copied, option_to_list}
use Rattle.rss_base.specs.declared.need.Need.{Need}
use Rattle.rss_lock.specs.Table.{told}
use Rattle.rss_scan.specs.Scans.{told as scans_told}
use Rattle.rss_lock.specs.declared.locks.Locks.{Locks as LockTable}
use Rattle.rss_model.specs.Locks.{granted}
use Rattle.rss_model.specs.Tables.{Tables}
use Rattle.rss_session.proofs.Behind.{looks_as}
use Rattle.rss_rsi.specs.Locking.{accessing, Lists, IsClaimed}
use Rattle.rss_rsi.specs.Parts.{parts_of, session_of}
use Rattle.rss_rsi.proofs.Claims.{claimed_from}
use Rattle.rss_rsi.proofs.KeyLocks.{access_before, may_be_found, may_be_still}
use Rattle.rss_rsi.proofs.Looks.{passed_on, each_looks, still_looked, lacks_looked, claim_lost, lacks_tuple}
use Rattle.rss_rsi.proofs.engine.Rss.find.Goals as goal

pub returns-in_err-found-clause-fails : goal.returns-in_err-found-clause-fails
returns-in_err-found-clause-fails g c = passed_on c.from_residual.result c.from_residual.ensures.1 (each_looks c.in_err-found.ensures.fails)

pub tuple_needs-requires-clause-found : goal.tuple_needs-requires-clause-found
tuple_needs-requires-clause-found g c = may_be_found (parts_of c.args.self.now) c.args.number c.args.relation.now c.args.tid c.in_ok-found.found c.requires.known c.in_ok-found.ensures.finds c.in_ok-found.ensures.looks.looks.catalog

pub tuple_needs-requires-clause-to : goal.tuple_needs-requires-clause-to
tuple_needs-requires-clause-to g c = may_be_still c.args.number (option_copied c.args.to) c.in_ok-found.ensures.looks.looks.catalog c.requires.to

pub returns-in_default-clause-fails : goal.returns-in_default-clause-fails
returns-in_default-clause-fails g c = λ calls call counted first.
    let looked = c.in_ok-found.ensures in
    lacks_looked looked.looks.looks looked.looks.costs first.may (omega (arith, counted, looked.calls)) c.requires.up looked.up (record { locks = ap (λ (t : LockTable). (told t).locks) looked.locks; scans = ap scans_told looked.scans })

pub returns-in_err-needs-clause-fails : goal.returns-in_err-needs-clause-fails
returns-in_err-needs-clause-fails g c =
    let looked = c.in_ok-found.ensures in
    let claim = c.claim.ensures in
    let same = ap (λ (t : LockTable). (told t).locks) looked.locks in
    passed_on c.from_residual-in_err-needs.result c.from_residual-in_err-needs.ensures.1 (λ calls call counted first.
    claim_lost first (access_before (parts_of c.args.self.now) (parts_of c.look_up.new.self) c.args.access c.args.number c.args.relation.now c.args.tid c.in_ok-found.found (option_to_list (option_copied c.args.to)) c.requires.known looked.looks.looks (record { locks = same; scans = ap scans_told looked.scans }) looked.finds c.in-Ok.ensures.lists)
    (parts_of c.claim.new.self) (still_looked g.S.Pages.view (session_of c.args.self.now) claim.session looked.looks) (omega (arith, counted, looked.calls, claim.calls)) c.requires.up (claim.down ∙ looked.up)
    (Vec Need Global) (told c.look_up.new.self.locks) (told c.claim.new.self.locks) (record { locks = claim.locks ∙ same; scans = ap scans_told (claim.scans ∙ looked.scans) }) same c.in_err-needs.ensures.ends)

pub returns-in-Some-clause-finds : goal.returns-in-Some-clause-finds
returns-in-Some-clause-finds g c =
    let looked = c.in_ok-found.ensures in
    let claim = c.in_ok-needs.ensures in
    let same = ap (λ (t : LockTable). (told t).locks) looked.locks in
    let wanted = λ (tables : Tables). accessing tables c.args.access c.args.relation.now c.args.tid (option_to_list (option_copied c.args.to)) in
    record {
      looked = still_looked g.S.Pages.view (session_of c.args.self.now) claim.session (record { looks = looks_as c.in-Some.tuple looked.looks.looks; costs = looked.looks.costs });
      finds = (rw c.in-Some.is at looked.finds) c.args.relation.now c.requires.known;
      lists = subst (λ (needs : Vec Need Global). Lists (parts_of c.args.self.now) wanted needs.items) (sym claim.same)
          (access_before (parts_of c.args.self.now) (parts_of c.look_up.new.self) c.args.access c.args.number c.args.relation.now c.args.tid c.in_ok-found.found (option_to_list (option_copied c.args.to)) c.requires.known looked.looks.looks (record { locks = same; scans = ap scans_told looked.scans }) looked.finds c.in-Ok.ensures.lists);
      claimed = subst (λ (needs : Vec Need Global). IsClaimed (told c.args.self.now.locks) (told c.claim.new.self.locks) c.args.transaction needs.items) (sym claim.same)
          (claimed_from (told c.args.self.now.locks) (told c.look_up.new.self.locks) (told c.claim.new.self.locks) same claim.ends);
    }

pub returns-in-None-clause-fails : goal.returns-in-None-clause-fails
returns-in-None-clause-fails g c = λ calls call counted first.
    let looked = c.in_ok-found.ensures in
    let claim = c.in_ok-needs.ensures in
    let held = c.hold.ensures in
    let same = ap (λ (t : LockTable). (told t).locks) looked.locks in
    let claimed = claimed_from (told c.args.self.now.locks) (told c.look_up.new.self.locks) (told c.claim.new.self.locks) same claim.ends in
    lacks_tuple first (access_before (parts_of c.args.self.now) (parts_of c.look_up.new.self) c.args.access c.args.number c.args.relation.now c.args.tid c.in_ok-found.found (option_to_list (option_copied c.args.to)) c.requires.known looked.looks.looks (record { locks = same; scans = ap scans_told looked.scans }) looked.finds c.in-Ok.ensures.lists)
    (parts_of c.hold.new.self) (still_looked g.S.Pages.view (session_of c.args.self.now) (held.session ∙ claim.session) looked.looks) (omega (arith, counted, looked.calls, claim.calls, held.calls)) c.requires.up (held.down ∙ claim.down ∙ looked.up)
    c.no_tuple.result c.no_tuple.ensures.is c.no_tuple.ensures.short ((rw c.in-None.is at looked.finds) c.args.relation.now c.requires.known)
    claimed.free (held.locks ∙ ap (λ (needs : Vec Need Global). granted c.args.transaction needs.items (told c.claim.new.self.locks).locks) claim.same ∙ ap (granted c.args.transaction c.in-Ok.needs.items) claimed.same) (ap scans_told (held.scans ∙ claim.scans ∙ looked.scans))
