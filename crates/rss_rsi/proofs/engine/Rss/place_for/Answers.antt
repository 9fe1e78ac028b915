use Rattle.std.proofs.Common.{◌∙◌, [], sym, ap, subst, arith}
use Rattle.std.proofs.lemmas.Bool.{false_from_ne_true}
use Rattle.rss_lock.specs.Locks.{HoldsAlone}
use Rattle.rss_lock.specs.Table.{told}
use Rattle.rss_scan.specs.Scans.{told as scans_told}
use Rattle.rss_session.specs.Looks.{FindsPlace}
use Rattle.rss_session.proofs.Behind.{looks_as, looks_then}
use Rattle.rss_rsi.specs.Parts.{parts_of, session_of}
use Rattle.rss_rsi.proofs.Placed.{barred_same, exact_same, named_same, is_place_for, single_place, none_is_free, none_at_all, none_placed, lacks_placing, placing_fails, fails_then}
use Rattle.rss_rsi.proofs.TwoLooks.{place_before, no_place_before}
use Rattle.rss_rsi.proofs.engine.Rss.place_for.Goals as goal

pub returns-in_err-first-clause-fails : goal.returns-in_err-first-clause-fails
returns-in_err-first-clause-fails g c =
    let choose = c.in_err-first.ensures in
    placing_fails (parts_of c.args.self.now) (parts_of c.choose.new.self) choose.looks c.args.transaction c.args.number _ _ choose.calls c.from_residual.result c.from_residual.ensures.1 c.requires.up (λ up. absurd (cc (up, choose.down)))

pub returns-in_default-clause-fails : goal.returns-in_default-clause-fails
returns-in_default-clause-fails g c = λ calls call counted places.
    let choose = c.in_ok-first.ensures in
    none_placed (parts_of c.args.self.now) (parts_of c.choose.new.self) choose.looks (omega (arith, counted, choose.calls)) (record { locks = ap (λ l. (told l).locks) choose.locks; scans = ap scans_told choose.scans }) places c.requires.up choose.up c.relation.ensures.is c.none_free.result c.none_free.ensures
    (none_at_all (parts_of c.args.self.now) c.args.transaction c.args.number c.relation.ensures.is (choose.none c.in_default.is))

pub returns-then-is_alone-clause-place : goal.returns-then-is_alone-clause-place
returns-then-is_alone-clause-place g c =
    let choose = c.in_ok-first.ensures in
    let old = parts_of c.args.self.now in
    single_place old c.args.transaction c.args.number c.relation.ensures.is
    (subst (λ l. HoldsAlone (told l).locks c.args.transaction) choose.locks (c.is_alone.ensures.0 c.if-is_alone.true))
    (subst (FindsPlace old.session c.relation.result.now.segment c.args.length []) c.in-Some.is choose.finds)

pub returns-in_default-relations_in-clause-fails : goal.returns-in_default-relations_in-clause-fails
returns-in_default-relations_in-clause-fails g c = λ calls call counted places.
    let choose = c.in_ok-first.ensures in
    lacks_placing (parts_of c.args.self.now) (parts_of c.choose.new.self) choose.looks (omega (arith, counted, choose.calls)) (record { locks = ap (λ l. (told l).locks) choose.locks; scans = ap scans_told choose.scans }) places c.requires.up choose.up

pub returns-then-not-is_held-clause-looks : goal.returns-then-not-is_held-clause-looks
returns-then-not-is_held-clause-looks g c = looks_as c.in-Some.first c.in_ok-first.ensures.looks

pub returns-then-not-is_held-clause-place : goal.returns-then-not-is_held-clause-place
returns-then-not-is_held-clause-place g c =
    let choose = c.in_ok-first.ensures in
    let old = parts_of c.args.self.now in
    is_place_for old c.args.transaction c.args.number c.relation.ensures.is c.in-Ok.names.items (named_same c.in-Ok.names.items c.relation.result.now.segment c.in_ok-first.ensures.looks.catalog c.in-Ok.ensures) [] (λ other has. absurd (omega (arith, has.1)))
    (subst (FindsPlace old.session c.relation.result.now.segment c.args.length []) c.in-Some.is choose.finds)
    (sym (c.is_held.ensures ∙ barred_same c.args.transaction c.in-Some.first (ap (λ l. (told l).locks) choose.locks) c.deref.ensures.value) ∙ c.if-not-is_held.true)

pub returns-in_default-barred-clause-fails : goal.returns-in_default-barred-clause-fails
returns-in_default-barred-clause-fails g c = λ calls call counted places.
    let choose = c.in_ok-first.ensures in
    lacks_placing (parts_of c.args.self.now) (parts_of c.choose.new.self) choose.looks (omega (arith, counted, choose.calls)) (record { locks = ap (λ l. (told l).locks) choose.locks; scans = ap scans_told choose.scans }) places c.requires.up choose.up

pub returns-in_err-tid-clause-fails : goal.returns-in_err-tid-clause-fails
returns-in_err-tid-clause-fails g c =
    let first = c.in_ok-first.ensures in
    let second = c.in_err-tid.ensures in
    placing_fails (parts_of c.args.self.now) (parts_of c.choose-2.new.self) (fails_then first.looks second.looks) c.args.transaction c.args.number _ _ (second.calls ∙ first.calls) c.from_residual-in_err-tid.result c.from_residual-in_err-tid.ensures.1 c.requires.up (λ up. absurd (cc (up, second.down)))

pub returns-in-Some-2-clause-looks : goal.returns-in-Some-2-clause-looks
returns-in-Some-2-clause-looks g c = looks_as c.in-Some-2.tid (looks_then c.in_ok-first.ensures.looks c.in_ok-tid.ensures.looks)

pub returns-in-Some-2-clause-place : goal.returns-in-Some-2-clause-place
returns-in-Some-2-clause-place g c =
    let first = c.in_ok-first.ensures in
    let second = c.in_ok-tid.ensures in
    let old = parts_of c.args.self.now in
    let exact = exact_same c.args.transaction (ap (λ l. (told l).locks) first.locks) c.deref-2.ensures.value c.deref-3.ensures.value c.in-Ok-barred.ensures.exact in
    let place = subst (FindsPlace (session_of c.choose.new.self) c.relation.result.now.segment c.args.length c.deref-3.result.now) c.in-Some-2.is second.finds in
    is_place_for old c.args.transaction c.args.number c.relation.ensures.is c.in-Ok.names.items (named_same c.in-Ok.names.items c.relation.result.now.segment c.in_ok-first.ensures.looks.catalog c.in-Ok.ensures) c.deref-3.result.now (λ other has. (exact other).0 has)
    (place_before (c.args.self.now.ready c.requires.up).session first.looks first.pages place)
    (false_from_ne_true _ (λ held. place.named.allowed ((exact c.in-Some-2.tid).1 held)))

pub returns-clause-fails : goal.returns-clause-fails
returns-clause-fails g c = λ calls call counted places.
    let first = c.in_ok-first.ensures in
    let second = c.in_ok-tid.ensures in
    let old = parts_of c.args.self.now in
    let exact = exact_same c.args.transaction (ap (λ l. (told l).locks) first.locks) c.deref-2.ensures.value c.deref-3.ensures.value c.in-Ok-barred.ensures.exact in
    none_placed old (parts_of c.choose-2.new.self) (looks_then first.looks second.looks) (omega (arith, counted, first.calls, second.calls)) (record { locks = ap (λ l. (told l).locks) (second.locks ∙ first.locks); scans = ap scans_told (second.scans ∙ first.scans) }) places c.requires.up second.up c.relation.ensures.is c.none_free-in-None.result c.none_free-in-None.ensures
    (none_is_free old c.args.transaction c.args.number c.relation.ensures.is c.in-Ok.names.items (named_same c.in-Ok.names.items c.relation.result.now.segment c.in_ok-first.ensures.looks.catalog c.in-Ok.ensures) c.deref-3.result.now (λ other has. (exact other).0 has)
    (no_place_before (c.args.self.now.ready c.requires.up).session first.looks first.pages c.relation.result.now.segment c.deref-3.result.now (second.none c.in-None.is)))
