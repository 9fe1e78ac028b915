use Rattle.std.proofs.Common.{◌≡◌, ◌∙◌, ap, arith, refl, subst, Vec, Global}
use Rattle.rss_lock.specs.Table.{told}
use Rattle.rss_scan.specs.Scans.{told as scans_told}
use Rattle.rss_base.specs.declared.need.Need.{Need}
use Rattle.rss_model.specs.Locks.{granted}
use Rattle.rss_session.specs.Parts.{view as session_view}
use Rattle.rss_rsi.proofs.LockCalls.{lock_unopened, lock_undefined, lock_unclaimed, lock_holds}
use Rattle.rss_rsi.proofs.Ways.{asked}
use Rattle.rss_rsi.proofs.engine.Rss.lock.Goals as goal

pub returns-in_err-test_open-clause-did : goal.returns-in_err-test_open-clause-did
returns-in_err-test_open-clause-did g c =
    let counted = c.in_ok-ask.ensures in
    asked g.S.Pages.view counted.session counted.locks counted.scans
    (lock_unopened c.args.transaction c.args.item.now c.args.exclusive counted.was_up counted.up (omega (arith, counted.counted)) c.from_residual-in_err-test_open.result c.from_residual-in_err-test_open.ensures.1 c.in_err-test_open.ensures.tests)

pub returns-in_err-number-clause-did : goal.returns-in_err-number-clause-did
returns-in_err-number-clause-did g c =
    let counted = c.in_ok-ask.ensures in
    asked g.S.Pages.view counted.session counted.locks counted.scans
    (lock_undefined c.args.transaction c.args.item.now c.args.exclusive counted.was_up counted.up (omega (arith, counted.counted)) c.in_ok-test_open.ensures.tests c.from_residual-in_err-number.result c.from_residual-in_err-number.ensures.1 c.in_err-number.ensures.tests)

pub returns-in_err-needs-clause-did : goal.returns-in_err-needs-clause-did
returns-in_err-needs-clause-did g c =
    let counted = c.in_ok-ask.ensures in
    let claim = c.in_err-needs.ensures in
    asked g.S.Pages.view counted.session counted.locks counted.scans
    (lock_unclaimed c.args.transaction c.args.item.now c.args.exclusive counted.was_up (claim.down ∙ counted.up) (omega (arith, counted.counted, claim.calls)) c.in_ok-test_open.ensures.tests c.in_ok-number.ensures.tests c.in-Ok.ensures.lists (ap (session_view g.S.Pages.view) claim.session)
    _ c.from_residual-in_err-needs.result c.from_residual-in_err-needs.ensures.1 (Vec Need Global) (told c.ask.new.self.locks) (told c.claim.new.self.locks) refl (record { locks = claim.locks; scans = ap scans_told claim.scans }) claim.ends)

pub returns-clause-did : goal.returns-clause-did
returns-clause-did g c =
    let counted = c.in_ok-ask.ensures in
    let claim = c.in_ok-needs.ensures in
    let hold = c.hold.ensures in
    asked g.S.Pages.view counted.session counted.locks counted.scans
    (lock_holds c.args.transaction c.args.item.now c.args.exclusive counted.was_up (hold.down ∙ claim.down ∙ counted.up) (omega (arith, counted.counted, claim.calls, hold.calls)) c.in_ok-test_open.ensures.tests c.in_ok-number.ensures.tests c.in-Ok.ensures.lists (ap (session_view g.S.Pages.view) (hold.session ∙ claim.session))
    c.requires.granule (told c.claim.new.self.locks) claim.ends (subst (λ (v : Vec Need Global). (told c.hold.new.self.locks).locks ≡ granted c.args.transaction v.items (told c.claim.new.self.locks).locks) claim.same hold.locks) (ap scans_told (hold.scans ∙ claim.scans)))
