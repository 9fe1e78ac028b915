use Rattle.std.proofs.Common.{refl, ◌∙◌, ap, arith}
use Rattle.rss_base.specs.declared.call.Call.TheVariants.{MakeImage}
use Rattle.rss_lock.specs.Table.{told}
use Rattle.rss_lock.specs.declared.locks.Locks.{Locks as LockTable}
use Rattle.rss_scan.specs.Scans.{told as scans_told}
use Rattle.rss_trans.specs.Transactions.{OpenView}
use Rattle.rss_rsi.specs.Parts.{parts_of, session_of}
use Rattle.rss_rsi.proofs.Defining.{asks_for, as_up}
use Rattle.rss_rsi.proofs.Imaged.{any_image, image_unplanned, search_fails, refused_searched, fill_fails, planned_still, repeated_refuses, roomless_refuses, make_listed}
use Rattle.rss_rsi.proofs.Imaging.{is_listed}
use Rattle.rss_rsi.proofs.Looks.{passed_call}
use Rattle.rss_rsi.proofs.Ways.{asked, refused_test, rss_parts}
use Rattle.rss_rsi.proofs.engine.Rss.make_image.Goals as goal

-- ---- it isn't planned

pub returns-in_err-image-clause-did : goal.returns-in_err-image-clause-did
returns-in_err-image-clause-did g c =
    let counted = c.in_ok-ask.ensures in
    let tests = c.in_err-image.ensures.tests in
    asked g.S.Pages.view counted.session counted.locks counted.scans
    (refused_test _ c.from_residual-in_err-image.ensures.1 counted.was_up counted.up (omega (arith, counted.counted)) tests.1 (λ tables. refl)
    (λ told state shows. image_unplanned state c.args.name.now c.args.relation.now c.args.is_unique c.args.fields.now (tests.0 told state shows)))

-- ---- its entries

pub image_entries-requires-clause-planned : goal.image_entries-requires-clause-planned
image_entries-requires-clause-planned g c = record {
  name = c.args.name.now;
  relation = c.args.relation.now;
  is_unique = c.args.is_unique;
  fields = c.args.fields.now;
  plans = c.in_ok-image.ensures.plans;
}

pub returns-in_err-entries-clause-did : goal.returns-in_err-entries-clause-did
returns-in_err-entries-clause-did g c =
    let counted = c.in_ok-ask.ensures in
    let found = c.in_err-entries.ensures in
    asked g.S.Pages.view counted.session counted.locks counted.scans
    (passed_call c.from_residual-in_err-entries.result c.from_residual-in_err-entries.ensures.1
    (search_fails (parts_of c.ask.new.self) (parts_of c.image_entries.new.self) any_image c.requires.name (record { locks = ap (λ (t : LockTable). (told t).locks) found.locks; scans = ap scans_told found.scans }) counted.was_up (omega (arith, counted.counted, found.calls)) _ found.ends))

-- ---- its tests

pub test_image_keys-requires-clause-ready : goal.test_image_keys-requires-clause-ready
test_image_keys-requires-clause-ready g c = c.in_ok-entries.ensures.ends.1.ready

pub test_image_keys-requires-clause-closed : goal.test_image_keys-requires-clause-closed
test_image_keys-requires-clause-closed g c = ap (λ (o : OpenView). o.transactions) c.in_ok-entries.ensures.ends.1.opened ∙ c.in_ok-image.ensures.closed

pub returns-in_err-test_image_keys-clause-did : goal.returns-in_err-test_image_keys-clause-did
returns-in_err-test_image_keys-clause-did g c =
    let counted = c.in_ok-ask.ensures in
    let found = c.in_ok-entries.ensures in
    let tests = c.in_err-test_image_keys.ensures in
    let image = c.in_ok-image.ensures in
    asked g.S.Pages.view counted.session counted.locks counted.scans
    (refused_searched (parts_of c.ask.new.self) (parts_of c.image_entries.new.self) any_image c.requires.name (record { locks = ap (λ (t : LockTable). (told t).locks) found.locks; scans = ap scans_told found.scans }) counted.was_up (omega (arith, counted.counted, found.calls)) found.ends.1
    _ c.from_residual-in_err-test_image_keys.ensures.1 found.ends.0 tests.short
    (repeated_refuses (session_of c.ask.new.self) (session_of c.image_entries.new.self) image.plans found.ends.1 image.tests tests.tests))

pub test_image_room-requires-clause-planned : goal.test_image_room-requires-clause-planned
test_image_room-requires-clause-planned g c = planned_still (session_of c.ask.new.self) (session_of c.image_entries.new.self) c.in_ok-image.ensures.plans c.in_ok-entries.ensures.ends.1

pub returns-in_err-test_image_room-clause-did : goal.returns-in_err-test_image_room-clause-did
returns-in_err-test_image_room-clause-did g c =
    let counted = c.in_ok-ask.ensures in
    let found = c.in_ok-entries.ensures in
    let image = c.in_ok-image.ensures in
    let refuses = roomless_refuses (session_of c.ask.new.self) (session_of c.image_entries.new.self) image.plans found.ends.1 image.tests c.in_ok-test_image_keys.ensures.tests c.in_err-test_image_room.ensures.tests in
    asked g.S.Pages.view counted.session counted.locks counted.scans
    (refused_searched (parts_of c.ask.new.self) (parts_of c.image_entries.new.self) any_image c.requires.name (record { locks = ap (λ (t : LockTable). (told t).locks) found.locks; scans = ap scans_told found.scans }) counted.was_up (omega (arith, counted.counted, found.calls)) found.ends.1
    _ c.from_residual-in_err-test_image_room.ensures.1 found.ends.0 refuses.1 refuses.0)

-- ---- it is filled

pub fill_image-requires-clause-planned : goal.fill_image-requires-clause-planned
fill_image-requires-clause-planned g c = planned_still (session_of c.ask.new.self) (session_of c.image_entries.new.self) c.in_ok-image.ensures.plans c.in_ok-entries.ensures.ends.1

pub returns-in_err-fill_image-clause-did : goal.returns-in_err-fill_image-clause-did
returns-in_err-fill_image-clause-did g c =
    let counted = c.in_ok-ask.ensures in
    let found = c.in_ok-entries.ensures in
    let filled = c.in_err-fill_image.ensures in
    asked g.S.Pages.view counted.session counted.locks counted.scans
    (fill_fails (parts_of c.ask.new.self) (rss_parts g.S.Pages.view c.fill_image.new.self c.image_entries.new.self.locks c.image_entries.new.self.scans) any_image c.requires.name found.ends.1 counted.was_up (omega (arith, counted.counted, found.calls))
    _ c.from_residual-in_err-fill_image.ensures.1 (λ up. absurd (cc (up))) filled.goes filled.moments filled.sound)

-- ---- and committed

pub commit_image-requires-clause-some : goal.commit_image-requires-clause-some
commit_image-requires-clause-some g c =
    let store = c.args.self.now in
    let ask = c.in_ok-ask.ensures in
    let image = c.in_ok-image.ensures in
    let found = c.in_ok-entries.ensures in
    let filled = c.in_ok-fill_image.ensures in
    let to = asks_for g.S.Pages.view (MakeImage c.args.name.now c.args.relation.now c.args.is_unique c.args.fields.now) store.session (told store.locks) (scans_told store.scans) store.calls in
    let listed = make_listed (session_of c.ask.new.self) (session_of c.image_entries.new.self) image.plans found.ends.1 image.tests c.in_ok-test_image_keys.ensures.tests image.closed c.in_ok-test_image_room.ensures.tests filled.makes filled.moments filled.goes in
    (to, is_listed g.S.Pages.view to ask.session listed c.requires.name (record { of_none = refl; asks = refl; writes = refl; saves = refl }) (store.ready ask.was_up) (ap told (found.locks ∙ ask.locks)) (ap scans_told (found.scans ∙ ask.scans)) c.requires.few (found.calls ∙ ask.counted))

pub returns-clause-did : goal.returns-clause-did
unfolding commit_image-requires-clause-some
returns-clause-did g c =
    let store = c.args.self.now in
    let ask = c.in_ok-ask.ensures in
    let listed = commit_image-requires-clause-some g c.before.before in
    as_up g.S.Pages.view listed.0 store.down ask.was_up (c.commit_image.ensures.did listed.0 listed.1)
