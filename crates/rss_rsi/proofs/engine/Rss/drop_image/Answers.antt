use Rattle.std.proofs.Common.{refl, ap, arith}
use Rattle.rss_base.specs.declared.call.Call.TheVariants.{DropImage}
use Rattle.rss_lock.specs.Table.{told}
use Rattle.rss_scan.specs.Scans.{told as scans_told}
use Rattle.rss_rsi.proofs.Defining.{asks_for, as_up}
use Rattle.rss_rsi.proofs.Imaging.{goes_any, may_define, is_listed, drop_listed, drop_refused}
use Rattle.rss_rsi.proofs.Ways.{asked, fault_of_memory, failed_within, rss_parts, stopped_by}
use Rattle.rss_rsi.proofs.engine.Rss.drop_image.Goals as goal

-- ---- the session fails

pub returns-in_err-refused-clause-did : goal.returns-in_err-refused-clause-did
returns-in_err-refused-clause-did g c =
    let counted = c.in_ok-ask.ensures in
    let failed = c.in_err-refused.ensures in
    asked g.S.Pages.view counted.session counted.locks counted.scans
    (failed_within _ c.from_residual-in_err-refused.ensures.1 counted.was_up (λ up. absurd (cc (up))) failed.goes
    (goes_any (record { of_none = refl; asks = refl; writes = refl; saves = refl }) failed.goes (omega (arith, counted.counted)) (λ none. tt))
    (λ place is told state is_in. failed.sound place is told)
    (λ told state is_in. stopped_by (rss_parts g.S.Pages.view c.drop_image.new.self c.ask.new.self.locks c.ask.new.self.scans) failed.moments told is_in (may_define state (DropImage c.args.name.now) tt refl)))

pub returns-in_err-refused-clause-memory : goal.returns-in_err-refused-clause-memory
returns-in_err-refused-clause-memory g c = fault_of_memory _ c.from_residual-in_err-refused.ensures.1 c.in_err-refused.ensures.goes

-- ---- it was refused

pub returns-in-Some-clause-did : goal.returns-in-Some-clause-did
returns-in-Some-clause-did g c =
    let counted = c.in_ok-ask.ensures in
    let refused = c.in_ok-refused.ensures in
    asked g.S.Pages.view counted.session counted.locks counted.scans
    (drop_refused g.S.Pages.view c.ask.new.self.session c.drop_image.new.self c.ask.new.self.locks c.ask.new.self.scans c.in_ok-refused.refused c.in-Some.is refused.same refused.short refused.says counted.was_up refl (omega (arith, counted.counted)))

-- ---- it is taken away

pub commit_image-requires-clause-some : goal.commit_image-requires-clause-some
commit_image-requires-clause-some g c =
    let store = c.args.self.now in
    let ask = c.in_ok-ask.ensures in
    let taken = c.in_ok-refused.ensures in
    let to = asks_for g.S.Pages.view (DropImage c.args.name.now) store.session (told store.locks) (scans_told store.scans) store.calls in
    (to, is_listed g.S.Pages.view to ask.session (drop_listed c.in_ok-refused.refused c.in_default.is taken.takes taken.says taken.moments taken.goes) tt (record { of_none = refl; asks = refl; writes = refl; saves = refl }) (store.ready ask.was_up) (ap told ask.locks) (ap scans_told ask.scans) c.requires.few ask.counted)

pub returns-clause-did : goal.returns-clause-did
unfolding commit_image-requires-clause-some
returns-clause-did g c =
    let store = c.args.self.now in
    let ask = c.in_ok-ask.ensures in
    let listed = commit_image-requires-clause-some g c.before in
    as_up g.S.Pages.view listed.0 store.down ask.was_up (c.commit_image.ensures.did listed.0 listed.1)
