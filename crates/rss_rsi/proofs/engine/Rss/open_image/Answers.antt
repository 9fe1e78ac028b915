use Rattle.std.proofs.Common.{◌≡◌, ◌∙◌, true, ap, arith, refl, sym, subst, Vec, Global}
use Rattle.std.specs.Prelude.{IfSome, is_some}
use Rattle.std.specs.FinMap.{insert}
use Rattle.std.proofs.lemmas.Bool.{true≢false}
use Rattle.rss_base.specs.declared.need.Need.{Need}
use Rattle.rss_lock.specs.Table.{told}
use Rattle.rss_model.specs.Locks.{granted}
use Rattle.rss_scan.specs.Scans.{IsLeastFree, begun}
use Rattle.rss_scan.specs.Scans.{told as scans_told}
use Rattle.rss_scan.specs.declared.cursor.Path.TheVariants.{Image}
use Rattle.rss_session.specs.Parts.{view as session_view}
use Rattle.rss_session.specs.declared.session.Session.{Session}
use Rattle.rss_trans.specs.Transactions.{is_open}
use Rattle.rss_base.specs.Listings.{IsNumberOf}
use Rattle.rss_base.specs.declared.refusal.Kind.TheVariants.{Image as ImageKind}
use Rattle.rss_catalog.specs.Catalogs.{HasNoLesser}
use Rattle.rss_session.specs.Imaging.{KeyFits, StartsAt}
use Rattle.rss_session.proofs.Starts.{image_entry}
use Rattle.rss_rsi.proofs.ImageScans.{image_starts, long_first, start_long}
use Rattle.rss_rsi.proofs.ScanCalls.{opens_full, opens_scan, opens_unclaimed, opens_unfit, image_opening}
use Rattle.rss_rsi.proofs.Scans.{opened_may, ready_scans}
use Rattle.rss_rsi.proofs.Ways.{ScanTable, asked}
use Rattle.rss_rsi.proofs.engine.Rss.open_image.Goals as goal

pub returns-in_err-number-clause-did : goal.returns-in_err-number-clause-did
returns-in_err-number-clause-did g c =
    let counted = c.in_ok-ask.ensures in
    asked g.S.Pages.view counted.session counted.locks counted.scans
    (opens_unfit (image_opening c.args.transaction c.args.image.now c.args.from.now) counted.was_up counted.up (omega (arith, counted.counted)) c.from_residual-in_err-number.result c.from_residual-in_err-number.ensures.1 c.in_err-number.ensures.tests)

pub returns-then-is_full-clause-did : goal.returns-then-is_full-clause-did
returns-then-is_full-clause-did g c =
    let counted = c.in_ok-ask.ensures in
    asked g.S.Pages.view counted.session counted.locks counted.scans
    (opens_full (image_opening c.args.transaction c.args.image.now c.args.from.now) counted.was_up counted.up (omega (arith, counted.counted)) c.in_ok-number.ensures.tests (c.is_full.ensures.0 c.if-is_full.true))

pub returns-in_err-needs-clause-did : goal.returns-in_err-needs-clause-did
returns-in_err-needs-clause-did g c =
    let counted = c.in_ok-ask.ensures in
    let claim = c.in_err-needs.ensures in
    asked g.S.Pages.view counted.session counted.locks counted.scans
    (opens_unclaimed (image_opening c.args.transaction c.args.image.now c.args.from.now) counted.was_up (claim.down ∙ counted.up) (omega (arith, counted.counted, claim.calls)) c.in_ok-number.ensures.tests (λ full. absurd (true≢false (sym (c.is_full.ensures.1 full) ∙ c.if-is_full.false))) (c.in-Ok.ensures.lists c.args.image.now c.in_ok-number.ensures.known) (ap (session_view g.S.Pages.view) claim.session)
    _ c.from_residual-in_err-needs.result c.from_residual-in_err-needs.ensures.1 (Vec Need Global) (told c.ask.new.self.locks) (told c.claim.new.self.locks) refl (record { locks = claim.locks; scans = ap scans_told claim.scans }) claim.ends)

pub start_key-start-requires-clause-there : goal.start_key-start-requires-clause-there
start_key-start-requires-clause-there g c =
    let same = c.hold.ensures.session ∙ c.in_ok-needs.ensures.session in
    ap is_some (image_entry c.hold.new.self.session.store.catalog.listing c.args.image.now c.in_ok-number.number
    (subst (λ (session : Session _). IsNumberOf ImageKind session.store.catalog.listing c.args.image.now c.in_ok-number.number) (sym same) c.in_ok-number.ensures.known)).at

pub start_key-start-requires-clause-fit : goal.start_key-start-requires-clause-fit
start_key-start-requires-clause-fit g c =
    let same = c.hold.ensures.session ∙ c.in_ok-needs.ensures.session in
    subst (λ (session : Session _). IfSome c.args.from.now (KeyFits session.store.catalog.listing c.in_ok-number.number)) (sym same) c.in_ok-number.ensures.fit

pub invariant_of-self : goal.invariant_of-self
invariant_of-self g c = record {
  ready = λ up.
      let same = c.hold.ensures.session ∙ c.in_ok-needs.ensures.session in
      let mine = subst (λ (session : Session _). is_open (session_view g.S.Pages.view session).opened c.args.transaction ≡ true) (sym same) c.in_ok-number.ensures.open in
      let known = subst (λ (session : Session _). IsNumberOf ImageKind session.store.catalog.listing c.args.image.now c.in_ok-number.number) (sym same) c.in_ok-number.ensures.known in
      let first = subst (λ (session : Session _). HasNoLesser ImageKind session.store.catalog.listing c.args.image.now c.in_ok-number.number) (sym same) c.in_ok-number.ensures.first in
      let long = long_first c.hold.new.self.session.store.catalog.listing c.args.image.now c.in_ok-number.number c.start_key-start.result known first (start_long c.args.from.now c.start_key-start.result c.start_key-start.ensures) in
      ready_scans _ (opened_may _ _ c.args.transaction (Image c.args.image.now c.start_key-start.result) c.add.result c.add.ensures.added c.add.ensures.same mine (long, tt) (c.hold.new.self.ready up).scans) (c.hold.new.self.ready up);
}

pub returns-clause-did : goal.returns-clause-did
returns-clause-did g c =
    let counted = c.in_ok-ask.ensures in
    let claim = c.in_ok-needs.ensures in
    let hold = c.hold.ensures in
    let same = hold.scans ∙ claim.scans in
    asked g.S.Pages.view counted.session counted.locks counted.scans
    (opens_scan (image_opening c.args.transaction c.args.image.now c.args.from.now) counted.was_up (hold.down ∙ claim.down ∙ counted.up) (omega (arith, counted.counted, claim.calls, hold.calls)) c.in_ok-number.ensures.tests (λ full. absurd (true≢false (sym (c.is_full.ensures.1 full) ∙ c.if-is_full.false))) (c.in-Ok.ensures.lists c.args.image.now c.in_ok-number.ensures.known) (ap (session_view g.S.Pages.view) (hold.session ∙ claim.session))
    (told c.claim.new.self.locks) claim.ends (subst (λ (v : Vec Need Global). (told c.hold.new.self.locks).locks ≡ granted c.args.transaction v.items (told c.claim.new.self.locks).locks) claim.same hold.locks) c.in-Some.scan (Image c.args.image.now c.start_key-start.result) (subst (λ (scans : ScanTable). IsLeastFree (scans_told scans) c.in-Some.scan) same c.in-Some.ensures.least)
    (c.in-Some.ensures.added ∙ ap (λ (scans : ScanTable). insert (scans_told scans) c.in-Some.scan (begun c.args.transaction (Image c.args.image.now c.start_key-start.result))) same)
    (λ told state is_in. image_starts c.args.transaction c.args.image.now c.in_ok-number.number c.args.from.now c.start_key-start.result is_in c.in_ok-number.ensures.known
    (subst (λ (session : Session _). StartsAt session.store.catalog.listing c.in_ok-number.number c.args.from.now c.start_key-start.result) (hold.session ∙ claim.session) c.start_key-start.ensures)))
