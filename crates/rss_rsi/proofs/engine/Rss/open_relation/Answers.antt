use Rattle.std.proofs.Common.{◌≡◌, ◌∙◌, true, ap, arith, refl, sym, subst, Vec, Global}
use Rattle.std.specs.FinMap.{insert}
use Rattle.std.proofs.lemmas.Bool.{true≢false}
use Rattle.rss_base.specs.declared.need.Need.{Need}
use Rattle.rss_lock.specs.Table.{told}
use Rattle.rss_model.specs.Locks.{granted}
use Rattle.rss_scan.specs.Scans.{IsLeastFree, begun}
use Rattle.rss_scan.specs.Scans.{told as scans_told}
use Rattle.rss_scan.specs.declared.cursor.Path.TheVariants.{Relation}
use Rattle.rss_session.specs.Parts.{view as session_view}
use Rattle.rss_session.specs.declared.session.Session.{Session}
use Rattle.rss_trans.specs.Transactions.{is_open}
use Rattle.rss_rsi.proofs.ScanCalls.{opens_full, opens_scan, opens_unclaimed, opens_unfit, relation_opening}
use Rattle.rss_rsi.proofs.Scans.{opened_may, ready_scans}
use Rattle.rss_rsi.proofs.Ways.{ScanTable, asked}
use Rattle.rss_rsi.proofs.engine.Rss.open_relation.Goals as goal

pub returns-in_err-number-clause-did : goal.returns-in_err-number-clause-did
returns-in_err-number-clause-did g c =
    let counted = c.in_ok-ask.ensures in
    asked g.S.Pages.view counted.session counted.locks counted.scans
    (opens_unfit (relation_opening c.args.transaction c.args.relation.now) counted.was_up counted.up (omega (arith, counted.counted)) c.from_residual-in_err-number.result c.from_residual-in_err-number.ensures.1 c.in_err-number.ensures.tests)

pub returns-then-is_full-clause-did : goal.returns-then-is_full-clause-did
returns-then-is_full-clause-did g c =
    let counted = c.in_ok-ask.ensures in
    asked g.S.Pages.view counted.session counted.locks counted.scans
    (opens_full (relation_opening c.args.transaction c.args.relation.now) counted.was_up counted.up (omega (arith, counted.counted)) c.in_ok-number.ensures.tests (c.is_full.ensures.0 c.if-is_full.true))

pub returns-in_err-needs-clause-did : goal.returns-in_err-needs-clause-did
returns-in_err-needs-clause-did g c =
    let counted = c.in_ok-ask.ensures in
    let claim = c.in_err-needs.ensures in
    asked g.S.Pages.view counted.session counted.locks counted.scans
    (opens_unclaimed (relation_opening c.args.transaction c.args.relation.now) counted.was_up (claim.down ∙ counted.up) (omega (arith, counted.counted, claim.calls)) c.in_ok-number.ensures.tests (λ full. absurd (true≢false (sym (c.is_full.ensures.1 full) ∙ c.if-is_full.false))) c.in-Ok.ensures.lists (ap (session_view g.S.Pages.view) claim.session)
    _ c.from_residual-in_err-needs.result c.from_residual-in_err-needs.ensures.1 (Vec Need Global) (told c.ask.new.self.locks) (told c.claim.new.self.locks) refl (record { locks = claim.locks; scans = ap scans_told claim.scans }) claim.ends)

pub invariant_of-self : goal.invariant_of-self
invariant_of-self g c = record { ready = λ up. ready_scans _ (opened_may _ _ c.args.transaction (Relation c.args.relation.now) c.add.result c.add.ensures.added c.add.ensures.same (subst (λ (session : Session _). is_open (session_view g.S.Pages.view session).opened c.args.transaction ≡ true) (sym (c.hold.ensures.session ∙ c.in_ok-needs.ensures.session)) c.in_ok-number.ensures.open) tt (c.hold.new.self.ready up).scans) (c.hold.new.self.ready up) }

pub returns-clause-did : goal.returns-clause-did
returns-clause-did g c =
    let counted = c.in_ok-ask.ensures in
    let claim = c.in_ok-needs.ensures in
    let hold = c.hold.ensures in
    let same = hold.scans ∙ claim.scans in
    asked g.S.Pages.view counted.session counted.locks counted.scans
    (opens_scan (relation_opening c.args.transaction c.args.relation.now) counted.was_up (hold.down ∙ claim.down ∙ counted.up) (omega (arith, counted.counted, claim.calls, hold.calls)) c.in_ok-number.ensures.tests (λ full. absurd (true≢false (sym (c.is_full.ensures.1 full) ∙ c.if-is_full.false))) c.in-Ok.ensures.lists (ap (session_view g.S.Pages.view) (hold.session ∙ claim.session))
    (told c.claim.new.self.locks) claim.ends (subst (λ (v : Vec Need Global). (told c.hold.new.self.locks).locks ≡ granted c.args.transaction v.items (told c.claim.new.self.locks).locks) claim.same hold.locks) c.in-Some.scan (Relation c.args.relation.now) (subst (λ (scans : ScanTable). IsLeastFree (scans_told scans) c.in-Some.scan) same c.in-Some.ensures.least)
    (c.in-Some.ensures.added ∙ ap (λ (scans : ScanTable). insert (scans_told scans) c.in-Some.scan (begun c.args.transaction (Relation c.args.relation.now))) same)
    (λ told state is_in. (refl, tt)))
