use Rattle.std.proofs.Common.{[], ap, refl, sym, ◌∙◌}
use Rattle.std.specs.Prelude.{Some, is_some, option_map}
use Rattle.rss_base.specs.Listings.{link_at, relation_at}
use Rattle.rss_catalog.specs.Catalogs.{CatalogView}
use Rattle.rss_model.specs.Images.{entry}
use Rattle.rss_session.proofs.Behind.{looks_then, nothing_then}
use Rattle.rss_rsi.specs.Parts.{parts_of, session_of}
use Rattle.rss_rsi.specs.Scanning.{lost_test}
use Rattle.rss_rsi.proofs.Chained.{link_entry, some_entry}
use Rattle.rss_rsi.proofs.LinkEnds.{passed_test, test_fails, test_passes, test_refused}
use Rattle.rss_rsi.proofs.Looks.{ready_looked}
use Rattle.rss_rsi.proofs.Members.{member_fails, member_row, next_is, next_lost, next_stays}
use Rattle.rss_rsi.proofs.engine.Rss.find_member.Goals as goal

pub returns-in_err-found-clause-ends : goal.returns-in_err-found-clause-ends
returns-in_err-found-clause-ends g c = passed_test c.from_residual.result c.from_residual.ensures.1 (test_fails (lost_test c.args.link.now c.args.parent c.args.after) _ c.in_err-found.ensures.looks (λ up. absurd (cc (up))))

pub invariant_of-self-2 : goal.invariant_of-self-2
invariant_of-self-2 g c = record { ready = λ up. ready_looked (parts_of c.args.self.now) _ {found = c.in_ok-found.found} (c.args.self.now.ready c.requires.up) c.in_ok-found.ensures.looks (record { locks = refl; scans = refl }) }

pub returns-in_default-clause-ends : goal.returns-in_default-clause-ends
returns-in_default-clause-ends g c = test_refused (lost_test c.args.link.now c.args.parent c.args.after) c.not_connected.result c.not_connected.ensures.is c.in_ok-found.ensures.looks refl
    (next_lost (session_of c.args.self.now) c.args.link.now c.args.number c.requires.known c.args.parent c.args.after c.in_ok-found.found c.in_ok-found.ensures.finds c.in_default.is) c.not_connected.ensures.short refl

pub returns-in_default-next-clause-ends : goal.returns-in_default-next-clause-ends
returns-in_default-next-clause-ends g c = test_passes (lost_test c.args.link.now c.args.parent c.args.after) _ c.in_ok-found.ensures.looks refl
    (next_stays (session_of c.args.self.now) c.args.link.now c.args.number c.requires.known c.args.parent c.args.after c.in_ok-found.found c.in_ok-found.ensures.finds c.in-Some.next c.in-Some.is)

pub returns-in_default-next-clause-finds : goal.returns-in_default-next-clause-finds
returns-in_default-next-clause-finds g c = λ told state kept shows.
    next_is (session_of c.args.self.now) c.args.link.now c.args.number c.requires.known c.args.parent c.args.after c.in_ok-found.found c.in_ok-found.ensures.finds c.in-Some.next c.in-Some.is told state kept shows
    ∙ ap (option_map (entry [])) c.in_default-next.is

pub returns-in_err-tuple-clause-ends : goal.returns-in_err-tuple-clause-ends
returns-in_err-tuple-clause-ends g c =
    let looks = c.in_ok-found.ensures.looks in
    let at = ap (λ (catalog : CatalogView). link_at catalog.listing c.args.number) (sym looks.catalog) ∙ c.link.ensures.is in
    let child = some_entry (relation_at c.args.self.now.session.store.catalog.listing c.link.result.now.child) (ap (λ (catalog : CatalogView). is_some (relation_at catalog.listing c.link.result.now.child)) (sym looks.catalog) ∙ c.link.ensures.safe.child) in
    passed_test c.from_residual-in_err-tuple.result c.from_residual-in_err-tuple.ensures.1
    (member_fails (session_of c.args.self.now) c.args.link.now c.args.number c.requires.known at child.1 c.args.parent c.args.after c.in_ok-found.found c.in_ok-found.ensures.finds c.in-Some-next.tid (c.in-Some.is ∙ ap Some c.in-Some-next.is)
    looks (lost_test c.args.link.now c.args.parent c.args.after) _ _ c.in_err-tuple.ensures.ends)

pub returns-in_err-tuple-clause-idle : goal.returns-in_err-tuple-clause-idle
returns-in_err-tuple-clause-idle g c = nothing_then c.in_ok-found.ensures.idle c.in_err-tuple.ensures.idle

pub returns-clause-ends : goal.returns-clause-ends
returns-clause-ends g c =
    let read = c.in_ok-tuple.ensures.ends.by in
    test_passes (lost_test c.args.link.now c.args.parent c.args.after) _ (looks_then c.in_ok-found.ensures.looks read.1) read.0
    (next_stays (session_of c.args.self.now) c.args.link.now c.args.number c.requires.known c.args.parent c.args.after c.in_ok-found.found c.in_ok-found.ensures.finds c.in-Some.next c.in-Some.is)

pub returns-clause-finds : goal.returns-clause-finds
returns-clause-finds g c =
    let looks = c.in_ok-found.ensures.looks in
    let at = ap (λ (catalog : CatalogView). link_at catalog.listing c.args.number) (sym looks.catalog) ∙ c.link.ensures.is in
    let child = some_entry (relation_at c.args.self.now.session.store.catalog.listing c.link.result.now.child) (ap (λ (catalog : CatalogView). is_some (relation_at catalog.listing c.link.result.now.child)) (sym looks.catalog) ∙ c.link.ensures.safe.child) in
    member_row (session_of c.args.self.now) c.args.link.now c.args.number c.requires.known at child.1 c.args.parent c.args.after c.in_ok-found.found c.in_ok-found.ensures.finds c.in-Some-next.tid (c.in-Some.is ∙ ap Some c.in-Some-next.is)
    looks c.in_ok-tuple.tuple c.in_ok-tuple.ensures.ends.by.2

pub returns-clause-idle : goal.returns-clause-idle
returns-clause-idle g c = nothing_then c.in_ok-found.ensures.idle c.in_ok-tuple.ensures.idle

pub link-requires : goal.link-requires
link-requires g c =
    ap (λ (catalog : CatalogView). is_some (link_at catalog.listing c.args.number)) c.in_ok-found.ensures.looks.catalog
    ∙ ap is_some (link_entry c.args.self.now.session.store.catalog.listing c.args.link.now c.args.number c.requires.known).at
