use Rattle.std.proofs.Common.{◌≡◌, ◌∙◌, ap}
use Rattle.std.specs.Prelude.{Err, None, is_some}
use Rattle.rss_base.specs.Listings.{link_at}
use Rattle.rss_base.specs.declared.name.Name.{Name}
use Rattle.rss_catalog.specs.Catalogs.{CatalogView}
use Rattle.rss_members.specs.Calls.{above_in}
use Rattle.rss_model.specs.Chains.{chain_with}
use Rattle.rss_model.specs.Machine.{State, now}
use Rattle.rss_session.proofs.Behind.{looks_then}
use Rattle.rss_rsi.specs.Linking.{below_test, passes_all}
use Rattle.rss_rsi.specs.Parts.{session_of}
use Rattle.rss_rsi.proofs.Chained.{link_entry}
use Rattle.rss_rsi.proofs.LinkEnds.{passed_test, test_behind, test_passes, test_stops}
use Rattle.rss_rsi.proofs.Places.{link_before, no_parent_says, parent_says}
use Rattle.rss_rsi.proofs.engine.Rss.find_parent.Goals as goal

pub returns-in_err-test_child-clause-ends : goal.returns-in_err-test_child-clause-ends
returns-in_err-test_child-clause-ends g c = passed_test c.from_residual.result c.from_residual.ensures.1
    (test_stops (below_test c.args.link.now c.args.child) (below_test c.args.link.now c.args.child) (λ state why is. is) _ _ c.in_err-test_child.ensures.ends)

pub returns-in_err-place-clause-ends : goal.returns-in_err-place-clause-ends
returns-in_err-place-clause-ends g c =
    let below = below_test c.args.link.now c.args.child in
    let child = c.in_ok-test_child.ensures.ends.by in
    passed_test c.from_residual-in_err-place.result c.from_residual-in_err-place.ensures.1
    (test_behind child.1 below passes_all below child.2 (λ state none. none) (Err _) (test_stops passes_all passes_all (λ state why is. is) _ _ c.in_err-place.ensures.ends))

pub returns-in-Some-clause-ends : goal.returns-in-Some-clause-ends
returns-in-Some-clause-ends g c =
    let child = c.in_ok-test_child.ensures.ends.by in
    let place = c.in_ok-place.ensures.ends.by in
    test_passes (below_test c.args.link.now c.args.child) _ (looks_then child.1 place.1) place.0 child.2

pub returns-in-Some-clause-finds : goal.returns-in-Some-clause-finds
returns-in-Some-clause-finds g c =
    link_before c.in_ok-test_child.ensures.ends.by.1 c.args.number (λ (state : State) (name : Name). c.in-Some.place.parent ≡ above_in (chain_with (now state).contents name c.args.child))
    (parent_says (session_of c.test_child.new.self) c.args.number c.args.child c.in_ok-place.field-0 c.in_ok-place.ensures.finds c.in-Some.place c.in-Some.is)

pub returns-in-None-clause-ends : goal.returns-in-None-clause-ends
returns-in-None-clause-ends g c =
    let child = c.in_ok-test_child.ensures.ends.by in
    let place = c.in_ok-place.ensures.ends.by in
    test_passes (below_test c.args.link.now c.args.child) _ (looks_then child.1 place.1) place.0 child.2

pub returns-in-None-clause-finds : goal.returns-in-None-clause-finds
returns-in-None-clause-finds g c =
    link_before c.in_ok-test_child.ensures.ends.by.1 c.args.number (λ (state : State) (name : Name). None ≡ above_in (chain_with (now state).contents name c.args.child))
    (no_parent_says (session_of c.test_child.new.self) c.args.number c.args.child c.in_ok-place.field-0 c.in_ok-place.ensures.finds c.in-None.is)

pub place_of-requires-clause-known : goal.place_of-requires-clause-known
place_of-requires-clause-known g c =
    ap (λ (catalog : CatalogView). is_some (link_at catalog.listing c.args.number)) c.in_ok-test_child.ensures.ends.by.1.catalog
    ∙ ap is_some (link_entry c.args.self.now.session.store.catalog.listing c.args.link.now c.args.number c.requires.known).at
