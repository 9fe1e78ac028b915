use Rattle.std.proofs.Common.{◌≡◌, [], ◌∷◌, ◌∙◌}
use Rattle.std.specs.Prelude.{Err}
use Rattle.std.proofs.lemmas.Result.{IfOk-weaker}
use Rattle.rss_base.specs.declared.name.Name.{Name}
use Rattle.rss_model.specs.Chains.{chain, left_of}
use Rattle.rss_model.specs.Machine.{State, now}
use Rattle.rss_model.specs.Refusals.{unless_spot}
use Rattle.rss_model.specs.Steps.{first_of}
use Rattle.rss_model.proofs.Tests.{goes_on, refuses_at}
use Rattle.rss_session.proofs.Behind.{looks_then}
use Rattle.rss_rsi.specs.Linking.{above_test, below_test, connect_tests, if_placed}
use Rattle.rss_rsi.proofs.LinkEnds.{passed_test, test_behind, test_stops}
use Rattle.rss_rsi.proofs.Places.{link_before}
use Rattle.rss_rsi.proofs.TupleTests.{last_test}
use Rattle.rss_rsi.proofs.engine.Rss.test_connect.Goals as goal

pub returns-in_err-test_child-clause-ends : goal.returns-in_err-test_child-clause-ends
returns-in_err-test_child-clause-ends g c = passed_test c.from_residual.result c.from_residual.ensures.1
    (test_stops (below_test c.args.link.now c.args.child) (connect_tests c.args.link.now c.args.child c.args.parent c.args.spot.now) (λ state why is. refuses_at _ is) _ _ c.in_err-test_child.ensures.ends)

pub returns-in_err-test_parent-clause-ends : goal.returns-in_err-test_parent-clause-ends
returns-in_err-test_parent-clause-ends g c =
    let below = below_test c.args.link.now c.args.child in
    let above = above_test c.args.link.now c.args.parent in
    let placed = if_placed c.args.link.now c.args.child in
    let spot = λ (state : State). unless_spot state c.args.link.now c.args.parent c.args.spot.now in
    let rest = λ (state : State). first_of (above state ∷ placed state ∷ spot state ∷ []) in
    let all = connect_tests c.args.link.now c.args.child c.args.parent c.args.spot.now in
    let child = c.in_ok-test_child.ensures.ends.by in
    passed_test c.from_residual-in_err-test_parent.result c.from_residual-in_err-test_parent.ensures.1
    (test_behind child.1 below rest all child.2 (λ state none. goes_on _ none) (Err _) (test_stops above rest (λ state why is. refuses_at _ is) _ _ c.in_err-test_parent.ensures.ends))

pub returns-in_err-test_outside-clause-ends : goal.returns-in_err-test_outside-clause-ends
returns-in_err-test_outside-clause-ends g c =
    let below = below_test c.args.link.now c.args.child in
    let above = above_test c.args.link.now c.args.parent in
    let placed = if_placed c.args.link.now c.args.child in
    let spot = λ (state : State). unless_spot state c.args.link.now c.args.parent c.args.spot.now in
    let rest = λ (state : State). first_of (above state ∷ placed state ∷ spot state ∷ []) in
    let more = λ (state : State). first_of (placed state ∷ spot state ∷ []) in
    let all = connect_tests c.args.link.now c.args.child c.args.parent c.args.spot.now in
    let child = c.in_ok-test_child.ensures.ends.by in
    let parent = c.in_ok-test_parent.ensures.ends.by in
    passed_test c.from_residual-in_err-test_outside.result c.from_residual-in_err-test_outside.ensures.1
    (test_behind child.1 below rest all child.2 (λ state none. goes_on _ none) (Err _)
    (test_behind parent.1 above more rest parent.2 (λ state none. goes_on _ none) (Err _)
    (test_stops placed more (λ state why is. refuses_at _ is) _ _ c.in_err-test_outside.ensures.ends)))

pub returns-clause-ends : goal.returns-clause-ends
returns-clause-ends g c =
    let below = below_test c.args.link.now c.args.child in
    let above = above_test c.args.link.now c.args.parent in
    let placed = if_placed c.args.link.now c.args.child in
    let spot = λ (state : State). unless_spot state c.args.link.now c.args.parent c.args.spot.now in
    let rest = λ (state : State). first_of (above state ∷ placed state ∷ spot state ∷ []) in
    let more = λ (state : State). first_of (placed state ∷ spot state ∷ []) in
    let all = connect_tests c.args.link.now c.args.child c.args.parent c.args.spot.now in
    let child = c.in_ok-test_child.ensures.ends.by in
    let parent = c.in_ok-test_parent.ensures.ends.by in
    let outside = c.in_ok-test_outside.ensures.ends.by in
    test_behind child.1 below rest all child.2 (λ state none. goes_on _ none) c.find_spot.result
    (test_behind parent.1 above more rest parent.2 (λ state none. goes_on _ none) c.find_spot.result
    (test_behind outside.1 placed spot more outside.2 (λ state none. goes_on _ none ∙ last_test (spot state)) c.find_spot.result c.find_spot.ensures.ends))

pub returns-clause-left : goal.returns-clause-left
returns-clause-left g c =
    let looks = looks_then c.in_ok-test_child.ensures.ends.by.1 (looks_then c.in_ok-test_parent.ensures.ends.by.1 c.in_ok-test_outside.ensures.ends.by.1) in
    IfOk-weaker c.find_spot.result _ _ (λ left says. link_before looks c.args.number (λ (state : State) (link : Name). left ≡ left_of c.args.spot.now (chain (now state).contents link c.args.parent)) says) c.find_spot.ensures.left
