use Rattle.std.proofs.Common.{◌∙◌, ◌+◌, Bool, drop, sym, ap}
use Rattle.std.specs.Prelude.{◌||◌}
use Rattle.rss_model.specs.Defining.{has_twice}
use Rattle.rss_session.proofs.KeyFields.{name_twice_step}
use Rattle.rss_session.proofs.planning.is_any_twice.Goals as goal

pub loop-place-preserved : goal.loop-place-preserved
loop-place-preserved c =
    let names = c.args.names.now in
    c.loop-place.invariant ∙ name_twice_step names c.loop-place.place _ _ c.loop-place-test.true c.stands_in.ensures
    ∙ ap (λ (b : Bool). b || has_twice (drop (c.loop-place.place + 1) names)) c.if-stands_in.false

pub returns-then-stands_in : goal.returns-then-stands_in
returns-then-stands_in c =
    let names = c.args.names.now in
    sym (c.loop-place.invariant ∙ name_twice_step names c.loop-place.place _ _ c.loop-place-test.true c.stands_in.ensures
    ∙ ap (λ (b : Bool). b || has_twice (drop (c.loop-place.place + 1) names)) c.if-stands_in.true)
