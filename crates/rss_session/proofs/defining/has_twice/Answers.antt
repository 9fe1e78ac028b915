use Rattle.std.proofs.Common.{◌∙◌, ◌+◌, Bool, drop, sym, ap}
use Rattle.std.specs.Prelude.{◌||◌}
use Rattle.rss_base.specs.TupleTypes.{field_names}
use Rattle.rss_model.specs.Defining.{has_twice}
use Rattle.rss_session.proofs.FieldNames.{twice_step}
use Rattle.rss_session.proofs.defining.has_twice.Goals as goal

pub loop-place-preserved : goal.loop-place-preserved
loop-place-preserved c =
    let fields = c.args.fields.now in
    c.loop-place.invariant ∙ twice_step fields c.loop-place.place _ _ c.loop-place-test.true c.has_name.ensures
    ∙ ap (λ (b : Bool). b || has_twice (drop (c.loop-place.place + 1) (field_names fields))) c.if-has_name.false

pub returns-then-has_name : goal.returns-then-has_name
returns-then-has_name c =
    let fields = c.args.fields.now in
    sym (c.loop-place.invariant ∙ twice_step fields c.loop-place.place _ _ c.loop-place-test.true c.has_name.ensures
    ∙ ap (λ (b : Bool). b || has_twice (drop (c.loop-place.place + 1) (field_names fields))) c.if-has_name.true)
