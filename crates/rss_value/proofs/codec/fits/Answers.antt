use Rattle.std.proofs.Common.{rules, ◌≡◌, ◌+◌, ℕ, ◌++◌, [], ◌∷◌, length, drop, true, false, sym, ap, ◌∙◌, arith}
use Rattle.std.proofs.lemmas.List.{length_push}
use Rattle.std.proofs.lemmas.Slice.Zip.{zip_turn, zip_end}
use Rattle.std.specs.Slice.Iter.{iter_rest}
use Rattle.std.specs.Iterator.Adapters.{zip_first, zip_second}
use Rattle.rss_base.specs.TupleTypes.{form_of, kinds, misfit_from}
use Rattle.rss_value.specs.ValueRefs.{value_of}
use Rattle.rss_value.proofs.Fitting.{misfit_here, misfit_behind, misfit_end, at_place}
use Rattle.rss_value.proofs.codec.fits.Goals as goal

pub returns-then-not-fits-clause-first : goal.returns-then-not-fits-clause-first
returns-then-not-fits-clause-first c =
    let refused : c.fits.result ≡ false = search rules in
    let first : iter_rest (zip_first c.into_iter-field-iterator.result) ≡ c.args.fields.now = search rules in
    let second : iter_rest (zip_second c.into_iter-field-iterator.result) ≡ c.args.tuple.now = search rules in
    let turn =
    zip_turn c.args.fields.now c.args.tuple.now c.loop-field.yielded c.into_iter-field-iterator.result c.loop-field.field-iterator c.next.new.self c.next.result first second c.loop-field.yielded_by (c.in-Some.field, c.in-Some.value)
    c.in-Some.is c.next.ensures.steps in
    c.loop-field.invariant.3
    ∙ misfit_here c.loop-field.number _ _ (length c.loop-field.yielded) c.in-Some.field.now c.in-Some.value.now turn.0 turn.1
    (at_place c.args.fields.now c.args.tuple.now (length c.loop-field.yielded) c.in-Some.field.now c.form.result c.in-Some.value.now (value_of c.new.result) false (c.form.ensures ∙ ap form_of (turn.2 c.in-Some.field.now)) (turn.3 c.in-Some.value.now) c.new.ensures (sym c.fits.ensures ∙ refused))

pub loop-field-preserved : goal.loop-field-preserved
loop-field-preserved c =
    let accepted : c.fits.result ≡ true = search rules in
    let first : iter_rest (zip_first c.into_iter-field-iterator.result) ≡ c.args.fields.now = search rules in
    let second : iter_rest (zip_second c.into_iter-field-iterator.result) ≡ c.args.tuple.now = search rules in
    let turn =
    zip_turn c.args.fields.now c.args.tuple.now c.loop-field.yielded c.into_iter-field-iterator.result c.loop-field.field-iterator c.next.new.self c.next.result first second c.loop-field.yielded_by (c.in-Some.field, c.in-Some.value)
    c.in-Some.is c.next.ensures.steps in
    let behind =
    misfit_behind c.loop-field.number _ _ (length c.loop-field.yielded) c.in-Some.field.now c.in-Some.value.now turn.0 turn.1
    (at_place c.args.fields.now c.args.tuple.now (length c.loop-field.yielded) c.in-Some.field.now c.form.result c.in-Some.value.now (value_of c.new.result) true (c.form.ensures ∙ ap form_of (turn.2 c.in-Some.field.now)) (turn.3 c.in-Some.value.now) c.new.ensures (sym c.fits.ensures ∙ accepted)) in
    let long : length (c.loop-field.yielded ++ (c.in-Some.field, c.in-Some.value) ∷ []) ≡ length c.loop-field.yielded + 1 = length_push c.loop-field.yielded (c.in-Some.field, c.in-Some.value) in (
      (tt, tt),
      tt,
      omega (arith, long),
      c.loop-field.invariant.3 ∙ behind ∙ ap (λ (n : ℕ). misfit_from (c.loop-field.number + 1) (drop n (kinds c.args.fields.now)) (drop n c.args.tuple.now)) (sym long),
    )

pub returns-else-fields-values-clause-first : goal.returns-else-fields-values-clause-first
returns-else-fields-values-clause-first c =
    let apart : length c.args.fields.now ≡ length c.args.tuple.now → ⊥ = search rules in
    let first : iter_rest (zip_first c.into_iter-field-iterator.result) ≡ c.args.fields.now = search rules in
    let second : iter_rest (zip_second c.into_iter-field-iterator.result) ≡ c.args.tuple.now = search rules in
    let end =
    zip_end c.args.fields.now c.args.tuple.now c.loop-field.yielded c.into_iter-field-iterator.result c.loop-field.field-iterator c.next.new.self c.next.result first second c.loop-field.yielded_by c.in-None.is c.next.ensures.steps in
    c.loop-field.invariant.3 ∙ misfit_end c.loop-field.number _ _ (length c.loop-field.yielded) end apart
