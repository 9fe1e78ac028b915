use Rattle.std.proofs.Common.{rules, ◌≡◌, ◌+◌, ℕ, ◌++◌, [], ◌∷◌, length, take, All, sym, ap, subst, ◌∙◌, arith}
use Rattle.std.proofs.lemmas.List.{length_push}
use Rattle.std.proofs.lemmas.Slice.Zip.{zip_turn, zip_end}
use Rattle.std.specs.Slice.Iter.{iter_rest}
use Rattle.std.specs.Iterator.Adapters.{zip_first, zip_second}
use Rattle.rss_base.specs.TupleTypes.{form_of, kinds, IsStorable}
use Rattle.rss_value.specs.ValueRefs.{value_of}
use Rattle.rss_value.proofs.Writing.{bytes_from, value_fits, value_room, value_written, value_storable, all_written, all_spelled}
use Rattle.rss_value.proofs.codec.encode.Goals as goal

pub write-requires-clause-fit : goal.write-requires-clause-fit
write-requires-clause-fit c =
    let first : iter_rest (zip_first c.into_iter-field-iterator.result) ≡ c.args.fields.now = search rules in
    let second : iter_rest (zip_second c.into_iter-field-iterator.result) ≡ take c.standing.result c.args.tuple.now = search rules in
    let turn =
    zip_turn c.args.fields.now (take c.standing.result c.args.tuple.now) c.loop-field.yielded c.into_iter-field-iterator.result c.loop-field.field-iterator c.next.new.self c.next.result first second c.loop-field.yielded_by (c.in-Some.field, c.in-Some.value)
    c.in-Some.is c.next.ensures.steps in
    value_fits c.args.fields.now c.args.tuple.now c.standing.result (length c.loop-field.yielded) c.in-Some.field.now c.form.result c.in-Some.value.now (value_of c.new.result) c.args.into.now c.loop-field.into c.requires.fit turn.0 turn.1 (rw c.as_slice-values.ensures at c.standing.ensures.least) (c.form.ensures ∙ ap form_of (turn.2 c.in-Some.field.now)) (turn.3 c.in-Some.value.now) c.new.ensures c.loop-field.invariant.2

pub write-requires-clause-room : goal.write-requires-clause-room
write-requires-clause-room c =
    let first : iter_rest (zip_first c.into_iter-field-iterator.result) ≡ c.args.fields.now = search rules in
    let second : iter_rest (zip_second c.into_iter-field-iterator.result) ≡ take c.standing.result c.args.tuple.now = search rules in
    let turn =
    zip_turn c.args.fields.now (take c.standing.result c.args.tuple.now) c.loop-field.yielded c.into_iter-field-iterator.result c.loop-field.field-iterator c.next.new.self c.next.result first second c.loop-field.yielded_by (c.in-Some.field, c.in-Some.value)
    c.in-Some.is c.next.ensures.steps in
    let room = value_room c.args.fields.now c.args.tuple.now c.standing.result (length c.loop-field.yielded) c.in-Some.field.now c.form.result c.in-Some.value.now (value_of c.new.result) c.args.into.now c.loop-field.into c.requires.fit turn.0 turn.1 (rw c.as_slice-values.ensures at c.standing.ensures.least) (c.form.ensures ∙ ap form_of (turn.2 c.in-Some.field.now)) (turn.3 c.in-Some.value.now) c.new.ensures c.loop-field.invariant.2 in
    omega (arith, room)

pub loop-field-preserved : goal.loop-field-preserved
loop-field-preserved c =
    let first : iter_rest (zip_first c.into_iter-field-iterator.result) ≡ c.args.fields.now = search rules in
    let second : iter_rest (zip_second c.into_iter-field-iterator.result) ≡ take c.standing.result c.args.tuple.now = search rules in
    let turn =
    zip_turn c.args.fields.now (take c.standing.result c.args.tuple.now) c.loop-field.yielded c.into_iter-field-iterator.result c.loop-field.field-iterator c.next.new.self c.next.result first second c.loop-field.yielded_by (c.in-Some.field, c.in-Some.value)
    c.in-Some.is c.next.ensures.steps in
    let long : length (c.loop-field.yielded ++ (c.in-Some.field, c.in-Some.value) ∷ []) ≡ length c.loop-field.yielded + 1 = length_push c.loop-field.yielded (c.in-Some.field, c.in-Some.value) in
    let written = value_written c.args.fields.now c.args.tuple.now c.standing.result (length c.loop-field.yielded) c.in-Some.field.now c.form.result c.in-Some.value.now (value_of c.new.result) c.args.into.now c.loop-field.into c.requires.fit turn.0 turn.1 (rw c.as_slice-values.ensures at c.standing.ensures.least) (c.form.ensures ∙ ap form_of (turn.2 c.in-Some.field.now)) (turn.3 c.in-Some.value.now) c.new.ensures c.loop-field.invariant.2 c.write.new.into c.write.ensures.written in
    let ranges = value_storable c.args.fields.now c.args.tuple.now c.standing.result (length c.loop-field.yielded) c.in-Some.field.now c.form.result c.in-Some.value.now (value_of c.new.result) c.args.into.now c.loop-field.into c.requires.fit turn.0 turn.1 (rw c.as_slice-values.ensures at c.standing.ensures.least) (c.form.ensures ∙ ap form_of (turn.2 c.in-Some.field.now)) (turn.3 c.in-Some.value.now) c.new.ensures c.loop-field.invariant.2 c.write.ensures.storable c.loop-field.invariant.3 in (
      (tt, tt),
      tt,
      ap (λ (n : ℕ). c.write.new.into ++ bytes_from (kinds c.args.fields.now) c.args.tuple.now n) long ∙ written,
      subst (λ (n : ℕ). All IsStorable (take n c.args.tuple.now)) (sym long) ranges,
    )

pub returns-clause-appended : goal.returns-clause-appended
returns-clause-appended c =
    let first : iter_rest (zip_first c.into_iter-field-iterator.result) ≡ c.args.fields.now = search rules in
    let second : iter_rest (zip_second c.into_iter-field-iterator.result) ≡ take c.standing.result c.args.tuple.now = search rules in
    let end =
    zip_end c.args.fields.now (take c.standing.result c.args.tuple.now) c.loop-field.yielded c.into_iter-field-iterator.result c.loop-field.field-iterator c.next.new.self c.next.result first second c.loop-field.yielded_by c.in-None.is c.next.ensures.steps in
    all_written c.args.fields.now c.args.tuple.now c.standing.result (length c.loop-field.yielded) c.requires.fit (rw c.as_slice-values.ensures at c.standing.ensures.within) (rw c.as_slice-values.ensures at c.standing.ensures.rest) end c.args.into.now c.loop-field.into c.loop-field.invariant.2

pub returns-clause-spelled : goal.returns-clause-spelled
returns-clause-spelled c =
    let first : iter_rest (zip_first c.into_iter-field-iterator.result) ≡ c.args.fields.now = search rules in
    let second : iter_rest (zip_second c.into_iter-field-iterator.result) ≡ take c.standing.result c.args.tuple.now = search rules in
    let end =
    zip_end c.args.fields.now (take c.standing.result c.args.tuple.now) c.loop-field.yielded c.into_iter-field-iterator.result c.loop-field.field-iterator c.next.new.self c.next.result first second c.loop-field.yielded_by c.in-None.is c.next.ensures.steps in
    all_spelled c.args.fields.now c.args.tuple.now c.standing.result (length c.loop-field.yielded) c.requires.fit (rw c.as_slice-values.ensures at c.standing.ensures.within) (rw c.as_slice-values.ensures at c.standing.ensures.rest) end c.loop-field.invariant.3
