use Rattle.std.proofs.Common.{rules, ◌≡◌, false, ◌+◌, ◌-◌, ◌<◌, ℕ, ◌++◌, [], ◌∷◌, length, take, slice_index_or, All, sym, ap, subst, ◌∙◌, arith}
use Rattle.std.proofs.lemmas.List.{length_push}
use Rattle.std.proofs.lemmas.Slice.Zip.{zip_turn, zip_end}
use Rattle.std.specs.Slice.Iter.{iter_rest}
use Rattle.std.specs.Iterator.Adapters.{zip_first, zip_second}
use Rattle.rss_base.specs.declared.field.FieldDef.{FieldDef}
use Rattle.rss_base.specs.declared.value.FieldKind.TheVariants.{Int}
use Rattle.rss_base.specs.TupleTypes.{form_of, kinds, chosen, key_part_width, key_bytes, IsStorable}
use Rattle.rss_value.specs.ValueRefs.{value_of}
use Rattle.rss_value.proofs.Fitting.{fits_read, ranges_read}
use Rattle.rss_value.proofs.GivenKeys.{field_read, length-chosen, room_given, part_given, key_given}
use Rattle.rss_value.proofs.keys.key_from.Goals as goal

abbrev any_field : FieldDef
any_field = record { name = record { bytes = [] }; kind = Int; added = false }

pub write_key_part-requires-clause-fit : goal.write_key_part-requires-clause-fit
write_key_part-requires-clause-fit c =
    let first : iter_rest (zip_first c.into_iter-place-iterator.result) ≡ c.args.which.now = search rules in
    let second : iter_rest (zip_second c.into_iter-place-iterator.result) ≡ c.args.key.now = search rules in
    let turn =
    zip_turn c.args.which.now c.args.key.now c.loop-place.yielded c.into_iter-place-iterator.result c.loop-place.place-iterator c.next.new.self c.next.result first second c.loop-place.yielded_by (c.in-Some.place, c.in-Some.value)
    c.in-Some.is c.next.ensures.steps in
    let fields = chosen c.args.which.now c.args.fields.now in
    let within : length c.loop-place.yielded < length fields = omega (arith, turn.0, length-chosen c.args.fields.now c.args.which.now c.requires.numbers) in
    let field = slice_index_or c.args.fields.now (c.from.result - 1) any_field in
    let here = field_read c.args.fields.now c.args.which.now (length c.loop-place.yielded) c.in-Some.place.now c.from.result any_field field c.requires.numbers turn.0 (turn.2 0) c.from.ensures in
    fits_read fields c.args.key.now (length c.loop-place.yielded) field c.form.result c.in-Some.value.now (value_of c.new.result) c.requires.fit within (c.form.ensures ∙ ap form_of here) (turn.3 c.in-Some.value.now) c.new.ensures

pub write_key_part-requires-clause-room : goal.write_key_part-requires-clause-room
write_key_part-requires-clause-room c =
    let first : iter_rest (zip_first c.into_iter-place-iterator.result) ≡ c.args.which.now = search rules in
    let second : iter_rest (zip_second c.into_iter-place-iterator.result) ≡ c.args.key.now = search rules in
    let turn =
    zip_turn c.args.which.now c.args.key.now c.loop-place.yielded c.into_iter-place-iterator.result c.loop-place.place-iterator c.next.new.self c.next.result first second c.loop-place.yielded_by (c.in-Some.place, c.in-Some.value)
    c.in-Some.is c.next.ensures.steps in
    let fields = chosen c.args.which.now c.args.fields.now in
    let within : length c.loop-place.yielded < length fields = omega (arith, turn.0, length-chosen c.args.fields.now c.args.which.now c.requires.numbers) in
    let field = slice_index_or c.args.fields.now (c.from.result - 1) any_field in
    let here = λ (e : FieldDef). field_read c.args.fields.now c.args.which.now (length c.loop-place.yielded) c.in-Some.place.now c.from.result any_field e c.requires.numbers turn.0 (turn.2 0) c.from.ensures in
    let room = room_given fields c.args.key.now (length c.loop-place.yielded) field c.loop-place.into c.requires.fit within here c.loop-place.invariant.2 in
    omega (arith, room, ap key_part_width c.form.ensures, c.requires.narrow)

pub loop-place-preserved : goal.loop-place-preserved
loop-place-preserved c =
    let first : iter_rest (zip_first c.into_iter-place-iterator.result) ≡ c.args.which.now = search rules in
    let second : iter_rest (zip_second c.into_iter-place-iterator.result) ≡ c.args.key.now = search rules in
    let turn =
    zip_turn c.args.which.now c.args.key.now c.loop-place.yielded c.into_iter-place-iterator.result c.loop-place.place-iterator c.next.new.self c.next.result first second c.loop-place.yielded_by (c.in-Some.place, c.in-Some.value)
    c.in-Some.is c.next.ensures.steps in
    let fields = chosen c.args.which.now c.args.fields.now in
    let within : length c.loop-place.yielded < length fields = omega (arith, turn.0, length-chosen c.args.fields.now c.args.which.now c.requires.numbers) in
    let field = slice_index_or c.args.fields.now (c.from.result - 1) any_field in
    let here = λ (e : FieldDef). field_read c.args.fields.now c.args.which.now (length c.loop-place.yielded) c.in-Some.place.now c.from.result any_field e c.requires.numbers turn.0 (turn.2 0) c.from.ensures in
    let long : length (c.loop-place.yielded ++ (c.in-Some.place, c.in-Some.value) ∷ []) ≡ length c.loop-place.yielded + 1 = length_push c.loop-place.yielded (c.in-Some.place, c.in-Some.value) in
    let bytes = part_given fields c.args.key.now (length c.loop-place.yielded) field c.loop-place.into c.requires.fit within here c.loop-place.invariant.2 c.in-Some.value.now (value_of c.new.result) c.write_key_part.new.into (turn.3 c.in-Some.value.now) c.new.ensures (rw c.form.ensures at c.write_key_part.ensures.written) in
    let ranges = ranges_read c.args.key.now (length c.loop-place.yielded) c.in-Some.value.now (value_of c.new.result) turn.1 (turn.3 c.in-Some.value.now) c.new.ensures c.write_key_part.ensures.storable c.loop-place.invariant.3 in
    ((tt, tt), tt, bytes ∙ ap (λ (n : ℕ). key_bytes (take n (kinds fields)) (take n c.args.key.now)) (sym long), subst (λ (n : ℕ). All IsStorable (take n c.args.key.now)) (sym long) ranges)

pub returns : goal.returns
returns c =
    let first : iter_rest (zip_first c.into_iter-place-iterator.result) ≡ c.args.which.now = search rules in
    let second : iter_rest (zip_second c.into_iter-place-iterator.result) ≡ c.args.key.now = search rules in
    let end =
    zip_end c.args.which.now c.args.key.now c.loop-place.yielded c.into_iter-place-iterator.result c.loop-place.place-iterator c.next.new.self c.next.result first second c.loop-place.yielded_by c.in-None.is c.next.ensures.steps in
    let fields = chosen c.args.which.now c.args.fields.now in
    let long = length-chosen c.args.fields.now c.args.which.now c.requires.numbers in
    key_given fields c.args.key.now (length c.loop-place.yielded) c.loop-place.into c.requires.fit (omega (arith, end, long)) c.loop-place.invariant.2 c.loop-place.invariant.3
