use Rattle.std.proofs.Common.{rules, ◌≡◌, ◌+◌, ◌-◌, ◌<◌, ℕ, ◌++◌, [], ◌∷◌, length, drop, slice_index_or, true, false, sym, ap, ◌∙◌, arith}
use Rattle.std.proofs.lemmas.List.{length_push}
use Rattle.std.proofs.lemmas.Slice.Zip.{zip_turn, zip_end}
use Rattle.std.specs.Slice.Iter.{iter_rest}
use Rattle.std.specs.Iterator.Adapters.{zip_first, zip_second}
use Rattle.rss_base.specs.declared.field.FieldDef.{FieldDef}
use Rattle.rss_base.specs.declared.value.FieldKind.TheVariants.{Int}
use Rattle.rss_base.specs.TupleTypes.{form_of, kinds, chosen, misfit_from}
use Rattle.rss_value.specs.ValueRefs.{value_of}
use Rattle.rss_value.proofs.Fitting.{misfit_here, misfit_behind, misfit_end, at_place}
use Rattle.rss_value.proofs.GivenKeys.{field_read, length-chosen, none_left}
use Rattle.rss_value.proofs.keys.key_fits.Goals as goal

abbrev any_field : FieldDef
any_field = record { name = record { bytes = [] }; kind = Int; added = false }

pub returns-then-not-fits-clause-first : goal.returns-then-not-fits-clause-first
returns-then-not-fits-clause-first c =
    let refused : c.fits.result ≡ false = search rules in
    let first : iter_rest (zip_first c.into_iter-place-iterator.result) ≡ c.args.which.now = search rules in
    let second : iter_rest (zip_second c.into_iter-place-iterator.result) ≡ c.args.key.now = search rules in
    let turn =
    zip_turn c.args.which.now c.args.key.now c.loop-place.yielded c.into_iter-place-iterator.result c.loop-place.place-iterator c.next.new.self c.next.result first second c.loop-place.yielded_by (c.in-Some.place, c.in-Some.value)
    c.in-Some.is c.next.ensures.steps in
    let fields = chosen c.args.which.now c.args.fields.now in
    let within : length c.loop-place.yielded < length fields = omega (arith, turn.0, length-chosen c.args.fields.now c.args.which.now c.requires.numbers) in
    let field = slice_index_or c.args.fields.now (c.from.result - 1) any_field in
    let here = field_read c.args.fields.now c.args.which.now (length c.loop-place.yielded) c.in-Some.place.now c.from.result any_field field c.requires.numbers turn.0 (turn.2 0) c.from.ensures in
    c.loop-place.invariant.3
    ∙ misfit_here c.loop-place.number _ _ (length c.loop-place.yielded) field c.in-Some.value.now within turn.1
    (at_place fields c.args.key.now (length c.loop-place.yielded) field c.form.result c.in-Some.value.now (value_of c.new.result) false (c.form.ensures ∙ ap form_of here) (turn.3 c.in-Some.value.now) c.new.ensures (sym c.fits.ensures ∙ refused))

pub loop-place-preserved : goal.loop-place-preserved
loop-place-preserved c =
    let accepted : c.fits.result ≡ true = search rules in
    let first : iter_rest (zip_first c.into_iter-place-iterator.result) ≡ c.args.which.now = search rules in
    let second : iter_rest (zip_second c.into_iter-place-iterator.result) ≡ c.args.key.now = search rules in
    let turn =
    zip_turn c.args.which.now c.args.key.now c.loop-place.yielded c.into_iter-place-iterator.result c.loop-place.place-iterator c.next.new.self c.next.result first second c.loop-place.yielded_by (c.in-Some.place, c.in-Some.value)
    c.in-Some.is c.next.ensures.steps in
    let fields = chosen c.args.which.now c.args.fields.now in
    let within : length c.loop-place.yielded < length fields = omega (arith, turn.0, length-chosen c.args.fields.now c.args.which.now c.requires.numbers) in
    let field = slice_index_or c.args.fields.now (c.from.result - 1) any_field in
    let here = field_read c.args.fields.now c.args.which.now (length c.loop-place.yielded) c.in-Some.place.now c.from.result any_field field c.requires.numbers turn.0 (turn.2 0) c.from.ensures in
    let behind =
    misfit_behind c.loop-place.number _ _ (length c.loop-place.yielded) field c.in-Some.value.now within turn.1
    (at_place fields c.args.key.now (length c.loop-place.yielded) field c.form.result c.in-Some.value.now (value_of c.new.result) true (c.form.ensures ∙ ap form_of here) (turn.3 c.in-Some.value.now) c.new.ensures (sym c.fits.ensures ∙ accepted)) in
    let long : length (c.loop-place.yielded ++ (c.in-Some.place, c.in-Some.value) ∷ []) ≡ length c.loop-place.yielded + 1 = length_push c.loop-place.yielded (c.in-Some.place, c.in-Some.value) in (
      (tt, tt),
      tt,
      omega (arith, long),
      c.loop-place.invariant.3 ∙ behind ∙ ap (λ (n : ℕ). misfit_from (c.loop-place.number + 1) (drop n (kinds fields)) (drop n c.args.key.now)) (sym long),
    )

pub returns-then-which-values-clause-ok : goal.returns-then-which-values-clause-ok
returns-then-which-values-clause-ok c =
    let same : length c.args.which.now ≡ length c.args.key.now = search rules in
    let first : iter_rest (zip_first c.into_iter-place-iterator.result) ≡ c.args.which.now = search rules in
    let second : iter_rest (zip_second c.into_iter-place-iterator.result) ≡ c.args.key.now = search rules in
    let end =
    zip_end c.args.which.now c.args.key.now c.loop-place.yielded c.into_iter-place-iterator.result c.loop-place.place-iterator c.next.new.self c.next.result first second c.loop-place.yielded_by c.in-None.is c.next.ensures.steps in
    let fields = chosen c.args.which.now c.args.fields.now in
    let long = length-chosen c.args.fields.now c.args.which.now c.requires.numbers in
    c.loop-place.invariant.3 ∙ none_left c.loop-place.number fields c.args.key.now (length c.loop-place.yielded) (omega (arith, end, long)) (omega (arith, same, long))

pub returns-else-which-values-clause-first : goal.returns-else-which-values-clause-first
returns-else-which-values-clause-first c =
    let apart : length c.args.which.now ≡ length c.args.key.now → ⊥ = search rules in
    let first : iter_rest (zip_first c.into_iter-place-iterator.result) ≡ c.args.which.now = search rules in
    let second : iter_rest (zip_second c.into_iter-place-iterator.result) ≡ c.args.key.now = search rules in
    let end =
    zip_end c.args.which.now c.args.key.now c.loop-place.yielded c.into_iter-place-iterator.result c.loop-place.place-iterator c.next.new.self c.next.result first second c.loop-place.yielded_by c.in-None.is c.next.ensures.steps in
    let fields = chosen c.args.which.now c.args.fields.now in
    let long = length-chosen c.args.fields.now c.args.which.now c.requires.numbers in
    c.loop-place.invariant.3 ∙ misfit_end c.loop-place.number fields c.args.key.now (length c.loop-place.yielded) (omega (arith, end, long)) (λ is. apart (omega (arith, is, long)))
