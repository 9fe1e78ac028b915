use Rattle.std.proofs.Common.{◌≡◌, ◌++◌, [], ◌∷◌, refl, sym, ap, subst, ◌∙◌, arith}
use Rattle.rss_base.specs.declared.value.Value.{Value}
use Rattle.rss_base.specs.TupleTypes.{kinds}
use Rattle.rss_value.specs.ValueRefs.{value_of}
use Rattle.rss_value.proofs.Walking.{Decoding, decoding_more, decoding_none, decoded, decoded_only}
use Rattle.rss_value.proofs.codec.decode_into.Goals as goal

pub loop-field-init : goal.loop-field-init
loop-field-init c = subst (Decoding (kinds c.args.fields.now) c.args.bytes.now (kinds c.args.fields.now) c.new-cursor.result) (sym c.clear.ensures) (subst (λ (rest : _). Decoding (kinds c.args.fields.now) c.args.bytes.now (kinds c.args.fields.now) rest []) (sym c.new-cursor.ensures) (record { forth = λ more walk. walk; back = λ values walk. (values, refl, walk) }))

pub loop-field-preserved : goal.loop-field-preserved
loop-field-preserved c =
    let done : c.push.new.self ≡ c.loop-field.into ++ value_of c.in-Some.value ∷ [] = c.in_ok-push.ensures.ok ∙ ap (λ (v : Value). c.loop-field.into ++ v ∷ []) c.in_ok-to_value.ensures in
    subst (Decoding (kinds c.args.fields.now) c.args.bytes.now _ c.read.new.self) (sym done) (decoding_more c.args.fields.now _ c.loop-field.field-index _ _ _ _ _ (omega arith) c.loop-field.invariant (rw c.form.ensures at c.in-Some.ensures.some))

pub returns-in_default-clause-exact : goal.returns-in_default-clause-exact
returns-in_default-clause-exact c values spelled = absurd (decoding_none c.args.fields.now _ c.loop-field.field-index _ _ _ _ values (omega arith) c.loop-field.invariant (rw c.form.ensures at c.in_default.ensures) spelled)

pub returns-clause-some : goal.returns-clause-some
returns-clause-some c = λ end. decoded c.args.fields.now _ c.loop-field.field-index _ _ (omega arith) c.loop-field.invariant (c.is_at_end.ensures.0 end)

pub returns-clause-exact : goal.returns-clause-exact
returns-clause-exact c values spelled =
    let one = decoded_only c.args.fields.now _ c.loop-field.field-index _ _ values (omega arith) c.loop-field.invariant spelled in
    (c.is_at_end.ensures.1 one.1, sym one.0)
