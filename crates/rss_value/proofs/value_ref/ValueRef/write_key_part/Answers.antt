use Rattle.std.proofs.Common.{rules, ◌≡◌, FitsSigned, w64, ap, ◌∙◌}
use Rattle.std.proofs.lemmas.Int.{to_z-of_z}
use Rattle.rss_base.specs.TupleTypes.{int_bytes, with_sign_inverted}
use Rattle.rss_value.specs.ValueRefs.{value_of}
use Rattle.rss_value.proofs.KeyOrders.{number_put}
use Rattle.rss_value.proofs.value_ref.ValueRef.write_key_part.Goals as goal

pub returns-in-Int-default-clause-written : goal.returns-in-Int-default-clause-written
returns-in-Int-default-clause-written c =
    let z = c.in-Int-default.number in
    let range : FitsSigned w64 z = search rules in
    let number : c.to_be_bytes.result ≡ int_bytes z = c.to_be_bytes.ensures ∙ ap int_bytes (to_z-of_z w64 z range) in
    number_put c.args.form z (value_of c.args.self.now) c.args.into.now c.push_mark.new.into c.invert_sign.result c.extend_from_slice.new.self (ap value_of c.in-Int-default.is-0) c.requires.fit c.push_mark.ensures
    (c.invert_sign.ensures ∙ ap with_sign_inverted number) c.extend_from_slice.ensures
