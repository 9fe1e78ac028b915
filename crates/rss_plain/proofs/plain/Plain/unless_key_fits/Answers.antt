use Rattle.std.proofs.Common.{List, length, ◌∙◌, ap, arith}
use Rattle.rss_base.specs.declared.field.FieldDef.{FieldDef}
use Rattle.rss_plain.proofs.KeyItems.{chosen_few}
use Rattle.rss_plain.proofs.plain.Plain.unless_key_fits.Goals as goal

pub fits-requires : goal.fits-requires
fits-requires c =
    let long = ap (λ (l : List FieldDef). length l) (c.deref.ensures.value ∙ c.in_ok-fields.ensures) in
    let few = chosen_few c.fields_now.result.now c.fields_now.result.now c.fields.result.now in
    omega (arith, long, few, c.fields.ensures.few)
