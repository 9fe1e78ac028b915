-- The key's fields are those of the image, and the width is that of their kinds.
use Rattle.std.proofs.Common.{◌≡◌, ℕ, List, take, sym, ◌∙◌, ap, subst, arith}
use Rattle.std.specs.Prelude.{All}
use Rattle.std.proofs.lemmas.List.{length-take}
use Rattle.rss_base.specs.Listings.{field_numbers}
use Rattle.rss_base.specs.TupleTypes.{kinds, chosen, key_width}
use Rattle.rss_base.specs.declared.field.FieldDef.{FieldDef}
use Rattle.rss_base.specs.declared.image.ImageEntry.{ImageEntry}
use Rattle.rss_base.specs.declared.relation.RelationEntry.{RelationEntry}
use Rattle.rss_value.specs.Numbers.{IsNumberOf}
use Rattle.rss_entries.specs.Rooms.{width_of}
use Rattle.rss_access.proofs.ImageKeys.{width_is}
use Rattle.rss_access.proofs.rooms.image_width.Goals as goal

pub shared_ref_as_front-which : goal.shared_ref_as_front-which
shared_ref_as_front-which c = omega (arith, c.requires.few, c.from.ensures)

pub key_width-requires-clause-numbers : goal.key_width-requires-clause-numbers
key_width-requires-clause-numbers c =
    subst (λ (n : ℕ). All (IsNumberOf c.as_slice.result.now) (take n c.args.image.now.fields)) (sym c.from.ensures)
    (subst (λ (fields : List FieldDef). All (IsNumberOf fields) (take c.args.image.now.count c.args.image.now.fields)) (sym c.as_slice.ensures) c.requires.within)

pub key_width-requires-clause-few : goal.key_width-requires-clause-few
key_width-requires-clause-few c = omega (arith, length-take c.from.result c.args.image.now.fields, c.from.ensures, c.requires.few)

-- the width, by what is lent
width_now : (width : ℕ) (which : List ℕ) (fields : List FieldDef) (image : ImageEntry) (relation : RelationEntry) → width ≡ key_width (chosen which (kinds fields)) → which ≡ field_numbers image → fields ≡ relation.fields → width ≡ width_of image relation
width_now width which fields image relation is its_fields its_kinds =
    is ∙ (λ i. key_width (chosen (its_fields i) (kinds (its_kinds i)))) ∙ width_is image relation

pub overflow_cast-result : goal.overflow_cast-result
overflow_cast-result c =
    let is = width_now c.key_width.result _ _ c.args.image.now c.args.relation.now c.key_width.ensures (ap (λ (n : ℕ). take n c.args.image.now.fields) c.from.ensures) c.as_slice.ensures in
    omega (arith, is, c.requires.narrow)

pub returns-clause-is : goal.returns-clause-is
returns-clause-is c = width_now c.key_width.result _ _ c.args.image.now c.args.relation.now c.key_width.ensures (ap (λ (n : ℕ). take n c.args.image.now.fields) c.from.ensures) c.as_slice.ensures
