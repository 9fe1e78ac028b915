use Rattle.std.proofs.Common.{◌≡◌, ℕ, List, take, replicate, sym, ◌∙◌, ap, subst, arith}
use Rattle.std.specs.Prelude.{Option, Some, None}
use Rattle.rss_base.specs.Listings.{Listing, field_numbers, image_at, relation_at}
use Rattle.rss_base.specs.TupleTypes.{kinds, chosen, key_width}
use Rattle.rss_base.specs.declared.field.FieldDef.{FieldDef}
use Rattle.rss_base.specs.declared.image.ImageEntry.{ImageEntry}
use Rattle.rss_base.specs.declared.relation.RelationEntry.{RelationEntry}
use Rattle.rss_base.specs.declared.value.Value.{Value}
use Rattle.rss_access.proofs.ImageKeys.{narrow_keys, width_is}
use Rattle.rss_entries.specs.Rooms.{width_of}
use Rattle.rss_stored.specs.Store.{IsListedImage}
use Rattle.rss_session.specs.Imaging.{IsStartOf}
use Rattle.rss_session.proofs.Starts.{one_listed}
use Rattle.rss_session.proofs.session.Session.start_key.Goals as goal

-- the width, by what is lent
width_now : (which : List ℕ) (fields : List FieldDef) (image : ImageEntry) (relation : RelationEntry) → which ≡ field_numbers image → fields ≡ relation.fields → key_width (chosen which (kinds fields)) ≡ width_of image relation
width_now which fields image relation its_fields its_kinds = (λ i. key_width (chosen (its_fields i) (kinds (its_kinds i)))) ∙ width_is image relation

pub least_key-requires-clause-narrow : goal.least_key-requires-clause-narrow
least_key-requires-clause-narrow g c =
    let is = width_now _ _ c.image-image.result.now c.relation-relation.result.now (ap (λ (n : ℕ). take n c.image-image.result.now.fields) c.from.ensures) c.as_slice-fields.ensures in
    omega (arith, is, narrow_keys c.relation-relation.ensures.is c.image-image.ensures.safe)

-- zeros are the start of a scan without a key
starts_none : {listing : Listing} {number : ℕ} {image other : ImageEntry} {relation another : RelationEntry} {from : Option (List Value)} {start : List ℕ} {width : ℕ} → image_at listing number ≡ Some image → relation_at listing image.relation ≡ Some relation
    → from ≡ None → width ≡ width_of image relation → start ≡ replicate width 0 → IsListedImage listing number other another → IsStartOf other another from start
starts_none {other = other} {another = another} {start = start} at within none wide made listed =
    let one = one_listed at within listed in
    subst (λ (from : Option (List Value)). IsStartOf other another from start) (sym none) (record {
      fit = tt;
      made = made ∙ ap (λ (n : ℕ). replicate n 0) (wide ∙ (λ i. width_of (sym one.0 i) (sym one.1 i)));
    })

pub returns-in-None : goal.returns-in-None
returns-in-None g c = λ image relation listed.
    starts_none c.image-image.ensures.is c.relation-relation.ensures.is c.in-None.is
    (width_now _ _ c.image-image.result.now c.relation-relation.result.now (ap (λ (n : ℕ). take n c.image-image.result.now.fields) c.from.ensures) c.as_slice-fields.ensures)
    c.least_key.ensures listed
