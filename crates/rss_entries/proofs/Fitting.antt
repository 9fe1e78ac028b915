-- What is known of an image and of its entries, where a tuple of a listing's tables changes.
use Rattle.std.proofs.Common.{◌≡◌, ◌<◌, ◌≤◌, ◌+◌, ◌-◌, ℕ, zero, suc, true, List, [], ◌∷◌, length, refl, sym, ◌∙◌, ap, subst, arith}
use Rattle.std.specs.Prelude.{Option, Some, is_some, option_map, slice_get, All, ◌&&◌, nat_le}
use Rattle.std.specs.List.{list_all, cons_option}
use Rattle.std.specs.Ordering.{eq_by_cmp}
use Rattle.std.proofs.lemmas.Bool.{leb-true, cond-false}
use Rattle.std.proofs.lemmas.List.{length-take}
use Rattle.std.proofs.lemmas.List.Elements.{All-head}
use Rattle.std.proofs.lemmas.List.Sums.{sum_by-cons}
use Rattle.std.proofs.lemmas.Option.{same_Some}
use Rattle.rss_base.specs.Listings.{Listing, ListingFits, ImageFits, field_numbers, segment_at, IsFieldNumber}
use Rattle.rss_base.specs.TupleTypes.{form_of, kinds, chosen, key_width, key_kind_width, key_part_width, is_kind, most_fields}
use Rattle.rss_base.specs.declared.name.Name.{Name}
use Rattle.rss_base.specs.declared.tid.Tid.{Tid}
use Rattle.rss_base.specs.declared.item.Item.TheVariants.{Tuple as TupleItem}
use Rattle.rss_base.specs.declared.field.FieldDef.{FieldDef}
use Rattle.rss_base.specs.declared.value.FieldKind.{FieldKind}
use Rattle.rss_base.specs.declared.value.FieldKind.TheVariants.{Int as IntField, Text as TextField}
use Rattle.rss_base.specs.declared.image.ImageEntry.{ImageEntry}
use Rattle.rss_base.specs.declared.relation.RelationEntry.{RelationEntry}
use Rattle.rss_node.specs.Nodes.{AreNodes}
use Rattle.rss_base.specs.Tids.{IsSpelledTid}
use Rattle.rss_image.specs.Images.{nodes_of}
use Rattle.rss_model.specs.Items.{Values, item_cmp}
use Rattle.rss_model.specs.Tables.{content, Tables}
use Rattle.rss_stored.specs.Store.{IsListedImage}
use Rattle.rss_model.proofs.Contents.{content_put, same_item_of}
use Rattle.rss_model.proofs.LogLists.{by_test, some_of}
use Rattle.rss_model.proofs.Putting.{same_parts}
use Rattle.rss_stored.proofs.Relisted.{number_within_list}
use Rattle.rss_model.proofs.RelationLists.{entry_there}
use Rattle.rss_value.proofs.Fitting.{and_true}
use Rattle.rss_entries.specs.Images.{TupleMove, CanMove, after_move, image_of}
use Rattle.rss_entries.proofs.Standing.{AreSpelledIn}

-- ---- keys have some bytes

wide_kind : (kind : FieldKind) → is_kind kind ≡ true → 1 ≤ key_kind_width kind
wide_kind IntField is = omega arith
wide_kind (TextField n) is = leb-true 1 n (and_true (nat_le 1 n) (nat_le n 255) is).0

record IsWideField (fields : List FieldDef) (i : ℕ) : Type 0 where
  field : FieldDef
  at : slice_get fields i ≡ Some field
  wide : 1 ≤ key_part_width (form_of field)

wide_field : (fields : List FieldDef) (i : ℕ) → i < length fields → list_all (λ form. is_kind form.kind) (kinds fields) ≡ true → IsWideField fields i
wide_field [] i low all = absurd (omega (arith, low))
wide_field (f ∷ fields) zero low all = record { field = f; at = refl; wide = omega (arith, wide_kind f.kind (and_true (is_kind f.kind) (list_all (λ form. is_kind form.kind) (kinds fields)) all).0) }
wide_field (f ∷ fields) (suc i) low all =
    let rest = wide_field fields i (omega (arith, low)) (and_true (is_kind f.kind) (list_all (λ form. is_kind form.kind) (kinds fields)) all).1 in
    record { field = rest.field; at = rest.at; wide = rest.wide }

wide_key : (numbers : List ℕ) (fields : List FieldDef) → 1 ≤ length numbers → All (IsFieldNumber (length fields)) numbers → list_all (λ form. is_kind form.kind) (kinds fields) ≡ true → 1 ≤ key_width (kinds (chosen numbers fields))
wide_key [] fields some within all = absurd (omega (arith, some))
wide_key (n ∷ ns) fields some within all =
    let here = All-head (IsFieldNumber (length fields)) n ns within in
    let wide = wide_field fields (n - 1) (omega (arith, here.low, here.high)) all in
    let parts : key_width (kinds (chosen (n ∷ ns) fields)) ≡ key_part_width (form_of wide.field) + key_width (kinds (chosen ns fields)) =
    ap (λ (o : Option FieldDef). key_width (kinds (cons_option o (chosen ns fields)))) wide.at ∙ sum_by-cons key_part_width (form_of wide.field) (kinds (chosen ns fields)) in
    omega (arith, wide.wide, parts)

-- ---- the nodes of an image

-- an image has a field
some_numbers : {listing : Listing} {image : ImageEntry} → ImageFits listing image → 1 ≤ length (field_numbers image)
some_numbers {image = image} fits = omega (arith, fits.some, fits.few, fits.long, length-take image.count image.fields)

-- keys of as many bytes as nodes may have, in a segment
pub fitting_nodes : (listing : Listing) → ListingFits listing → (number : ℕ) (image : ImageEntry) (relation : RelationEntry) → IsListedImage listing number image relation → AreNodes (nodes_of (image_of number image relation))
fitting_nodes listing fits number image relation at =
    let its : ImageFits listing image = fits.paths.images number image at.at in
    let same : its.relation ≡ relation = same_Some _ _ (sym its.listed ∙ at.within) in
    let entry = fits.relations image.relation relation at.within in
    let formed = and_true (nat_le 1 (length (kinds relation.fields)) && nat_le (length (kinds relation.fields)) most_fields) (list_all (λ form. is_kind form.kind) (kinds relation.fields)) entry.fields.formed in
    let within = subst (λ (r : RelationEntry). All (IsFieldNumber (length r.fields)) (field_numbers image)) same its.within in
    let segment = some_of (segment_at listing relation.segment) entry.segment in
    let bounds = number_within_list listing.segments relation.segment segment.0 segment.1 in
    record {
      wide = wide_key (field_numbers image) relation.fields (some_numbers its) within formed.1;
      narrow = subst (λ (r : RelationEntry). key_width (kinds (chosen (field_numbers image) r.fields)) ≤ 120) same its.narrow;
      low = bounds.0;
      high = subst (λ (n : ℕ). relation.segment ≤ n) fits.segment_places bounds.1;
    }

-- ---- identifiers

module _ {listing : Listing} {tables : Tables} (move : TupleMove) (can : CanMove listing move tables) where
  pub nodes_fit : (number : ℕ) (image : ImageEntry) (relation : RelationEntry) → IsListedImage listing number image relation → AreNodes (nodes_of (image_of number image relation))
  nodes_fit number image relation at = fitting_nodes listing can.fits number image relation at

  -- of the tuples after the change
  tids_after : (relation : Name) (tid : Tid) → is_some (content (after_move move tables).contents (TupleItem relation tid)) ≡ true → IsSpelledTid tid
  tids_after relation tid there = by_test (eq_by_cmp item_cmp (TupleItem relation tid) (TupleItem move.relation.name move.tid))
      (λ here. subst IsSpelledTid (sym (same_parts relation move.relation.name tid move.tid (same_item_of _ _ here)).1) can.tid)
      (λ other.
      let kept = content_put tables.contents (TupleItem move.relation.name move.tid) (option_map Values move.next) (TupleItem relation tid) ∙ cond-false _ _ _ other in
      can.tids relation tid (sym (ap is_some kept) ∙ there))

  -- the entries' identifiers can be spelled after the change
  pub spelled_after : (image : ImageEntry) (relation : RelationEntry) → AreSpelledIn (after_move move tables) image relation
  spelled_after image relation e is =
      let there = entry_there (after_move move tables) relation.name _ e is in
      tids_after relation.name e.tid (ap is_some there.1)
