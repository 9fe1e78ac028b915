-- The keys of an image of the catalog: their fields are some of its relation's, and their width is that of a node's keys.
use Rattle.std.proofs.Common.{◌≡◌, ℕ, ◌+◌, ◌-◌, ◌≤◌, true, List, [], ◌∷◌, length, get_or, refl, sym, ◌∙◌, ap, subst, arith, false}
use Rattle.std.specs.Prelude.{Option, Some, None, option_map, slice_get, All, nat_le}
use Rattle.std.specs.List.{cons_option, list_all}
use Rattle.std.proofs.lemmas.Bool.{and_parts, leb-true}
use Rattle.std.proofs.lemmas.List.{length-take, length-map}
use Rattle.std.proofs.lemmas.List.Sums.{sum_by-cons, AllPass-from_list_all}
use Rattle.std.proofs.lemmas.Option.{same_Some, slice_get-map, slice_get-get_or}
use Rattle.rss_base.specs.TupleTypes.{kinds, chosen, key_width, key_part_width, is_kind, form_of, key_kind_width}
use Rattle.rss_base.specs.Listings.{Listing, relation_at, image_at, field_numbers}
use Rattle.rss_base.specs.declared.field.FieldDef.{FieldDef}
use Rattle.rss_base.specs.declared.value.FieldKind.{FieldKind}
use Rattle.rss_base.specs.declared.value.FieldForm.{FieldForm}
use Rattle.rss_base.specs.declared.value.FieldKind.TheVariants.{Int as IntField, Text as TextField}
use Rattle.rss_base.specs.declared.image.ImageEntry.{ImageEntry}
use Rattle.rss_base.specs.declared.relation.RelationEntry.{RelationEntry}
use Rattle.rss_value.specs.Numbers.{IsNumberOf}
use Rattle.rss_node.specs.Nodes.{AreNodes}
use Rattle.rss_image.specs.Images.{nodes_of}
use Rattle.rss_catalog.specs.Catalogs.{IsSafe, IsSafeImage}
use Rattle.rss_stored.specs.Store.{IsListedImage}
use Rattle.rss_entries.specs.Rooms.{width_of}
use Rattle.rss_entries.specs.Images.{image_of}

-- ---- what is chosen

put_kind : (field : Option FieldDef) (rest : List FieldDef) → cons_option (option_map form_of field) (kinds rest) ≡ kinds (cons_option field rest)
put_kind None rest = refl
put_kind (Some field) rest = refl

-- the chosen kinds are those of the chosen fields
pub chosen_kinds : (which : List ℕ) (fields : List FieldDef) → chosen which (kinds fields) ≡ kinds (chosen which fields)
chosen_kinds [] fields = refl
chosen_kinds (n ∷ which) fields =
    (λ i. cons_option (slice_get-map form_of fields (n - 1) i) (chosen_kinds which fields i))
    ∙ put_kind (slice_get fields (n - 1)) (chosen which fields)

-- an image's width, by the kinds of all fields
pub width_is : (image : ImageEntry) (relation : RelationEntry) → key_width (chosen (field_numbers image) (kinds relation.fields)) ≡ width_of image relation
width_is image relation = ap key_width (chosen_kinds (field_numbers image) relation.fields)

-- ---- each part of a key has a byte

kind_wide : (kind : FieldKind) → is_kind kind ≡ true → 1 ≤ key_kind_width kind
kind_wide IntField is = omega arith
kind_wide (TextField n) is = leb-true 1 n (and_parts (nat_le 1 n) (nat_le n 255) is).0

part_wide : (form : FieldForm) → is_kind form.kind ≡ true → 1 ≤ key_part_width form
part_wide form is = omega (arith, kind_wide form.kind is)

abbrev no_form : FieldForm
no_form = record { kind = IntField; added = false }

first_wide : (kinds_of : List FieldForm) (n : ℕ) (which : List ℕ) → list_all (λ (form : FieldForm). is_kind form.kind) kinds_of ≡ true → 1 ≤ n → n ≤ length kinds_of → 1 ≤ key_width (chosen (n ∷ which) kinds_of)
first_wide kinds_of n which formed low high =
    let form : FieldForm = get_or kinds_of (n - 1) no_form in
    let wide : 1 ≤ key_part_width form = part_wide form (AllPass-from_list_all (λ (form : FieldForm). is_kind form.kind) kinds_of formed (n - 1) no_form (omega arith)) in
    let is : key_width (chosen (n ∷ which) kinds_of) ≡ key_part_width form + key_width (chosen which kinds_of) =
    ap (λ (o : Option FieldForm). key_width (cons_option o (chosen which kinds_of))) (slice_get-get_or kinds_of (n - 1) no_form (omega arith)) ∙ sum_by-cons key_part_width form (chosen which kinds_of) in
    omega (arith, is, wide)

some_wide : (fields : List FieldDef) (which : List ℕ) → list_all (λ (form : FieldForm). is_kind form.kind) (kinds fields) ≡ true → 1 ≤ length which → All (IsNumberOf fields) which → 1 ≤ key_width (chosen which (kinds fields))
some_wide fields [] formed some within = absurd (omega (arith, some))
some_wide fields (n ∷ which) formed some within =
    let first = within 0 0 (omega (arith, some)) in
    let kinds_long : length (kinds fields) ≡ length fields = length-map fields form_of in
    first_wide (kinds fields) n which formed first.0 (omega (arith, first.1, kinds_long))

-- ---- an image of the catalog

-- its entry and its relation's are those that are listed
pub same_listed : {listing : Listing} {number : ℕ} {one image : ImageEntry} {its relation : RelationEntry} → image_at listing number ≡ Some one → relation_at listing one.relation ≡ Some its → IsListedImage listing number image relation → (one ≡ image) × (its ≡ relation)
same_listed {listing = listing} at within listed =
    let same = same_Some _ _ (sym at ∙ listed.at) in
    (same, same_Some _ _ (sym within ∙ ap (λ (e : ImageEntry). relation_at listing e.relation) same ∙ listed.within))

-- its keys have at least one field
pub some_numbers : {listing : Listing} {image : ImageEntry} → IsSafeImage listing image → length image.fields ≡ 16 → 1 ≤ length (field_numbers image)
some_numbers {image = image} safe long = omega (arith, length-take image.count image.fields, safe.some, safe.few, long)

module _ {listing : Listing} {image : ImageEntry} {relation : RelationEntry} (at : relation_at listing image.relation ≡ Some relation) (safe : IsSafeImage listing image) where
  one_relation : safe.relation ≡ relation
  one_relation = same_Some _ _ (sym safe.listed ∙ at)

  pub numbers_within : All (IsNumberOf relation.fields) (field_numbers image)
  numbers_within = λ k d low.
      let within = safe.within k d low in
      (within.low, subst (λ (r : RelationEntry). get_or (field_numbers image) k d ≤ length r.fields) one_relation within.high)

  pub narrow_keys : width_of image relation ≤ 120
  narrow_keys = subst (λ (r : RelationEntry). width_of image r ≤ 120) one_relation safe.narrow

  module _ (long : length image.fields ≡ 16) (fit : IsSafe relation) where
    wide_keys : 1 ≤ width_of image relation
    wide_keys =
        let formed : list_all (λ (form : FieldForm). is_kind form.kind) (kinds relation.fields) ≡ true = (and_parts _ _ fit.formed).1 in
        subst (λ (n : ℕ). 1 ≤ n) (width_is image relation) (some_wide relation.fields (field_numbers image) formed (some_numbers safe long) numbers_within)

    -- its nodes are such as an image may have
    pub image_nodes : (number : ℕ) → AreNodes (nodes_of (image_of number image relation))
    image_nodes number = record { wide = wide_keys; narrow = narrow_keys; low = fit.segment_low; high = fit.segment_high }
