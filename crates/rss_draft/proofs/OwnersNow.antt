-- Which tuple has a key now: as the draft says, or else in the image's pages.
use Rattle.std.proofs.Common.{◌≡◌, ℕ, ◌+◌, ◌-◌, ◌<◌, true, List, [], ◌∷◌, ◌++◌, length, take, get_or, sym, ◌∙◌, ap, subst}
use Rattle.std.specs.Prelude.{Option, Some, None, All, unwrap_or, slice_get}
use Rattle.std.specs.List.{cons_option}
use Rattle.std.proofs.lemmas.Option.{same_Some, slice_get-get_or}
use Rattle.rss_base.specs.TupleTypes.{kinds, chosen, field_names, misfit, Spells}
use Rattle.rss_base.specs.Listings.{Listing, IsFieldNumber, relation_at, image_at, field_numbers}
use Rattle.rss_base.specs.declared.tid.Tid.{Tid}
use Rattle.rss_base.specs.declared.value.Value.{Value}
use Rattle.rss_base.specs.declared.field.FieldDef.{FieldDef}
use Rattle.rss_base.specs.declared.relation.RelationEntry.{RelationEntry}
use Rattle.rss_base.specs.declared.image.ImageEntry.{ImageEntry}
use Rattle.rss_value.proofs.Choosing.{chosen_more}
use Rattle.rss_value.proofs.Fitting.{length-fitting}
use Rattle.rss_catalog.specs.Catalogs.{IsSafeImage}
use Rattle.rss_model.specs.Tables.{Definitions, Tables}
use Rattle.rss_model.specs.Images.{key_in, numbers_of, owner_of_key}
use Rattle.rss_stored.specs.Store.{Defines, IsListedImage, image_definition}
use Rattle.rss_stored.proofs.ImageFields.{fields_are, numbers_are}
use Rattle.rss_access.specs.Changes.{AccessView}
use Rattle.rss_access.specs.Imaging.{FindsOwner}
use Rattle.rss_access.proofs.ImageKeys.{same_listed}
use Rattle.rss_draft.specs.declared.draft.ImageKey.{ImageKey}
use Rattle.rss_draft.specs.Views.{DraftView}
use Rattle.rss_draft.specs.Lookups.{LooksUp}
use Rattle.rss_draft.specs.Looks.{StandsOver, IsKeyOf, IsOwnerNow}

module _ (at : AccessView) (draft : DraftView) (number : ℕ) (bytes : List ℕ) (key : ImageKey) (of : IsKeyOf at.catalog.listing number bytes key) where
  -- what is said of the key is said of that of the values
  module _ {saved tables : Tables} (over : StandsOver at draft saved tables) (looks : LooksUp draft saved tables) {image : ImageEntry} {relation : RelationEntry} (listed : IsListedImage at.catalog.listing number image relation) (unique : image.is_unique ≡ true) (values : List Value)
      (same_image : key.image ≡ image.name) (same_values : key.values ≡ chosen (field_numbers image) values) where
    defines : Defines at.catalog.listing tables.definitions
    defines = subst (Defines at.catalog.listing) (sym over.is.definitions) over.spells.defines

    abbrev its : List Value
    its = key_in tables.definitions (image_definition image relation) values

    key_is : its ≡ key.values
    key_is = ap (λ (numbers : List ℕ). chosen numbers values)
        (ap (λ (fields : List FieldDef). numbers_of fields (field_names (chosen (field_numbers image) relation.fields))) (fields_are over.spells.listed defines listed) ∙ numbers_are over.spells.listed defines listed)
        ∙ sym same_values

    owned : (said : Option (Option Tid)) → draft.owners key.image key.values ≡ said
        → owner_of_key tables (image_definition image relation) None its ≡ unwrap_or said (owner_of_key saved (image_definition image relation) None its)
    owned said is =
        looks.owners image.name (image_definition image relation) its (defines.paths.images number image relation listed) unique
        ∙ ap (λ (o : Option (Option Tid)). unwrap_or o (owner_of_key saved (image_definition image relation) None its)) ((λ i. draft.owners (sym same_image i) (key_is i)) ∙ is)

  pub owner_said : (said : Option Tid) → draft.owners key.image key.values ≡ Some said → IsOwnerNow at draft number bytes said
  owner_said said is saved tables over looks image relation listed unique values spells =
      let names = of image relation listed values spells in
      sym (owned over looks listed unique values names.0 names.1 (Some said) is)

  pub owner_saved : draft.owners key.image key.values ≡ None → (found : Option Tid) → FindsOwner at number bytes None found → IsOwnerNow at draft number bytes found
  owner_saved is found finds saved tables over looks image relation listed unique values spells =
      let names = of image relation listed values spells in
      finds over.told saved over.spells over.fit image relation listed unique values spells
      ∙ ap (λ (d : Definitions). owner_of_key saved (image_definition image relation) None (key_in d (image_definition image relation) values)) (sym over.is.definitions)
      ∙ sym (owned over looks listed unique values names.0 names.1 None is)

-- ---- a key

-- the fields of an image's key are some of those that a tuple has values for
pub numbers_within : {listing : Listing} {entry : ImageEntry} {relation : RelationEntry} → IsSafeImage listing entry → relation_at listing entry.relation ≡ Some relation → (tuple : List Value) → misfit (kinds relation.fields) tuple ≡ None
    → All (IsFieldNumber (length tuple)) (field_numbers entry)
numbers_within {entry = entry} {relation = relation} safe within tuple fit =
    subst (λ (n : ℕ). All (IsFieldNumber n) (field_numbers entry))
    (ap (λ (r : RelationEntry). length r.fields) (same_Some _ _ (sym safe.listed ∙ within)) ∙ sym (length-fitting relation.fields tuple fit)) safe.within

-- the key of the values that are spelled
pub key_of_values : {listing : Listing} {number : ℕ} {bytes : List ℕ} {entry : ImageEntry} {its : RelationEntry} → image_at listing number ≡ Some entry → relation_at listing entry.relation ≡ Some its
    → (tuple : List Value) → ((values : List Value) → Spells (kinds its.fields) bytes values → values ≡ tuple) → (key : ImageKey) → key.image ≡ entry.name → key.values ≡ chosen (field_numbers entry) tuple → IsKeyOf listing number bytes key
key_of_values {bytes = bytes} at within tuple only key named chosen_of image relation listed values spells =
    let same = same_listed at within listed in
    let whole : values ≡ tuple = only values (subst (λ (r : RelationEntry). Spells (kinds r.fields) bytes values) (sym same.1) spells) in (
      named ∙ ap (λ (e : ImageEntry). e.name) same.0,
      chosen_of ∙ (λ i. chosen (field_numbers (same.0 i)) (sym whole i)),
    )

-- one field more
pub value_chosen : (which : List ℕ) (i : ℕ) (values : List Value) (number : ℕ) (value : Value) → i < length which → number ≡ get_or which i 0 → number - 1 < length values → value ≡ get_or values (number - 1) value
    → chosen (take i which) values ++ value ∷ [] ≡ chosen (take (i + 1) which) values
value_chosen which i values number value low is within has =
    let got : slice_get values (get_or which i 0 - 1) ≡ Some value = ap (λ (n : ℕ). slice_get values (n - 1)) (sym is) ∙ slice_get-get_or values (number - 1) value within ∙ ap (λ (v : Value). Some v) (sym has) in
    sym (chosen_more which i values low ∙ ap (λ (o : Option Value). chosen (take i which) values ++ cons_option o []) got)
