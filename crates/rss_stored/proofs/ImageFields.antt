-- The fields that an image's numbers choose have these numbers by their names.
use Rattle.std.proofs.Common.{◌≡◌, ℕ, zero, suc, ◌+◌, ◌-◌, ◌<◌, List, [], ◌∷◌, length, get_or, refl, sym, ◌∙◌, ap, subst, arith}
use Rattle.std.specs.Prelude.{Option, Some, None, All, option_map, slice_get}
use Rattle.std.specs.List.{cons_option}
use Rattle.std.proofs.lemmas.Option.{same_Some}
use Rattle.std.proofs.lemmas.List.Elements.{All-head, All-tail}
use Rattle.rss_base.specs.Names.{AreApart}
use Rattle.rss_base.specs.Listings.{Listing, ListingFits, IsFieldNumber, field_numbers}
use Rattle.rss_base.specs.TupleTypes.{kinds, field_names, chosen, key_width, form_of}
use Rattle.rss_base.specs.declared.name.Name.{Name}
use Rattle.rss_base.specs.declared.value.FieldForm.{FieldForm}
use Rattle.rss_base.specs.declared.field.FieldDef.{FieldDef}
use Rattle.rss_base.specs.declared.image.ImageEntry.{ImageEntry}
use Rattle.rss_base.specs.declared.relation.RelationEntry.{RelationEntry}
use Rattle.rss_model.specs.Tables.{Definitions, fields_in}
use Rattle.rss_model.specs.Images.{number_from, field_number, numbers_of, key_kinds}
use Rattle.rss_stored.specs.Store.{Defines, IsListedImage, image_definition}
use Rattle.rss_model.proofs.Codes.{name_total, name_apart}
use Rattle.rss_model.proofs.Contents.{tied, not_tied}
use Rattle.rss_stored.proofs.Listed.{fields_listed}
use Rattle.rss_model.proofs.LogLists.{none_some}

-- ---- the name of a field

-- it stands among the names at the field's place
name_at : (fields : List FieldDef) (j : ℕ) (field : FieldDef) (d : Name) → slice_get fields j ≡ Some field → (j < length (field_names fields)) × (get_or (field_names fields) j d ≡ field.name)
name_at [] j field d at = none_some at
name_at (f ∷ fields) zero field d at = (omega arith, ap (λ (g : FieldDef). g.name) (same_Some _ _ at))
name_at (f ∷ fields) (suc j) field d at = let rest = name_at fields j field d at in (omega (arith, rest.0), rest.1)

apart_rest : (name : Name) (names : List Name) → AreApart (name ∷ names) → AreApart names
apart_rest name names apart j k d low high same = less_one j k (apart (suc j) (suc k) d (omega (arith, low)) (omega (arith, high)) same)
  where
    less_one : (j k : ℕ) → suc j ≡ suc k → j ≡ k
    less_one j k same = omega (arith, same)

-- and its number is that place's
number_at : (k : ℕ) (fields : List FieldDef) → AreApart (field_names fields) → (j : ℕ) (field : FieldDef) → slice_get fields j ≡ Some field → number_from k fields field.name ≡ Some (k + j)
number_at k [] apart j field at = none_some at
number_at k (f ∷ fields) apart zero field at =
    let same : f ≡ field = same_Some _ _ at in
    rw (sym same, tied name_total name_apart f.name) (ap (λ (n : ℕ). Some n) (omega arith))
number_at k (f ∷ fields) apart (suc j) field at =
    let place = name_at fields j field f.name at in
    let other = not_tied name_total name_apart field.name f.name (λ same. apart_clash j (apart zero (suc j) f.name (omega arith) (omega (arith, place.0)) (sym (place.1 ∙ same)))) in
    rw other (number_at (k + 1) fields (apart_rest f.name (field_names fields) apart) j field at ∙ ap (λ (n : ℕ). Some n) (omega arith))
  where
    apart_clash : (j : ℕ) → zero ≡ suc j → ⊥
    apart_clash j same = omega (arith, same)

-- ---- fields that are chosen

get_within : {A : Type 0} (xs : List A) (j : ℕ) → j < length xs → (x : A) × (slice_get xs j ≡ Some x)
get_within [] j low = absurd (omega (arith, low))
get_within (x ∷ xs) zero low = (x, refl)
get_within (x ∷ xs) (suc j) low = get_within xs j (omega (arith, low))

pub numbers_back : (fields : List FieldDef) → AreApart (field_names fields) → (numbers : List ℕ) → All (IsFieldNumber (length fields)) numbers → numbers_of fields (field_names (chosen numbers fields)) ≡ numbers
numbers_back fields apart [] within = refl
numbers_back fields apart (number ∷ numbers) within =
    let here = All-head (IsFieldNumber (length fields)) number numbers within in
    let field = get_within fields (number - 1) (omega (arith, here.low, here.high)) in
    let is : field_number fields field.0.name ≡ Some number = number_at 1 fields apart (number - 1) field.0 field.1 ∙ ap (λ (n : ℕ). Some n) (omega (arith, here.low)) in
    let rest = numbers_back fields apart numbers (All-tail (IsFieldNumber (length fields)) number numbers within) in
    ap (λ (o : Option FieldDef). numbers_of fields (field_names (cons_option o (chosen numbers fields)))) field.1
    ∙ ap (λ (o : Option ℕ). cons_option o (numbers_of fields (field_names (chosen numbers fields)))) is
    ∙ ap (λ (l : List ℕ). number ∷ l) rest

-- the kinds of those that are chosen
pub chosen_kinds : (numbers : List ℕ) (fields : List FieldDef) → chosen numbers (kinds fields) ≡ kinds (chosen numbers fields)
chosen_kinds [] fields = refl
chosen_kinds (number ∷ numbers) fields =
    ap (λ (o : Option FieldForm). cons_option o (chosen numbers (kinds fields))) (kind_got fields (number - 1))
    ∙ ap (cons_option (option_map form_of (slice_get fields (number - 1)))) (chosen_kinds numbers fields)
    ∙ kind_first (slice_get fields (number - 1)) (chosen numbers fields)
  where
    kind_got : (fields : List FieldDef) (j : ℕ) → slice_get (kinds fields) j ≡ option_map form_of (slice_get fields j)
    kind_got [] j = refl
    kind_got (f ∷ fields) zero = refl
    kind_got (f ∷ fields) (suc j) = kind_got fields j

    kind_first : (o : Option FieldDef) (fields : List FieldDef) → cons_option (option_map form_of o) (kinds fields) ≡ kinds (cons_option o fields)
    kind_first None fields = refl
    kind_first (Some f) fields = refl

-- ---- the fields of an image

module _ {listing : Listing} {definitions : Definitions} (fits : ListingFits listing) (defines : Defines listing definitions) {number : ℕ} {image : ImageEntry} {relation : RelationEntry} (at : IsListedImage listing number image relation) where
  -- its relation is defined with the fields that are listed
  pub fields_are : fields_in definitions relation.name ≡ relation.fields
  fields_are = fields_listed fits defines image.relation relation at.within

  -- and its fields have by their names the numbers that are listed
  pub numbers_are : numbers_of relation.fields (field_names (chosen (field_numbers image) relation.fields)) ≡ field_numbers image
  numbers_are =
      let its = fits.paths.images number image at.at in
      let same : its.relation ≡ relation = same_Some _ _ (sym its.listed ∙ at.within) in
      numbers_back relation.fields (fits.relations image.relation relation at.within).fields.apart (field_numbers image)
      (subst (λ (r : RelationEntry). All (IsFieldNumber (length r.fields)) (field_numbers image)) same its.within)

  -- so keys have as many bytes by names as by numbers
  pub width_is : key_width (key_kinds (fields_in definitions relation.name) (image_definition image relation).fields) ≡ key_width (kinds (chosen (field_numbers image) relation.fields))
  width_is =
      ap (λ (fields : List FieldDef). key_width (key_kinds fields (image_definition image relation).fields)) fields_are
      ∙ ap (λ (numbers : List ℕ). key_width (kinds (chosen numbers relation.fields))) numbers_are
