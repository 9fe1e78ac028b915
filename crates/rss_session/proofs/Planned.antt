-- What an image that is to be made is refused for in the states in which a session may be, and the entry that it has.
use Rattle.std.proofs.Common.{◌≡◌, ℕ, ◌-◌, ◌^◌, ◌<◌, ◌≤◌, Bool, true, false, List, [], ◌∷◌, ◌++◌, length, drop, replicate, length-append, refl, sym, ◌∙◌, ap, subst, arith}
use Rattle.std.specs.Prelude.{nat_le, Option, Some, None, All, is_some, option_map, unwrap_or, ◌||◌}
use Rattle.std.specs.FinMap as finite
use Rattle.std.specs.List.{list_all}
use Rattle.std.proofs.lemmas.Bool.{false_from_ne_true, le-leb, lt-leb, or_from}
use Rattle.std.proofs.lemmas.List.{length-map, length-replicate}
use Rattle.std.proofs.lemmas.Option.{same_Some}
use Rattle.rss_base.specs.Names.{IsName}
use Rattle.rss_base.specs.Sizes.{images_most}
use Rattle.rss_base.specs.TupleTypes.{kinds, chosen, key_width, most_fields, most_key_width}
use Rattle.rss_base.specs.Listings.{Listing, ImageFits, IsFieldNumber, AreDifferent, IsNumberOf, IsUnlisted, AreAllUsed, names_of, relation_at, field_numbers, with_root, padded}
use Rattle.rss_base.specs.declared.field.FieldDef.{FieldDef}
use Rattle.rss_base.specs.declared.image.ImageEntry.{ImageEntry}
use Rattle.rss_base.specs.declared.name.Name.{Name}
use Rattle.rss_base.specs.declared.refusal.Kind.TheVariants.{Relation as RelationKind, Image as ImageKind, Field as FieldKind}
use Rattle.rss_base.specs.declared.refusal.LimitKind.TheVariants.{Images as ImageLimit, Fields as FieldLimit, KeyWidth as KeyWidthLimit}
use Rattle.rss_base.specs.declared.refusal.Refusal.{Refusal}
use Rattle.rss_base.specs.declared.refusal.Refusal.TheVariants.{NoSuch, NameTaken, Limit}
use Rattle.rss_base.specs.declared.relation.RelationEntry.{RelationEntry}
use Rattle.rss_model.specs.Tables.{RelationDef, Tables, no_tables}
use Rattle.rss_model.specs.Images.{numbers_of, key_kinds}
use Rattle.rss_model.specs.Fits.{is_field_of}
use Rattle.rss_model.specs.Machine.{State, now}
use Rattle.rss_model.specs.Defining.{has_twice, refused_if, refused_unless, if_any_open, if_images_used_up, is_relation, is_image, fields_now, image_def}
use Rattle.rss_model.specs.Steps.{first_of}
use Rattle.rss_stored.specs.Store.{SpellsTables, image_definition}
use Rattle.rss_stored.proofs.ByNumber.{relation_named, relation_unnamed, used_up, some_left}
use Rattle.rss_stored.proofs.ImageMade.{image_made_defined}
use Rattle.rss_stored.proofs.ImageRooms.{images_listed}
use Rattle.rss_stored.proofs.Listed.{listed}
use Rattle.rss_model.proofs.Named.{made_here}
use Rattle.rss_model.proofs.Tests.{goes_on, passes_if, passes_unless, refuses_at, refuses_if, refuses_unless}
use Rattle.rss_session.specs.Planning.{plan_tests, PlansImage}
use Rattle.rss_session.specs.Sessions.{SessionView}
use Rattle.rss_session.specs.Shown.{Shows}
use Rattle.rss_session.proofs.KeyFields.{AreKnown, few_known, numbers_different, numbers_long, numbers_taken, numbers_within}
use Rattle.rss_session.proofs.Starts.{image_entry}

-- ---- the tests

-- those that read the fields of the relation, and those behind them
abbrev field_tests : State → Name → List Name → List FieldDef → List (Option Refusal)
field_tests state name fields known =
    refused_unless (list_all (is_field_of known) fields) (NoSuch FieldKind)
    ∷ refused_if (is_image state name || has_twice fields) NameTaken
    ∷ if_images_used_up state
    ∷ refused_unless (nat_le 1 (length fields)) (Limit FieldLimit)
    ∷ refused_unless (nat_le (key_width (key_kinds known fields)) most_key_width) (Limit KeyWidthLimit)
    ∷ []

module _ {view : SessionView} {state : State} (shows : Shows view state) (rest : if_any_open state ≡ None) (name relation : Name) (fields : List Name) where
  abbrev listing : Listing
  listing = view.store.catalog.listing

  abbrev plan : Option Refusal
  plan = first_of (plan_tests state name relation fields)

  spells : SpellsTables view.store.pages.held listing (now state)
  spells = shows.store.spells

  pub relation_unknown : IsUnlisted RelationKind listing relation → plan ≡ Some (NoSuch RelationKind)
  relation_unknown none = goes_on _ rest ∙ refuses_at _ (refuses_unless (NoSuch RelationKind) (relation_unnamed spells.listed spells.defines relation none))

  -- ---- the image's name

  image_taken : (number : ℕ) → IsNumberOf ImageKind listing name number → is_image state name ≡ true
  image_taken number is =
      let has = image_entry listing name number is in
      let its = spells.listed.paths.images number has.entry has.at in
      ap (λ (n : Name). is_image state n) (sym has.named) ∙ ap is_some (spells.defines.paths.images number has.entry its.relation (record { at = has.at; within = its.listed }))

  image_free : IsUnlisted ImageKind listing name → is_image state name ≡ false
  image_free none = false_from_ne_true (is_image state name) (λ there. let has = spells.defines.paths.only_images name there in none has.0 has.1)

  -- ---- how many images there are

  image_places : length (names_of ImageKind listing) ≡ images_most
  image_places = length-map listing.images (option_map (λ (image : ImageEntry). image.name)) ∙ spells.listed.paths.image_places

  images_full : AreAllUsed ImageKind listing → nat_le images_most (finite.len state.base.definitions.images) ≡ true
  images_full all = used_up (names_of ImageKind listing) state.base.definitions.images (images_listed spells.defines spells.listed) images_most image_places all

  images_left : (AreAllUsed ImageKind listing → ⊥) → nat_le images_most (finite.len state.base.definitions.images) ≡ false
  images_left left = some_left (names_of ImageKind listing) state.base.definitions.images (images_listed spells.defines spells.listed) images_most image_places left

  -- ---- of a relation that is there

  module _ (number : ℕ) (is : IsNumberOf RelationKind listing relation number) (entry : RelationEntry) (at : relation_at listing number ≡ Some entry) (named : entry.name ≡ relation) where
    there : is_relation state relation ≡ true
    there = relation_named spells.listed spells.defines relation number is

    fields_are : fields_now state relation ≡ entry.fields
    fields_are =
        let so = listed spells.listed spells.defines number entry at in
        ap (fields_now state) (sym named)
        ∙ ap (λ (o : Option RelationDef). unwrap_or (option_map (λ (r : RelationDef). r.fields) o) []) (spells.defines.relations number entry so.0 so.1)

    tested : plan ≡ first_of (field_tests state name fields entry.fields)
    tested =
        goes_on _ rest ∙ goes_on _ (passes_unless (NoSuch RelationKind) there)
        ∙ ap (λ (known : List FieldDef). first_of (field_tests state name fields known)) fields_are

    pub field_unknown : list_all (is_field_of entry.fields) fields ≡ false → plan ≡ Some (NoSuch FieldKind)
    field_unknown unknown = tested ∙ refuses_at _ (refuses_unless (NoSuch FieldKind) unknown)

    module _ (known : list_all (is_field_of entry.fields) fields ≡ true) where
      tested_name : plan ≡ first_of (drop 1 (field_tests state name fields entry.fields))
      tested_name = tested ∙ goes_on _ (passes_unless (NoSuch FieldKind) known)

      pub name_taken : (k : ℕ) → IsNumberOf ImageKind listing name k → plan ≡ Some NameTaken
      name_taken k taken = tested_name ∙ refuses_at _ (refuses_if NameTaken (ap (λ (b : Bool). b || has_twice fields) (image_taken k taken)))

      module _ (fresh : IsUnlisted ImageKind listing name) where
        pub field_twice : has_twice fields ≡ true → plan ≡ Some NameTaken
        field_twice twice = tested_name ∙ refuses_at _ (refuses_if NameTaken (ap (λ (b : Bool). b || has_twice fields) (image_free fresh) ∙ twice))

        module _ (once : has_twice fields ≡ false) where
          tested_room : plan ≡ first_of (drop 2 (field_tests state name fields entry.fields))
          tested_room = tested_name ∙ goes_on _ (passes_if NameTaken (or_from (is_image state name) (has_twice fields) (image_free fresh) once))

          pub images_many : AreAllUsed ImageKind listing → plan ≡ Some (Limit ImageLimit)
          images_many all = tested_room ∙ refuses_at _ (refuses_if (Limit ImageLimit) (images_full all))

          module _ (room : AreAllUsed ImageKind listing → ⊥) where
            tested_some : plan ≡ first_of (drop 3 (field_tests state name fields entry.fields))
            tested_some = tested_room ∙ goes_on _ (passes_if (Limit ImageLimit) (images_left room))

            pub no_field : length fields ≡ 0 → plan ≡ Some (Limit FieldLimit)
            no_field none = tested_some ∙ refuses_at _ (refuses_unless (Limit FieldLimit) (lt-leb 1 (length fields) (omega (arith, none))))

            module _ (some : 1 ≤ length fields) where
              tested_width : plan ≡ first_of (drop 4 (field_tests state name fields entry.fields))
              tested_width = tested_some ∙ goes_on _ (passes_unless (Limit FieldLimit) (le-leb 1 (length fields) some))

              pub key_wide : most_key_width < key_width (key_kinds entry.fields fields) → plan ≡ Some (Limit KeyWidthLimit)
              key_wide wide = tested_width ∙ refuses_at _ (refuses_unless (Limit KeyWidthLimit) (lt-leb (key_width (key_kinds entry.fields fields)) most_key_width wide))

              pub image_planned : key_width (key_kinds entry.fields fields) ≤ most_key_width → plan ≡ None
              image_planned narrow = tested_width ∙ goes_on _ (passes_unless (Limit KeyWidthLimit) (le-leb (key_width (key_kinds entry.fields fields)) most_key_width narrow))

-- ---- the entry

module _ (listing : Listing) (name : Name) (is_unique : Bool) (fields : List Name) (number : ℕ) (within : RelationEntry) (numbers : List ℕ) (is_name : IsName name) (at : relation_at listing number ≡ Some within) (short : length within.fields ≤ most_fields)
    (known : AreKnown within.fields fields) (once : has_twice fields ≡ false) (some : 1 ≤ length fields) (are : numbers ≡ padded most_fields (numbers_of within.fields fields)) (narrow : key_width (key_kinds within.fields fields) ≤ most_key_width) where
  abbrev entry : ImageEntry
  entry = record {
    name = name;
    relation = number;
    is_unique = is_unique;
    count = length fields;
    fields = numbers;
    levels = 1;
    root = 0;
  }

  taken : field_numbers entry ≡ numbers_of within.fields fields
  taken = numbers_taken within.fields fields known numbers are

  few : length fields ≤ most_fields
  few = omega (arith, short, few_known within.fields fields known once)

  -- it is defined as the call says
  defines_so : image_definition entry within ≡ image_def within.name is_unique fields
  defines_so =
      sym (same_Some _ _ (
      sym (made_here finite.empty name (image_def within.name is_unique fields))
      ∙ ap (λ (t : Tables). finite.get t.definitions.images name) (same_Some _ _ (image_made_defined no_tables entry within fields taken known))
      ∙ made_here finite.empty name (image_definition entry within)
      ))

  long : length numbers ≡ most_fields
  long =
      let numbers_of_names = numbers_of within.fields fields in
      let as_many = numbers_long within.fields fields known in
      omega (arith, few, as_many, ap length are, length-append numbers_of_names (replicate (16 - length numbers_of_names) 0), length-replicate {A = ℕ} (16 - length numbers_of_names) 0)

  fits_so : (root levels : ℕ) → root < 2 ^ 32 → 1 ≤ levels → levels < 2 ^ 8 → ImageFits listing (with_root root levels entry)
  fits_so root levels low some_levels few_levels = record {
    name = is_name;
    relation = within;
    listed = at;
    some = some;
    few = few;
    long = long;
    places = are ∙ (λ i. sym taken i ++ replicate (16 - numbers_long within.fields fields known i) 0);
    within = subst (All (IsFieldNumber (length within.fields))) (sym taken) (numbers_within within.fields fields known);
    different = subst AreDifferent (sym taken) (numbers_different within.fields fields known once);
    narrow = subst (λ (ns : List ℕ). key_width (kinds (chosen ns within.fields)) ≤ most_key_width) (sym taken) narrow;
    some_levels = some_levels;
    levels = few_levels;
    root = low;
  }

  pub entry_planned : (relation : Name) → within.name ≡ relation → IsUnlisted ImageKind listing name → (AreAllUsed ImageKind listing → ⊥) → PlansImage listing name relation is_unique fields entry
  entry_planned relation named fresh room = record {
    within = within;
    at = at;
    named = refl;
    defines = defines_so ∙ ap (λ (n : Name). image_def n is_unique fields) named;
    fits = fits_so;
    fresh = fresh;
    room = room;
  }
