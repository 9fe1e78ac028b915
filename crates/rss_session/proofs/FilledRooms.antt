-- The room for an image that is to be made is what the machine asks for.
use Rattle.std.proofs.Common.{◌≡◌, ℕ, ◌+◌, ◌<◌, ◌≤◌, true, false, Bool, List, [], length, refl, sym, ◌∙◌, ap, subst, arith}
use Rattle.std.specs.Prelude.{Option, Some, None, is_some, option_map, unwrap_or, nat_lt, All}
use Rattle.std.specs.FinMap as map
use Rattle.std.proofs.lemmas.Bool.Decides.{nat_tests}
use Rattle.std.proofs.lemmas.Option.{same_Some}
use Rattle.rss_base.specs.Listings.{Listing, ListingFits, ImageFits, IsFieldNumber, field_numbers, with_root}
use Rattle.rss_base.specs.TupleTypes.{kinds, chosen, key_width, field_names, most_key_width}
use Rattle.rss_base.specs.declared.field.FieldDef.{FieldDef}
use Rattle.rss_base.specs.declared.image.ImageEntry.{ImageEntry}
use Rattle.rss_base.specs.declared.key.PageKey.{PageKey}
use Rattle.rss_base.specs.declared.name.Name.{Name}
use Rattle.rss_base.specs.declared.refusal.Refusal.TheVariants.{Full}
use Rattle.rss_base.specs.declared.relation.RelationEntry.{RelationEntry}
use Rattle.rss_model.specs.Defining.{with_image, image_def}
use Rattle.rss_model.specs.Images.{key_kinds, numbers_of}
use Rattle.rss_model.specs.Machine.{State}
use Rattle.rss_model.specs.Meter.{Meter, bound_of, entries_most, pages_of_image, room_number}
use Rattle.rss_model.specs.Rules.{saved_now, if_no_room_for}
use Rattle.rss_model.specs.Spares.{bound_by, change_counts}
use Rattle.rss_stored.specs.Store.{Defines, image_definition}
use Rattle.rss_model.specs.Tables.{RelationDef, ImageDef, Definitions, fields_in}
use Rattle.rss_stored.proofs.ImageFields.{numbers_back}
use Rattle.rss_stored.proofs.Listed.{listed}
use Rattle.rss_model.proofs.MapSums.{insert_sum}
use Rattle.rss_value.specs.Numbers.{IsNumberOf}
use Rattle.rss_entries.specs.Rooms.{width_of}
use Rattle.rss_session.specs.Filling.{pages_for, room_for}
use Rattle.rss_session.specs.Planning.{PlansImage}
use Rattle.rss_session.specs.Sessions.{SessionView, IsReady}
use Rattle.rss_session.specs.Shown.{Shows}
use Rattle.rss_session.specs.Weighing.{saved_most}
use Rattle.rss_session.proofs.Traffic.{most_is, saved_same, saved_images_same}
use Rattle.rss_session.proofs.Weighed.{count_same, few_slots, saved_heap_same, slots_same}

-- ---- the entry of an image that is planned

module _ {listing : Listing} {name relation : Name} {is_unique : Bool} {fields : List Name} {entry : ImageEntry} (plans : PlansImage listing name relation is_unique fields entry) where
  pub planned_fits : ImageFits listing (with_root 0 1 entry)
  planned_fits = plans.fits 0 1 (omega arith) (omega arith) (omega arith)

  pub planned_relation : planned_fits.relation ≡ plans.within
  planned_relation = same_Some _ _ (sym planned_fits.listed ∙ plans.at)

  pub planned_within : All (IsFieldNumber (length plans.within.fields)) (field_numbers entry)
  planned_within = subst (λ (r : RelationEntry). All (IsFieldNumber (length r.fields)) (field_numbers entry)) planned_relation planned_fits.within

  pub planned_numbers : All (IsNumberOf plans.within.fields) (field_numbers entry)
  planned_numbers k d low = let is = planned_within k d low in (is.low, is.high)

  pub planned_narrow : width_of entry plans.within ≤ most_key_width
  planned_narrow = subst (λ (r : RelationEntry). width_of entry r ≤ most_key_width) planned_relation planned_fits.narrow

  module _ {definitions : Definitions} (fits : ListingFits listing) (defines : Defines listing definitions) where
    -- its keys have as many bytes by names as by numbers
    fields_are : fields_in definitions plans.within.name ≡ plans.within.fields
    fields_are =
        let so = listed fits defines entry.relation plans.within plans.at in
        ap (λ (o : Option RelationDef). unwrap_or (option_map (λ (r : RelationDef). r.fields) o) []) (defines.relations entry.relation plans.within so.0 so.1)

    numbers_are : numbers_of plans.within.fields (field_names (chosen (field_numbers entry) plans.within.fields)) ≡ field_numbers entry
    numbers_are = numbers_back plans.within.fields (fits.relations entry.relation plans.within plans.at).fields.apart (field_numbers entry) planned_within

    planned_width : key_width (key_kinds (fields_in definitions plans.within.name) (image_definition entry plans.within).fields) ≡ width_of entry plans.within
    planned_width =
        ap (λ (defs : List FieldDef). key_width (key_kinds defs (image_definition entry plans.within).fields)) fields_are
        ∙ ap (λ (numbers : List ℕ). key_width (kinds (chosen numbers plans.within.fields))) numbers_are

    -- no image has its name
    planned_unnamed : map.get definitions.images name ≡ None
    planned_unnamed = by (map.get definitions.images name) refl
      where
        by : (found : Option ImageDef) → map.get definitions.images name ≡ found → map.get definitions.images name ≡ None
        by None is = is
        by (Some image) is = let has = defines.paths.only_images name (ap is_some is) in absurd (plans.fresh has.0 has.1)

    -- with it, images may have so many pages more
    pub planned_pages : (meter : Meter) → (change_counts (with_image definitions name (image_def relation is_unique fields)) meter).images
        ≡ bound_of (width_of entry plans.within) (entries_most (meter.traffic plans.within.name)) + (change_counts definitions meter).images
    planned_pages meter =
        insert_sum (pages_of_image definitions meter) (λ (e : Name × ImageDef). e.1) definitions.images name (image_def relation is_unique fields) planned_unnamed
        ∙ ap (λ (n : ℕ). n + (change_counts definitions meter).images)
        (ap (pages_of_image definitions meter) (sym plans.defines)
        ∙ ap (λ (width : ℕ). bound_of width (entries_most (meter.traffic plans.within.name))) planned_width)

-- ---- in a state in which the session may be

module _ {view : SessionView} {state : State} (ready : IsReady view) (shows : Shows view state) (held_are : (key : PageKey) → is_some (view.store.pages.held key) ≡ view.store.pages.mapped key)
    {name relation : Name} {is_unique : Bool} {fields : List Name} {entry : ImageEntry} (plans : PlansImage view.store.catalog.listing name relation is_unique fields entry) where
  abbrev definitions : Definitions
  definitions = with_image state.base.definitions name (image_def relation is_unique fields)

  pages_same : bound_of (width_of entry plans.within) (entries_most ((saved_now state).traffic plans.within.name)) ≡ pages_for view entry
  pages_same =
      let most = sym (most_is view.store.catalog.listing (saved_now state).traffic entry.relation plans.within plans.at) ∙ saved_same shows (few_slots ready shows) entry.relation plans.within plans.at in
      ap (bound_of (width_of entry plans.within)) most
      ∙ ap (bound_by (saved_most view) entry) (sym plans.at)

  pub room_for_same : room_number definitions (saved_now state) ≡ room_for view entry
  room_for_same = omega (
    arith,
    planned_pages plans shows.store.spells.listed shows.store.spells.defines (saved_now state),
    pages_same,
    saved_images_same shows (few_slots ready shows),
    saved_heap_same ready shows held_are,
    count_same ready shows,
  )

  -- it isn't refused where there are as many slots
  pub has_room_for : room_for view entry ≤ view.store.root.slots → if_no_room_for state definitions ≡ None
  has_room_for room =
      let few : room_number definitions (saved_now state) ≤ state.size.slots = omega (arith, room, room_for_same, slots_same ready shows) in
      let enough : nat_lt state.size.slots (room_number definitions (saved_now state)) ≡ false = grind (arith, nat_tests, few) in
      rw enough refl

  -- and is where there are not, with what is there and what is needed
  pub no_room_for : view.store.root.slots < room_for view entry → if_no_room_for state definitions ≡ Some (Full view.store.root.slots (room_for view entry))
  no_room_for full =
      let many : state.size.slots < room_number definitions (saved_now state) = omega (arith, full, room_for_same, slots_same ready shows) in
      let lacks : nat_lt state.size.slots (room_number definitions (saved_now state)) ≡ true = grind (arith, nat_tests, many) in
      rw lacks (λ i. Some (Full (slots_same ready shows i) (room_for_same i)))
