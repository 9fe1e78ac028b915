-- Each step keeps what the meter says.
use Rattle.std.proofs.Common.{◌≡◌, inl, inr, ◌≤◌, true, false, List, [], ◌∷◌, refl, sym, ◌∙◌, ap, subst, arith}
use Rattle.std.specs.Prelude.{Option, Some, None, is_some, sum_by, ◌||◌, map}
use Rattle.std.specs.Ordering.{eq_by_cmp}
use Rattle.std.specs.FinMap as finite
use Rattle.std.proofs.lemmas.Bool.{true≢false, leb-false}
use Rattle.std.proofs.lemmas.Option.{same_Some}
use Rattle.rss_base.specs.TupleTypes.{key_width, field_names}
use Rattle.rss_base.specs.declared.name.Name.{Name}
use Rattle.rss_base.specs.declared.field.FieldDef.{FieldDef}
use Rattle.rss_base.specs.declared.item.Item.TheVariants.{Tuple}
use Rattle.rss_base.specs.declared.call.Call.{Call}
use Rattle.rss_base.specs.declared.call.Call.TheVariants.{MakeSegment, MakeRelation, MakeImage, MakeLink, DropSegment, DropRelation, DropImage, DropLink}
use Rattle.rss_model.specs.Tables.{ImageDef, Definitions, Tables, content, fields_in, tuple_count}
use Rattle.rss_model.specs.Images.{key_kinds}
use Rattle.rss_model.specs.Items.{name_cmp}
use Rattle.rss_model.specs.Changes.{Change}
use Rattle.rss_model.specs.Fits.{Fits}
use Rattle.rss_model.specs.Meter.{Meter, heap_pages, checkpointed, pages_of_image, image_pages, room_number}
use Rattle.rss_model.specs.Machine.{State, with_changes, now}
use Rattle.rss_model.specs.Rules.{saved_now}
use Rattle.rss_model.specs.Defining.{defined, with_definitions, relation_def, image_def, link_def, with_image, is_segment, is_relation, has_twice, has_image, has_link, holds_tuples, is_image_of}
use Rattle.rss_model.specs.Refusals.{tests, refusal}
use Rattle.rss_model.specs.Steps.{redefined}
use Rattle.rss_model.specs.Kept.{IsMetered, Kept, StepsKeepRoom}
use Rattle.rss_model.proofs.Codes.{name_total, name_apart}
use Rattle.rss_model.proofs.Contents.{tied}
use Rattle.rss_model.proofs.Counts.{none_counted}
use Rattle.rss_model.proofs.LogLists.{false_true}
use Rattle.rss_model.proofs.Mixing.{In}
use Rattle.rss_model.proofs.Named.{made_other, gone_other}
use Rattle.rss_model.proofs.Standing.{or_none}
use Rattle.rss_model.proofs.Testing.{all_none, holds_not}
use Rattle.rss_model.proofs.ChangeKeeping.{base_fits}
use Rattle.rss_model.proofs.SeenAlike.{got_in}
use Rattle.rss_model.proofs.Redefining.{none_open, same_fields, live_defined, in_values, none_any}
use Rattle.rss_model.proofs.StepKeeping.{none_changed}
use Rattle.rss_model.proofs.Saving.{more_pages}
use Rattle.rss_model.proofs.RoomKeeping.{says_saved, saved_room, lt_not, room_by}
use Rattle.rss_model.proofs.DefinitionRoom.{heap_relations, on_page, heap_paths, heap_segment_gone, heap_segment_made, sum_le_in}
use Rattle.rss_model.proofs.MapSums.{remove_sum}

module _ (s : State) (kept : Kept s) (metered : IsMetered s) (none : s.changes ≡ []) (definitions : Definitions) where
  abbrev later : Meter
  later = checkpointed s.size.slots (with_definitions definitions s.base) s.changes s.meter

  same_now : now s ≡ s.base
  same_now = ap (λ (l : List Change). with_changes s.base l) none

  -- as many pages of an image, where its fields are as they were
  pages_le : (fields : Definitions) (image : ImageDef) → fields_in definitions image.relation ≡ fields_in fields image.relation → pages_of_image definitions later image ≤ pages_of_image fields (saved_now s) image
  pages_le fields image same =
      let width = key_width (key_kinds (fields_in fields image.relation) image.fields) in
      let first = ap (λ (f : List FieldDef). image_pages (key_width (key_kinds f image.fields)) (later.traffic image.relation)) same in
      let counts = ap (λ (t : Tables). tuple_count t.contents image.relation) same_now in
      let second = more_pages width (later.traffic image.relation) ((saved_now s).traffic image.relation) (omega (arith, counts)) in
      omega (arith, first, second)

  -- what is to be seen to: no more pages of the heap, nor of the images
  rooms : heap_pages s.size.slots (with_definitions definitions s.base) ≤ heap_pages s.size.slots s.base
      → sum_by (pages_of_image definitions later) (finite.values definitions.images) ≤ sum_by (pages_of_image s.base.definitions (saved_now s)) (finite.values s.base.definitions.images)
      → room_number definitions later ≤ s.size.slots
  rooms heap images = omega (arith, heap, images, ap (heap_pages s.size.slots) same_now, saved_room s metered, metered.room)

  pub metered_defined : room_number definitions later ≤ s.size.slots → IsMetered (redefined (with_definitions definitions s.base) s)
  metered_defined room =
      let said = says_saved s metered in
      let tables = ap (λ (l : List Change). with_changes (with_definitions definitions s.base) l) none in record {
        makers = metered.makers;
        positions = said.positions;
        heap = omega (arith, ap (heap_pages s.size.slots) tables);
        tuples = λ relation. omega (arith, ap (λ (t : Tables). tuple_count t.contents relation) tables);
        room = room;
      }

  -- the images stay, and their fields
  images_stay : definitions.images ≡ s.base.definitions.images → ((name : Name) (image : ImageDef) → finite.get s.base.definitions.images name ≡ Some image → fields_in definitions image.relation ≡ fields_in s.base.definitions image.relation)
      → sum_by (pages_of_image definitions later) (finite.values definitions.images) ≤ sum_by (pages_of_image s.base.definitions (saved_now s)) (finite.values s.base.definitions.images)
  images_stay same stays = subst (λ (m : finite.FinMap name_cmp ImageDef). sum_by (pages_of_image definitions later) (finite.values m) ≤ sum_by (pages_of_image s.base.definitions (saved_now s)) (finite.values s.base.definitions.images)) (sym same)
      (sum_le_in (pages_of_image definitions later) (pages_of_image s.base.definitions (saved_now s)) (finite.values s.base.definitions.images) (λ image is. pages_le s.base.definitions image (let at = valued (finite.entries s.base.definitions.images) image is in stays at.0 image (got_in name_total name_apart s.base.definitions.images at.0 image at.1))))
    where
      valued : (es : List (Name × ImageDef)) (image : ImageDef) → In image (map (λ e. e.1) es) → (name : Name) × In (name, image) es
      valued [] image is = absurd is
      valued (e ∷ es) image (inl f) = (e.0, inl (λ i. (e.0, f i)))
      valued (e ∷ es) image (inr is) = let rest = valued es image is in (rest.0, inr rest.1)

module _ (s : State) (kept : Kept s) (metered : IsMetered s) (none : s.changes ≡ []) where
  fit : Fits s.size.slots s.base
  fit = base_fits s kept.fit

  abbrev Meters : Tables → Type 0
  Meters next = IsMetered (redefined next s)

  none_of : {A : Type 0} (o : Option A) → is_some o ≡ false → o ≡ None
  none_of None is = refl
  none_of (Some a) is = absurd (cc (is))

  defined_room : (call : Call) (next : Tables) → refusal s call ≡ None → defined call s.base ≡ Some next → IsMetered (redefined next s)
  defined_room (MakeSegment name) next is so = subst Meters (same_Some _ _ so) (
      let fresh = holds_not (is_segment s name) _ (all_none (tests s (MakeSegment name)) is 1 None (omega arith)) in
      let d : Definitions = record s.base.definitions { segments = finite.insert s.base.definitions.segments name tt } in
      metered_defined s kept metered none (record s.base.definitions { segments = finite.insert s.base.definitions.segments name tt }) (rooms s kept metered none (record s.base.definitions { segments = finite.insert s.base.definitions.segments name tt })
      (heap_segment_made s.size.slots s.base.definitions name s.base.contents (none_of _ fresh) (λ q relation at same. true≢false (sym (fit.definitions.relations q relation at).segment ∙ ap (λ (n : Name). is_some (finite.get s.base.definitions.segments n)) same ∙ fresh)))
      (images_stay s kept metered none (record s.base.definitions { segments = finite.insert s.base.definitions.segments name tt }) refl (λ q image at. refl))))
  defined_room (DropSegment name) next is so = subst Meters (same_Some _ _ so)
      (metered_defined s kept metered none (record s.base.definitions { segments = finite.remove s.base.definitions.segments name }) (rooms s kept metered none (record s.base.definitions { segments = finite.remove s.base.definitions.segments name })
      (heap_segment_gone s.size.slots s.base.definitions name s.base.contents)
      (images_stay s kept metered none (record s.base.definitions { segments = finite.remove s.base.definitions.segments name }) refl (λ q image at. refl))))
  defined_room (MakeRelation name segment fields) next is so = subst Meters (same_Some _ _ so) (
      let fresh = (or_none (is_relation s name) _ (holds_not (is_relation s name || has_twice (field_names fields)) _ (all_none (tests s (MakeRelation name segment fields)) is 2 None (omega arith)))).0 in
      let other = λ (q : Name) (there : is_some (finite.get s.base.definitions.relations q) ≡ true) (same : q ≡ name). true≢false (sym there ∙ ap (λ (n : Name). is_some (finite.get s.base.definitions.relations n)) same ∙ fresh) in
      metered_defined s kept metered none (record s.base.definitions { relations = finite.insert s.base.definitions.relations name (relation_def segment fields) }) (rooms s kept metered none (record s.base.definitions { relations = finite.insert s.base.definitions.relations name (relation_def segment fields) })
      (heap_relations s.size.slots s.base.definitions (finite.insert s.base.definitions.relations name (relation_def segment fields)) s.base.contents (λ page relation has. let one = on_page s.base.contents page relation has in
      made_other s.base.definitions.relations name (relation_def segment fields) relation (other relation (live_defined fit relation one.0 one.1))))
      (images_stay s kept metered none (record s.base.definitions { relations = finite.insert s.base.definitions.relations name (relation_def segment fields) }) refl (λ q image at.
      same_fields s.base.definitions (record s.base.definitions { relations = finite.insert s.base.definitions.relations name (relation_def segment fields) }) image.relation (made_other s.base.definitions.relations name (relation_def segment fields) image.relation (other image.relation (fit.definitions.paths.images q image at).relation))))))
  defined_room (DropRelation name) next is so = subst Meters (same_Some _ _ so) (
      let last = or_none (holds_tuples s name || has_image s name) (has_link s name) (holds_not ((holds_tuples s name || has_image s name) || has_link s name) _ (all_none (tests s (DropRelation name)) is 2 None (omega arith))) in
      let first = or_none (holds_tuples s name) (has_image s name) last.0 in
      let few = leb-false 1 (tuple_count s.base.contents name) first.0 in
      metered_defined s kept metered none (record s.base.definitions { relations = finite.remove s.base.definitions.relations name }) (rooms s kept metered none (record s.base.definitions { relations = finite.remove s.base.definitions.relations name })
      (heap_relations s.size.slots s.base.definitions (finite.remove s.base.definitions.relations name) s.base.contents (λ page relation has. let one = on_page s.base.contents page relation has in
      gone_other s.base.definitions.relations name relation (λ same. true≢false (sym one.1 ∙ ap (λ (n : Name). is_some (content s.base.contents (Tuple n one.0))) same ∙ ap is_some (none_counted s.base.contents name (omega (arith, few)) one.0)))))
      (images_stay s kept metered none (record s.base.definitions { relations = finite.remove s.base.definitions.relations name }) refl (λ q image at.
      same_fields s.base.definitions (record s.base.definitions { relations = finite.remove s.base.definitions.relations name }) image.relation (gone_other s.base.definitions.relations name image.relation (λ same.
      false_true (subst (λ (n : Name). eq_by_cmp name_cmp name n ≡ true) (sym same) (tied name_total name_apart name)) (none_any (is_image_of name) (finite.values s.base.definitions.images) first.1 image (in_values s.base.definitions.images q image at))))))))
  defined_room (MakeImage name relation unique fields) next is so = subst Meters (same_Some _ _ so) (
      let d = with_image s.base.definitions name (image_def relation unique fields) in
      let fits = lt_not s.size.slots (room_number (with_image s.base.definitions name (image_def relation unique fields)) (saved_now s)) _ (all_none (tests s (MakeImage name relation unique fields)) is 8 None (omega arith)) in
      let images = sum_le_in (pages_of_image (with_image s.base.definitions name (image_def relation unique fields)) (later s kept metered none (with_image s.base.definitions name (image_def relation unique fields)))) (pages_of_image (with_image s.base.definitions name (image_def relation unique fields)) (saved_now s)) (finite.values (with_image s.base.definitions name (image_def relation unique fields)).images)
      (λ image at. pages_le s kept metered none (with_image s.base.definitions name (image_def relation unique fields)) (with_image s.base.definitions name (image_def relation unique fields)) image refl) in
      let heap = heap_paths s.size.slots s.base.definitions (finite.insert s.base.definitions.images name (image_def relation unique fields)) s.base.definitions.links s.base.contents in
      metered_defined s kept metered none (with_image s.base.definitions name (image_def relation unique fields)) (omega (arith, fits, images, heap, ap (heap_pages s.size.slots) (same_now s kept metered none (with_image s.base.definitions name (image_def relation unique fields))))))
  defined_room (MakeLink name parent child) next is so = subst Meters (same_Some _ _ so)
      (metered_defined s kept metered none (record s.base.definitions { links = finite.insert s.base.definitions.links name (link_def parent child) }) (rooms s kept metered none (record s.base.definitions { links = finite.insert s.base.definitions.links name (link_def parent child) })
      (omega (arith, heap_paths s.size.slots s.base.definitions s.base.definitions.images (finite.insert s.base.definitions.links name (link_def parent child)) s.base.contents))
      (images_stay s kept metered none (record s.base.definitions { links = finite.insert s.base.definitions.links name (link_def parent child) }) refl (λ q image at. refl))))
  defined_room (DropLink name) next is so = subst Meters (same_Some _ _ so)
      (metered_defined s kept metered none (record s.base.definitions { links = finite.remove s.base.definitions.links name }) (rooms s kept metered none (record s.base.definitions { links = finite.remove s.base.definitions.links name })
      (omega (arith, heap_paths s.size.slots s.base.definitions s.base.definitions.images (finite.remove s.base.definitions.links name) s.base.contents))
      (images_stay s kept metered none (record s.base.definitions { links = finite.remove s.base.definitions.links name }) refl (λ q image at. refl))))
  defined_room (DropImage name) next is so = subst Meters (same_Some _ _ so) (
      let d = record s.base.definitions { images = finite.remove s.base.definitions.images name } in
      let fewer = remove_sum (pages_of_image s.base.definitions (saved_now s)) (λ e. e.1) s.base.definitions.images name in
      let images = sum_le_in (pages_of_image (record s.base.definitions { images = finite.remove s.base.definitions.images name }) (later s kept metered none (record s.base.definitions { images = finite.remove s.base.definitions.images name }))) (pages_of_image s.base.definitions (saved_now s)) (finite.values (finite.remove s.base.definitions.images name))
      (λ image at. pages_le s kept metered none (record s.base.definitions { images = finite.remove s.base.definitions.images name }) s.base.definitions image refl) in
      metered_defined s kept metered none (record s.base.definitions { images = finite.remove s.base.definitions.images name }) (rooms s kept metered none (record s.base.definitions { images = finite.remove s.base.definitions.images name })
      (omega (arith, heap_paths s.size.slots s.base.definitions (finite.remove s.base.definitions.images name) s.base.definitions.links s.base.contents)) (omega (arith, fewer, images))))
  defined_room call next is so = absurd (cc (so))

pub steps_keep_room : StepsKeepRoom
steps_keep_room old new call answer step kept metered = room_by old new call answer step
    (λ next is so. defined_room old kept metered (none_changed kept (none_open old call next is so)) call next is so) kept metered
