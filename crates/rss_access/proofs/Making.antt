-- How a change of a tuple is made: where it is refused, and what was done.
use Rattle.std.proofs.Common.{◌≡◌, inl, inr, ℕ, ◌+◌, ◌*◌, ◌^◌, ◌≤◌, true, false, List, ◌∷◌, length, length-append, refl, sym, ◌∙◌, ap, subst, arith, ◌<◌}
use Rattle.std.specs.Prelude.{Option, Some, None, is_some, option_map, Result, Ok, Err, IsErrAnd}
use Rattle.std.specs.Ordering.{eq_by_cmp}
use Rattle.std.specs.Cmp.{Equal-is}
use Rattle.std.proofs.Math.Logic.{∥∥₁_map}
use Rattle.std.proofs.lemmas.Bool.{cases_Bool, true≢false}
use Rattle.rss_base.specs.DiskRule.{IsTold}
use Rattle.rss_base.specs.Paged.{page_key}
use Rattle.rss_base.specs.Steps.{PagesView, PagesStep, PagesCall, Keys, AreCounted, no_page}
use Rattle.rss_base.specs.Prefixes.{prefix_size}
use Rattle.rss_base.specs.TupleTypes.{kinds, SpellsSome}
use Rattle.rss_base.specs.Listings.{Listing, ListingFits, numbered, names_of, relation_at, with_relation, with_count}
use Rattle.rss_base.specs.declared.name.Name.{Name}
use Rattle.rss_base.specs.declared.tid.Tid.{Tid}
use Rattle.rss_base.specs.declared.field.FieldDef.{FieldDef}
use Rattle.rss_base.specs.declared.item.Item.TheVariants.{Tuple as TupleItem}
use Rattle.rss_base.specs.declared.key.PageKey.{PageKey}
use Rattle.rss_base.specs.declared.key.Space.TheVariants.{Image}
use Rattle.rss_base.specs.declared.place.Place.{Place}
use Rattle.rss_base.specs.declared.place.Place.TheVariants.{Tuple as TuplePlace, Count as CountPlace}
use Rattle.rss_base.specs.declared.fault.PageFault.{PageFault}
use Rattle.rss_base.specs.declared.fault.PageFault.TheVariants.{Damaged}
use Rattle.rss_base.specs.declared.refusal.Kind.TheVariants.{Relation as RelationKind}
use Rattle.rss_base.specs.declared.relation.RelationEntry.{RelationEntry}
use Rattle.rss_base.specs.declared.change.Change as told
use Rattle.rss_base.specs.declared.change.Change.TheVariants.{Insert as Inserts, Delete as Deletes, Update as Updates, Connect, Disconnect}
use Rattle.rss_base.proofs.Steps.{within, widens, among, then, untouched, all_mapped}
use Rattle.rss_value.proofs.Spelling.{length-tuple_bytes}
use Rattle.rss_tuple.specs.Checked.{pages_of}
use Rattle.rss_tuple.specs.Heaps.{AreHeaps}
use Rattle.rss_tuple.proofs.Changes.{spare_after}
use Rattle.rss_catalog.specs.Catalogs.{CatalogView, HasImageOf, IsSafe}
use Rattle.rss_entries.specs.Rooms.{images_room, image_places, images_cost}
use Rattle.rss_entries.specs.Images.{TupleMove, CanMove, after_move}
use Rattle.rss_model.specs.Items.{Values, name_cmp}
use Rattle.rss_model.specs.Tables.{Tables, tuple_count}
use Rattle.rss_stored.specs.Store.{SpellsTables, SpellsImages, AreNodesWithin, prefix_of}
use Rattle.rss_model.proofs.Codes.{name_apart}
use Rattle.rss_model.specs.Fits.{IsLive, IsIdentifier}
use Rattle.rss_model.proofs.Contents.{content_elsewhere}
use Rattle.rss_model.proofs.Counts.{counts_same}
use Rattle.rss_model.proofs.LogLists.{some_of}
use Rattle.rss_model.proofs.Putting.{same_parts}
use Rattle.rss_stored.proofs.Relisted.{number_of}
use Rattle.rss_access.specs.declared.edit.Edit.{Edit}
use Rattle.rss_access.specs.declared.edit.Edit.TheVariants.{Insert, Delete, Update}
use Rattle.rss_access.specs.declared.edit.TupleChange.{TupleChange}
use Rattle.rss_access.specs.Edits.{told_of, told_by}
use Rattle.rss_access.specs.Alterations.{IsFront, IsFound, with_front}
use Rattle.rss_access.specs.Told.{IsTupleRecord, number_told, tid_told, values_before, values_after, body_before, body_after, count_after, AreValuesOf, MayBecome, MayCount}
use Rattle.rss_access.specs.Changes.{CanAlter, HasTables, HasRoom, AccessView, both, image_pages_of, own_image_pages, ShowsMove, MayMoveAll, MovesAll, AllNodesStay, AltersTuple, Alters, Makes, Misfits, pages_told, alter_cost}
use Rattle.rss_access.specs.Changes.Misfits.{tuple as tuple_misfits, room as room_misfits, count as count_misfits, unlisted}
use Rattle.rss_access.specs.Relisted.{KeepsSpelled, Rerooted, Recounted}
use Rattle.rss_access.specs.Tuples.{body_at, size_of_body, CanPut, IsShortBody, ChangesTuple}
use Rattle.rss_access.proofs.Numbered.{entry_at}
use Rattle.rss_access.proofs.Prefixed.{members_by, prefix_told}
use Rattle.rss_access.proofs.Relisting.{relists_counted}
use Rattle.rss_access.proofs.Altering.{pages_are_told, altered_spells, count_is}
use Rattle.rss_access.proofs.Between.{changes_looked, changes_imaged, heap_two, images_same, places_left}
use Rattle.rss_access.proofs.Imaged.{images_kept, images_counted, images_beside, nodes_kept, nodes_counted}
use Rattle.rss_access.proofs.Recounting.{same_or_other}
use Rattle.rss_entries.proofs.Places.{places_same}
use Rattle.rss_access.proofs.Rerooting.{rerooted_itself, recounts_rerooted}
use Rattle.rss_access.proofs.Showing.{HasMove, told_move, move, can_move, tuples_after, links_after, few_after}

-- ---- the change that is lent

number_of_edit : (number : ℕ) (tid : Tid) (edit : Edit) → number_told (told_of number tid edit) ≡ number
number_of_edit number tid (Insert values) = refl
number_of_edit number tid (Delete values) = refl
number_of_edit number tid (Update from to) = refl

tid_of_edit : (number : ℕ) (tid : Tid) (edit : Edit) → tid_told (told_of number tid edit) ≡ tid
tid_of_edit number tid (Insert values) = refl
tid_of_edit number tid (Delete values) = refl
tid_of_edit number tid (Update from to) = refl

tuple_of_edit : (number : ℕ) (tid : Tid) (edit : Edit) → IsTupleRecord (told_of number tid edit)
tuple_of_edit number tid (Insert values) = tt
tuple_of_edit number tid (Delete values) = tt
tuple_of_edit number tid (Update from to) = tt

pub number_by : (change : TupleChange) → number_told (told_by change) ≡ change.number
number_by change = number_of_edit change.number change.tid change.edit

pub tid_by : (change : TupleChange) → tid_told (told_by change) ≡ change.tid
tid_by change = tid_of_edit change.number change.tid change.edit

pub tuple_by : (change : TupleChange) → IsTupleRecord (told_by change)
tuple_by change = tuple_of_edit change.number change.tid change.edit

-- ---- what stands before the values

-- a body that begins so is one with that prefix
pub front_before : {listing : Listing} {change : told.Change} {front : List ℕ} → (of : IsFront listing change front) → with_front front (values_before change) ≡ body_before of.prefix change
front_before {change = change} of = ap (λ (front : List ℕ). with_front front (values_before change)) of.is

pub front_after : {listing : Listing} {change : told.Change} {front : List ℕ} → (of : IsFront listing change front) → with_front front (values_after change) ≡ body_after of.prefix change
front_after {change = change} of = ap (λ (front : List ℕ). with_front front (values_after change)) of.is

-- ---- relations

-- a number that is in use is that of a relation
pub used_listed : (listing : Listing) (number : ℕ) → is_some (numbered (names_of RelationKind listing) number) ≡ true → is_some (relation_at listing number) ≡ true
used_listed listing number used =
    let name = some_of (numbered (names_of RelationKind listing) number) used in
    ap is_some (entry_at listing name.0 number name.1).at

unused_listed : (listing : Listing) (number : ℕ) → is_some (numbered (names_of RelationKind listing) number) ≡ false → relation_at listing number ≡ None
unused_listed listing number unused = by (relation_at listing number) refl
  where
    by : (found : Option RelationEntry) → relation_at listing number ≡ found → found ≡ None
    by None is = refl
    by (Some relation) is = absurd (true≢false (sym (ap is_some (number_of listing number relation is)) ∙ unused))

pub listed_by : (change : TupleChange) (listing : Listing) {relation : RelationEntry} → relation_at listing change.number ≡ Some relation → relation_at listing (number_told (told_by change)) ≡ Some relation
listed_by change listing at = ap (relation_at listing) (number_by change) ∙ at

-- ---- where it is refused

module _ (change : TupleChange) (pages : PagesView) (catalog : CatalogView) where
  pub misfits_unlisted : is_some (numbered (names_of RelationKind catalog.listing) change.number) ≡ false → Misfits (told_by change) (both pages catalog) (CountPlace change.number)
  misfits_unlisted unused = subst (Misfits (told_by change) (both pages catalog)) (ap CountPlace (number_by change)) (unlisted (tuple_by change) (ap (relation_at catalog.listing) (number_by change) ∙ unused_listed catalog.listing change.number unused))

  module _ (relation : RelationEntry) (at : relation_at catalog.listing change.number ≡ Some relation) where
    pub misfits_tuple : (((front : List ℕ) → IsFront catalog.listing (told_by change) front → IsFound (told_by change) (body_at pages relation.segment change.tid) front → MayBecome pages.slots catalog.listing relation.fields (told_by change) → ⊥)) → Misfits (told_by change) (both pages catalog) (TuplePlace relation.segment change.tid)
    misfits_tuple not = subst (Misfits (told_by change) (both pages catalog)) (ap (TuplePlace relation.segment) (tid_by change))
        (tuple_misfits (tuple_by change) (listed_by change catalog.listing at) (λ prefix fitting stands. not (number_told (told_by change) ∷ prefix) (record { prefix = prefix; fitting = fitting; is = refl }) (ap (body_at pages relation.segment) (sym (tid_by change)) ∙ stands)))

    pub misfits_room : (HasRoom (both pages catalog) change.number → ⊥) → Misfits (told_by change) (both pages catalog) (TuplePlace relation.segment change.tid)
    misfits_room not = subst (Misfits (told_by change) (both pages catalog)) (ap (TuplePlace relation.segment) (tid_by change))
        (room_misfits (tuple_by change) (listed_by change catalog.listing at) (λ room. not (subst (HasRoom (both pages catalog)) (number_by change) room)))

    pub misfits_count : {front : List ℕ} → IsFront catalog.listing (told_by change) front → IsFound (told_by change) (body_at pages relation.segment change.tid) front → (MayCount (told_by change) relation.live → ⊥) → Misfits (told_by change) (both pages catalog) (CountPlace change.number)
    misfits_count of stands not = subst (Misfits (told_by change) (both pages catalog)) (ap CountPlace (number_by change))
        (count_misfits (tuple_by change) (listed_by change catalog.listing at) of.fitting (ap (body_at pages relation.segment) (tid_by change) ∙ stands ∙ front_before of) not)

-- ---- what was made

tuple_alters : {old new : AccessView} (told_change : told.Change) → IsTupleRecord told_change → AltersTuple told_change old new → Alters told_change old new
tuple_alters (Inserts number tid values) is alters = alters
tuple_alters (Deletes number tid values) is alters = alters
tuple_alters (Updates number tid from to) is alters = alters
tuple_alters (Connect link parent child left) is alters = absurd is
tuple_alters (Disconnect link parent child left) is alters = absurd is

-- ---- how it ends

same_place : {T : Type 0} {a b : Place} → ◌≡◌ {A = Result T PageFault} (Err (Damaged a)) (Err (Damaged b)) → a ≡ b
same_place is = cc

module _ {T : Type 0} {change : told.Change} {old new : AccessView} where
  -- it can't be made, which a look at the pages has shown
  pub damaged_makes : {place : Place} → PagesStep no_page 2 2 old.pages new.pages → new.catalog ≡ old.catalog → (IsTold old.pages.disk → HasTables old → Misfits change old place) → Makes {T = T} change old new (Err (Damaged place))
  damaged_makes {place = place} looked same misfits = record {
    alters = tt;
    still = tt;
    takes = tt;
    relists = tt;
    step = within (λ key is. absurd is) (omega arith) (omega arith) looked;
    rerooted = subst (Rerooted old.catalog) (sym same) (rerooted_itself old.catalog);
    failed = λ is. absurd (cc);
    memory = λ is. absurd (cc);
    damaged = λ at is on has. subst (Misfits change old) (same_place is) (misfits on has);
    kept = λ at is on. within (λ key no. no) (omega arith) (omega arith) looked;
  }

  -- a call below failed
  pub fails_makes : (fault : PageFault) (result : Result T PageFault) → IsErrAnd result (λ why. why ≡ fault) → PagesCall {T = T} (pages_told old.catalog.listing change) (alter_cost old.pages.slots) (alter_cost old.pages.slots) old.pages new.pages result → Rerooted old.catalog new.catalog → Makes change old new result
  fails_makes fault (Ok value) is call rerooted = absurd is
  fails_makes fault (Err e) is call rerooted = record {
    alters = tt;
    still = tt;
    takes = tt;
    relists = tt;
    step = call.step;
    rerooted = rerooted;
    failed = call.failed;
    memory = call.memory;
    damaged = λ place at on. absurd (call.sound place at on);
    kept = λ place at on. absurd (call.sound place at on);
  }

  done_makes : (value : T) → image_places old.pages ≤ image_places new.pages + 2 → PagesStep (pages_told old.catalog.listing change) (alter_cost old.pages.slots) (alter_cost old.pages.slots) old.pages new.pages → (is : IsTupleRecord change) → AltersTuple change old new → CanAlter new → Makes {T = T} change old new (Ok value)
  done_makes value places step is alters still = record {
    alters = tuple_alters change is alters;
    still = still;
    takes = record { heap = heap_two step.passes.slots alters.changes; places = places };
    relists = relists_counted change is alters.listed alters.counts;
    step = step;
    rerooted = tt;
    failed = λ is. absurd (cc);
    memory = λ is. absurd (cc);
    damaged = λ place is on. absurd (cc);
    kept = λ place is on. absurd (cc);
  }

-- ---- what may be put

-- the pages may still be changed after a look
pub can_put : {old mid : PagesView} → PagesStep no_page 2 2 old mid → 2 ≤ old.spare → (IsTold old.disk → AreHeaps mid) → AreCounted old → AreCounted mid → CanPut mid
can_put looked spare heaps before now = record {
  heaps = λ told. heaps (looked.passes.leaves.told.1 told);
  spare = omega (arith, spare, spare_after looked (all_mapped looked) before now);
}

-- slots and fields by other names
pub may_become_as : {slots slots_too : ℕ} {listing : Listing} {fields fields_too : List FieldDef} {told_change : told.Change} → slots ≡ slots_too → fields ≡ fields_too → MayBecome slots listing fields told_change → MayBecome slots_too listing fields_too told_change
may_become_as {slots_too = slots_too} {listing = listing} {fields = fields} {told_change = told_change} same_slots same_fields may =
    subst (λ (f : List FieldDef). MayBecome slots_too listing f told_change) same_fields (subst (λ (n : ℕ). MayBecome n listing fields told_change) same_slots may)

-- a prefix leaves room for values
pub few_prefix : (change : TupleChange) {slots : ℕ} {listing : Listing} {fields : List FieldDef} → MayBecome slots listing fields (told_by change) → prefix_size listing.links change.number ≤ 288
few_prefix change {listing = listing} may = let same = ap (prefix_size listing.links) (number_by change) in omega (arith, may.short, same)

pub short_prefix : (change : TupleChange) {slots : ℕ} {listing : Listing} {fields : List FieldDef} → MayBecome slots listing fields (told_by change) → 1 + prefix_size listing.links change.number ≤ 289
short_prefix change {listing = listing} may = let same = ap (prefix_size listing.links) (number_by change) in omega (arith, may.short, same)

-- values that are spelled are not too long for what is left of a page
short_bytes : (relation : RelationEntry) (bytes : List ℕ) → IsSafe relation → SpellsSome (kinds relation.fields) bytes → length bytes ≤ 2048
short_bytes relation bytes safe (values, spells) = omega (arith, length-tuple_bytes (kinds relation.fields) values spells.fit, safe.narrow, ap (λ (b : List ℕ). length b) spells.same)

short_values : (relation : RelationEntry) → IsSafe relation → (told_change : told.Change) → AreValuesOf relation.fields told_change → size_of_body (values_after told_change) ≤ 2048
short_values relation safe (Inserts number tid values) are = short_bytes relation values safe are
short_values relation safe (Deletes number tid values) are = omega arith
short_values relation safe (Updates number tid from to) are = short_bytes relation to safe are.1
short_values relation safe (Connect link parent child left) are = omega arith
short_values relation safe (Disconnect link parent child left) are = omega arith

pub short_body : (relation : RelationEntry) → IsSafe relation → {listing : Listing} (told_change : told.Change) {front : List ℕ} → IsFront listing told_change front → {slots : ℕ} → MayBecome slots listing relation.fields told_change → IsShortBody (with_front front (values_after told_change))
short_body relation safe told_change {front = front} of may = by (values_after told_change) (short_values relation safe told_change may.values)
  where
    long : length front ≡ 1 + length of.prefix
    long = let same = ap (λ (b : List ℕ). length b) of.is in omega (arith, same)

    by : (values : Option (List ℕ)) → size_of_body values ≤ 2048 → size_of_body (with_front front values) ≤ 2400
    by None short = omega arith
    by (Some bytes) short = omega (arith, short, length-append front bytes, long, of.fitting.long, may.short)

-- ---- the pages that are touched

module _ (change : TupleChange) (listing : Listing) {relation : RelationEntry} (at : relation_at listing change.number ≡ Some relation) where
  pub heap_told : (key : PageKey) → pages_of relation.segment key → pages_told listing (told_by change) key
  heap_told key is = pages_are_told listing (told_by change) (tuple_by change) (listed_by change listing at) key is.0 (inl is.1)

  own_image : (key : PageKey) → own_image_pages listing change.number key → key ≡ page_key relation.segment Image key.number
  own_image key is = subst (λ (found : Option RelationEntry). image_pages_of found key) at is.0

  image_space : (key : PageKey) → own_image_pages listing change.number key → key.space ≡ Image
  image_space key is = ap (λ (k : PageKey). k.space) (own_image key is)

  pub images_told : (key : PageKey) → own_image_pages listing change.number key → pages_told listing (told_by change) key
  images_told key is =
      let image = is.1 in
      pages_are_told listing (told_by change) (tuple_by change) (listed_by change listing at) key (ap (λ (k : PageKey). k.segment) (own_image key is)) (inr (image_space key is, record { number = image.number; image = image.image; at = image.at }))

-- more pages may be touched by a call
pub widens_to : {T : Type 0} {touched more : Keys} {asks outs : ℕ} {old new : PagesView} {result : Result T PageFault} → ((key : PageKey) → touched key → more key) → PagesCall touched asks outs old new result → PagesCall more asks outs old new result
widens_to is call = widens is (omega arith) (omega arith) call

-- ---- where the relation has no images

-- all of them show the tables after the change
pub none_moves : (pages : PagesView) (catalog : CatalogView) (change : TupleChange) → (HasImageOf catalog.listing change.number → ⊥) → MovesAll (both pages catalog) (both pages catalog) (told_by change)
none_moves pages catalog change none move tables shows =
    let same : move.number ≡ change.number = sym shows.tells.number ∙ number_by change in
    images_beside shows.can.fits move.number move.relation shows.can.listed (λ has. none (subst (HasImageOf catalog.listing) same has)) move.tid move.next shows.images

-- ---- what was done

module _ (change : TupleChange) {first mid put : PagesView} {before : CatalogView} {relation : RelationEntry} (at : relation_at before.listing change.number ≡ Some relation) (counted_first : AreCounted first) (counted_put : AreCounted put) (looked : PagesStep no_page 2 2 first mid) {front : List ℕ} (of : IsFront before.listing (told_by change) front) (found : IsTold first.disk → IsFound (told_by change) (body_at first relation.segment change.tid) front) (room : HasRoom (both first before) change.number) (may : MayBecome first.slots before.listing relation.fields (told_by change)) (small : first.slots < 2 ^ 32) (can : CanAlter (both first before))
    (putted : PagesStep (pages_of relation.segment) (3 * mid.slots + 7) (3 * mid.slots + 7) mid put) (changes : ChangesTuple relation.segment change.tid (with_front front (values_after (told_by change))) mid put) where
  listed : relation_at before.listing (number_told (told_by change)) ≡ Some relation
  listed = listed_by change before.listing at

  found_told : IsTold first.disk → body_at first relation.segment (tid_told (told_by change)) ≡ body_before of.prefix (told_by change)
  found_told told = ap (body_at first relation.segment) (tid_by change) ∙ found told ∙ front_before of

  put_step : PagesStep (pages_of relation.segment) (2 + (3 * mid.slots + 7)) (2 + (3 * mid.slots + 7)) first put
  put_step = then (untouched looked) putted

  changes_put : ChangesTuple relation.segment change.tid (body_after of.prefix (told_by change)) first put
  changes_put = subst (λ (body : Option (List ℕ)). ChangesTuple relation.segment change.tid body first put) (front_after of) (changes_looked looked changes)

  room_put : images_room before.listing change.number ≤ image_places put
  room_put = omega (arith, room, places_left put_step changes_put counted_first counted_put)

  -- the image pages show then what they did
  shows_put : IsTold first.disk → {move : TupleMove} {tables : Tables} → ShowsMove (both first before) (told_by change) move tables → ShowsMove (both put before) (told_by change) move tables
  shows_put told shows = record {
    tells = shows.tells;
    can = shows.can;
    images = images_kept (images_same put_step told) shows.images;
    room = subst (λ (n : ℕ). images_room before.listing n ≤ image_places put) (sym (number_by change) ∙ shows.tells.number) room_put;
  }

  -- those that the pages spell
  shows_spelled : (told : IsTold first.disk) (has : HasTables (both first before)) → ShowsMove (both put before) (told_by change) (move (told_by change) relation listed of.fitting (found_told told) may small has) has.tables
  shows_spelled told has =
      let values = told_move (told_by change) relation listed of.fitting (found_told told) may small has in
      shows_put told (record {
        tells = record { number = refl; tid = refl; before = values.before; after = values.after };
        can = can_move (told_by change) relation listed of.fitting (found_told told) may small has;
        images = has.spells.images;
        room = subst (λ (n : ℕ). images_room before.listing n ≤ image_places first) (sym (number_by change)) (omega (arith, room));
      })

  -- so the entries of the tuple can be moved
  pub may_move : IsTold put.disk → ∥ MayMoveAll (both put before) (told_by change) ∥₁
  may_move told_put =
      let told = put_step.passes.leaves.told.1 told_put in
      ∥∥₁_map (can.tables told)
      (λ has. record { move = move (told_by change) relation listed of.fitting (found_told told) may small has; tables = has.tables; shows = shows_spelled told has })

  module _ {moved : PagesView} {between after : CatalogView} (counted_moved : AreCounted moved) (moves : IsTold put.disk → MovesAll (both put before) (both moved between) (told_by change)) (stay : IsTold put.disk → AllNodesStay (both put before) (both moved between) (told_by change)) (rerooted : Rerooted before between) (step : PagesStep (own_image_pages before.listing change.number) images_cost images_cost put moved) (count : ℕ) (count_is_so : count ≡ count_after (told_by change) relation.live) (may_count : MayCount (told_by change) relation.live)
      (lists : (entry : RelationEntry) → relation_at between.listing change.number ≡ Some entry → after.listing ≡ with_relation between.listing change.number (Some (with_count count entry))) (keeps : KeepsSpelled between after) (fits : ListingFits between.listing → ListingFits after.listing) where
    at_between : relation_at between.listing change.number ≡ Some relation
    at_between = ap (λ (l : List (Option RelationEntry)). numbered l change.number) rerooted.relations ∙ at

    all_steps : PagesStep (pages_told before.listing (told_by change)) (alter_cost first.slots) (alter_cost first.slots) first moved
    all_steps = within (λ key is. is) (omega (arith, looked.passes.slots)) (omega (arith, looked.passes.slots)) (then (among (heap_told change before.listing at) put_step) (among (images_told change before.listing at) step))

    moves_all : IsTold first.disk → MovesAll (both first before) (both moved after) (told_by change)
    moves_all told a_move tables shows =
        let then_images = moves (put_step.passes.leaves.told.0 told) a_move tables (shows_put told shows) in
        subst (λ (l : Listing). SpellsImages moved.held l (after_move a_move tables)) (sym (lists relation at_between)) (images_counted between.listing change.number count relation at_between then_images)

    counts : Recounted (number_told (told_by change)) (count_after (told_by change) relation.live) relation before after
    counts =
        subst (λ (n : ℕ). Recounted n (count_after (told_by change) relation.live) relation before after) (sym (number_by change))
        (subst (λ (live : ℕ). Recounted change.number live relation before after) count_is_so (recounts_rerooted change.number count relation rerooted (lists relation at_between) keeps fits))

    alters : AltersTuple (told_by change) (both first before) (both moved after)
    alters = record {
      relation = relation;
      prefix = of.prefix;
      fitting = of.fitting;
      listed = listed;
      small = small;
      room = subst (HasRoom (both first before)) (sym (number_by change)) room;
      found = found_told;
      changes = subst (λ (tid : Tid). ChangesTuple relation.segment tid (body_after of.prefix (told_by change)) first moved) (sym (tid_by change)) (changes_imaged (image_space change before.listing at) step put_step.passes.leaves.told.0 changes_put);
      counts = counts;
      images = moves_all;
    }

    -- the pages spell tables still, where they spelled some
    has_still : IsTold first.disk → HasTables (both first before) → HasTables (both moved after)
    unfolding alters
    has_still told has = record {
      tables = after_move moving has.tables;
      spells = spells;
      tuples = tuples_after (told_by change) relation listed of.fitting (found_told told) may small has;
      tids = tids;
      few = few;
      links = links_after (told_by change) relation listed of.fitting (found_told told) may small has;
      nodes = nodes;
    }
      where
        values : HasMove relation.fields (told_by change)
        values = told_move (told_by change) relation listed of.fitting (found_told told) may small has

        moving : TupleMove
        moving = move (told_by change) relation listed of.fitting (found_told told) may small has

        can_be : CanMove before.listing moving has.tables
        can_be = can_move (told_by change) relation listed of.fitting (found_told told) may small has

        mine : prefix_of before.listing has.tables.contents (number_told (told_by change)) (tid_told (told_by change)) ≡ of.prefix
        mine = prefix_told (members_by small has.spells has.tuples has.links has.tids) (told_by change) relation listed values.was can_be.holds values.before of.fitting (found_told told)

        spells : SpellsTables moved.held after.listing (after_move moving has.tables)
        spells = altered_spells (tuple_by change) all_steps alters told has.spells mine values.was values.next values.before values.after can_be

        own : tuple_count (after_move moving has.tables).contents relation.name ≤ 2 ^ 20
        own =
            let live : relation.live ≤ 2 ^ 20 = omega (arith, has.few relation.name, has.spells.counts change.number relation at) in
            omega (arith, count_is (tuple_by change) all_steps alters told has.spells mine values.was values.next values.before values.after can_be, few_after (told_by change) relation.live may_count live)

        -- the tuple's own identifier, or one that was there
        tids : (name : Name) (t : Tid) → IsLive (after_move moving has.tables) name t → IsIdentifier moved.slots t
        tids name t live = subst (λ (n : ℕ). IsIdentifier n t) (sym all_steps.passes.slots) (elim (same_or_other (TupleItem name t) (TupleItem relation.name (tid_told (told_by change)))) [
          | inl same ↦ subst (IsIdentifier first.slots) (sym (same_parts name relation.name t (tid_told (told_by change)) same).1) may.named
          | inr other ↦ has.tids name t (sym (ap is_some (content_elsewhere has.tables.contents (TupleItem relation.name (tid_told (told_by change))) (option_map Values values.next) (TupleItem name t) other)) ∙ live)
        ])

        -- the identifiers in nodes are those that were there, and the tuple's own
        nodes : AreNodesWithin moved.slots moved.held after.listing
        nodes =
            let at_put = nodes_kept (images_same put_step told) has.nodes in
            let at_moved = stay (put_step.passes.leaves.told.0 told) moving has.tables (shows_spelled told has) first.slots may.named.page at_put in
            subst (λ (n : ℕ). AreNodesWithin n moved.held after.listing) (sym all_steps.passes.slots)
            (subst (λ (l : Listing). AreNodesWithin first.slots moved.held l) (sym (lists relation at_between)) (nodes_counted between.listing change.number count relation at_between at_moved))

        few : (name : Name) → tuple_count (after_move moving has.tables).contents name ≤ 2 ^ 20
        few name = elim (cases_Bool (eq_by_cmp name_cmp name relation.name)) [
          | inl same ↦ subst (λ (n : Name). tuple_count (after_move moving has.tables).contents n ≤ 2 ^ 20) (sym (name_apart name relation.name ((Equal-is (name_cmp name relation.name)).0 same))) own
          | inr off ↦ omega (arith, has.few name, counts_same has.tables.contents (TupleItem relation.name (tid_told (told_by change))) (option_map Values values.next) name off)
        ]

    -- images have two places fewer at most
    places : image_places first ≤ image_places moved + 2
    places =
        let same = places_same relation.segment put moved counted_put counted_moved (among (own_image change before.listing at) step) in
        omega (arith, same, places_left put_step changes_put counted_first counted_put)

    pub made : Makes {T = Unit {0}} (told_by change) (both first before) (both moved after) (Ok tt)
    made = done_makes tt places all_steps (tuple_by change) alters (record {
      heaps = λ told. (alters.changes.sets (all_steps.passes.leaves.told.1 told)).heaps;
      tables = λ told. let told_first = all_steps.passes.leaves.told.1 told in ∥∥₁_map (can.tables told_first) (has_still told_first);
    })
