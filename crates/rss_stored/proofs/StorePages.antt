-- The pages of a store: how many there are, and that each has room in two slots.
use Rattle.std.proofs.Common.{◌≡◌, inl, inr, ℕ, zero, suc, ◌+◌, ◌*◌, ◌<◌, ◌≤◌, Bool, true, cond, List, [], ◌∷◌, length, Option, Some, None, refl, sym, ◌∙◌, ap, subst, arith}
use Rattle.std.specs.Prelude.{IfSome, is_some, option_map, count_by, sum_by, map as list_map}
use Rattle.std.specs.FinMap as finite
use Rattle.std.specs.FinMap.{FinMap}
use Rattle.std.specs.List.{range_with_len}
use Rattle.std.proofs.lemmas.Bool.{cases_lt}
use Rattle.std.proofs.lemmas.List.{get_or_past}
use Rattle.std.proofs.lemmas.List.Sums.{sum_by-cons, sum_by-le-sum_by}
use Rattle.std.proofs.lemmas.Option.{none-some}
use Rattle.rss_base.specs.DiskRule.{Pages, page}
use Rattle.rss_base.specs.Layout.{map_at, slots_at, log_free}
use Rattle.rss_base.specs.Listings.{Listing, HoldsListing}
use Rattle.rss_base.specs.PageMap.{IsKey, IsMap, owner_of, page_count}
use Rattle.rss_base.specs.Paged.{Mapped, page_key, mapped_in, mapped_of, mapped_pages}
use Rattle.rss_base.specs.Sizes.{system_pages}
use Rattle.rss_base.specs.StoredPages.{slot_of, mapped_by, held_at}
use Rattle.rss_base.specs.declared.key.PageKey.{PageKey}
use Rattle.rss_base.specs.declared.key.Space.TheVariants.{Home, Overflow, Image, System}
use Rattle.rss_base.specs.declared.name.Name.{Name}
use Rattle.rss_base.specs.declared.root.Root.{Root}
use Rattle.rss_base.proofs.Counts.{mapped_pages-owners}
use Rattle.rss_model.specs.Items.{name_cmp}
use Rattle.rss_model.specs.Tables.{ImageDef, Definitions, Tables, tuple_count}
use Rattle.rss_model.specs.Changes.{Change, maker}
use Rattle.rss_model.specs.Kept.{AreStamps, IsMetered}
use Rattle.rss_model.specs.Steps.{stamp_by}
use Rattle.rss_model.specs.Machine.{StoreSize, State, IsAtRest, with_changes, now}
use Rattle.rss_model.specs.Meanings.{Logged, as_entries, is_change}
use Rattle.rss_model.specs.Meter.{Meter, heap_pages, changes_of, entries_most, pages_of_image, room_number, owed, log_room, free_between}
use Rattle.rss_model.specs.Spares.{change_counts}
use Rattle.rss_model.specs.Recovers.{lists_at}
use Rattle.rss_stored.specs.Store.{Stored, meter_of, overflow_pages, pages_of_space, IsStore, StoresHaveRoom, OpeningsHaveRoom, OpeningsAreMetered}
use Rattle.rss_model.proofs.Heap.{no_entries}
use Rattle.rss_stored.proofs.FirstLog.{first_record}
use Rattle.rss_stored.proofs.Listed.{heap_is}
use Rattle.rss_stored.proofs.ImageRooms.{images_allowed}
use Rattle.rss_stored.proofs.Restarted.{recovered_pages, recovered_count}
use Rattle.rss_model.proofs.Saving.{more_pages}

-- ---- how many pages are mapped

abbrev count_of : Bool → ℕ
count_of b = cond b 1 0

all_zero : (f : ℕ → ℕ) (a n : ℕ) → ((j : ℕ) → f j ≡ 0) → sum_by f (range_with_len a n) ≡ 0
all_zero f a zero none = refl
all_zero f a (suc n) none = omega (arith, none a, all_zero f (a + 1) n none, sum_by-cons f a (range_with_len (a + 1) n))

all_one : (f : ℕ → ℕ) (a n : ℕ) → ((j : ℕ) → j < a + n → f j ≡ 1) → sum_by f (range_with_len a n) ≡ n
all_one f a zero each = refl
all_one f a (suc n) each = omega (arith, each a (omega arith), all_one f (a + 1) n (λ j lt. each j (omega (arith, lt))), sum_by-cons f a (range_with_len (a + 1) n))

-- those of each space, where all system pages are mapped
pub pages_split : (mapped : Mapped) (slots : ℕ) → ((number : ℕ) → number < system_pages → mapped (page_key 0 System number) ≡ true) → mapped_pages slots mapped ≡ mapped_of mapped Home slots + mapped_of mapped Overflow slots + mapped_of mapped Image slots + system_pages
unfolding mapped_pages
pages_split mapped slots system =
    let systems : mapped_in mapped System 10 0 ≡ 10 = all_one (λ n. count_of (mapped (page_key 0 System n))) 0 10 (λ n lt. ap count_of (system n lt)) in
    omega (arith, systems)

is_some_mapped : (f : ℕ → List ℕ) (o : Option ℕ) → is_some (option_map f o) ≡ is_some o
is_some_mapped f None = refl
is_some_mapped f (Some slot) = refl

-- exactly the pages of the map are held
pub held_mapped : (first : ℕ) (pages : Pages) (owners : List (Option PageKey)) (key : PageKey) → is_some (held_at first pages owners key) ≡ mapped_by owners key
held_mapped first pages owners key = is_some_mapped (λ slot. page pages (first + slot)) (slot_of owners key)

-- ---- the pages of a store

-- a map has only pages that there may be
pub map_allowed : {slots : ℕ} {pages : Pages} {first : ℕ} {owners : List (Option PageKey)} → IsMap slots pages first owners → (s : ℕ) (key : PageKey) → owner_of owners s ≡ Some key → IsKey slots key
map_allowed {slots = slots} {owners = owners} map s key owned = elim (cases_lt s (length owners)) [
  | inl low ↦ subst (λ (o : Option PageKey). IfSome o (IsKey slots)) owned (map.begins.entries s low).allowed
  | inr past ↦ absurd (none-some key (sym (get_or_past owners s None past) ∙ owned))
]

-- they are the pages of each space, and all those of the system space
pub owners_split : (root : Root) (owners : List (Option PageKey)) (pages : Pages) → IsMap root.slots pages (map_at root.slots root.area) owners → (listing : Listing) → HoldsListing (held_at (slots_at root.slots root.log_pages) pages owners) listing
    → page_count owners ≡ mapped_of (mapped_by owners) Home root.slots + mapped_of (mapped_by owners) Overflow root.slots + mapped_of (mapped_by owners) Image root.slots + system_pages
owners_split root owners pages map listing listed =
    sym (mapped_pages-owners root.slots owners (mapped_by owners) (λ slot key owned. map_allowed map slot key owned) map.begins.distinct (λ key. refl))
    ∙ pages_split (mapped_by owners) root.slots (λ n low. sym (held_mapped first pages owners (page_key 0 System n)) ∙ ap is_some (listed n low))
  where
    first : ℕ
    first = slots_at root.slots root.log_pages

-- the pages beside those of images
abbrev pages_beside : Stored → ℕ
pages_beside is = mapped_of (mapped_by is.owners) Home is.root.slots + mapped_of (mapped_by is.owners) Overflow is.root.slots + system_pages

-- where no image is defined and nothing is logged, the rule of room asks for each of them twice
module _ (is : Stored) (none : is.saved.definitions.images ≡ finite.empty) (older : is.older ≡ []) (newer : is.newer ≡ first_record ∷ []) where
  meter_is : room_number is.saved.definitions (meter_of is) ≡ 2 * pages_beside is
  meter_is =
      let images : (change_counts is.saved.definitions (meter_of is)).images ≡ 0 =
      ap (λ (m : FinMap name_cmp ImageDef). sum_by (pages_of_image is.saved.definitions (meter_of is)) (finite.values m)) none
      ∙ ap (λ (es : List (Name × ImageDef)). sum_by (pages_of_image is.saved.definitions (meter_of is)) (list_map (λ e. e.1) es)) (no_entries ImageDef) in
      let surviving : (meter_of is).surviving ≡ 0 = ap (λ (l : List Logged). length (lists_at (as_entries l))) older in
      let since : (meter_of is).since ≡ 0 = ap (λ (l : List Logged). count_by (λ m. is_change m.is) l) newer in
      omega (arith, images, surviving, since)

  pub first_room : 2 * page_count is.owners ≤ is.root.slots → pages_beside is ≤ page_count is.owners → room_number is.saved.definitions (meter_of is) ≤ is.root.slots
  first_room room few = omega (arith, meter_is, room, few)

-- the images of a store have no more pages than the meter of its checkpoint allows them
pub saved_few : {pages : Pages} {is : Stored} → IsStore pages is → pages_of_space Image is ≤ (change_counts is.saved.definitions (meter_of is)).images
saved_few {pages = pages} {is = is} store =
    images_allowed store.spells (held_mapped (slots_at is.root.slots is.root.log_pages) pages is.owners) is.root.slots (meter_of is) (λ relation. omega arith)

-- so each page has room in two slots
pub store_room : {pages : Pages} {is : Stored} → IsStore pages is → 2 * page_count is.owners ≤ is.root.slots
store_room {pages = pages} {is = is} store =
    omega (arith, store.room, saved_few store, owners_split is.root is.owners pages store.map is.listing store.system)

pub stores_have_room : StoresHaveRoom
stores_have_room pages stored store = store_room store

-- ---- a store that was opened

pub openings_have_room : OpeningsHaveRoom
openings_have_room pages size tables state opens at =
    let is : Stored = opens.stored in
    let store = opens.store in
    let definitions : tables.definitions ≡ is.saved.definitions = ap (λ (t : Tables). t.definitions) opens.holds ∙ store.log.definitions in
    let slots : size.slots ≡ is.root.slots = ap (λ (s : StoreSize). s.slots) opens.same_size in
    let over : state.meter.over ≡ overflow_pages is = at.over is store in
    let held = heap_is store.spells store.fit (mapped_by is.owners) (held_mapped (slots_at is.root.slots is.root.log_pages) pages is.owners) in
    let heap : heap_pages size.slots tables ≡ heap_pages is.root.slots is.tables = λ i. heap_pages (slots i) (opens.holds i) in
    let free : log_room size.log_pages state.meter ≡ log_free is.root = λ i. free_between (opens.same_size i).log_pages (at.head is store i) (at.end is store i) in
    let covers : (relation : Name) → entries_most (state.meter.traffic relation) ≤ entries_most ((meter_of is).traffic relation) = λ relation. omega (
      arith,
      recovered_count store.log relation,
      ap (λ (t : Tables). tuple_count t.contents relation) opens.holds,
      ap (λ (m : Meter). entries_most (m.traffic relation)) at.rest.meter,
    ) in
    let images : (change_counts is.saved.definitions state.meter).images ≤ (change_counts is.saved.definitions (meter_of is)).images =
    sum_by-le-sum_by (pages_of_image is.saved.definitions state.meter) (pages_of_image is.saved.definitions (meter_of is)) (finite.values is.saved.definitions.images)
    (λ image. more_pages _ (state.meter.traffic image.relation) ((meter_of is).traffic image.relation) (covers image.relation)) in
    record {
      pages = omega (
        arith,
        images,
        ap (λ (d : Definitions). (change_counts d state.meter).images) definitions,
        store.room,
        recovered_pages store.log,
        slots,
        over,
        heap,
        held,
        ap (λ (m : Meter). m.heap) at.rest.meter,
        ap (λ (m : Meter). m.surviving) at.rest.meter,
        ap (λ (m : Meter). m.since) at.rest.meter,
      );
      log = omega (
        arith,
        store.root_there.there.formed.room,
        ap owed (ap (λ (m : Meter). m.stamps) at.rest.meter),
        free,
      );
    }

module _ (size : StoreSize) (tables : Tables) (state : State) (rest : IsAtRest size tables state) where
  none_stamped : state.meter.stamps ≡ []
  none_stamped = ap (λ (m : Meter). m.stamps) rest.meter

  now_is : now state ≡ tables
  now_is = ap (with_changes state.base) rest.idle.none_changed ∙ rest.idle.committed

  pages_now : heap_pages state.size.slots (now state) ≡ heap_pages size.slots tables
  pages_now = λ i. heap_pages (rest.idle.same_size i).slots (now_is i)

  pub rest_metered : state.meter.head ≤ state.meter.end → room_number tables.definitions state.meter ≤ size.slots → IsMetered state
  rest_metered rises room = record {
    makers = ap (list_map stamp_by) none_stamped ∙ sym (ap (list_map maker) rest.idle.none_changed);
    positions = subst (AreStamps state.meter.head state.meter.end) (sym none_stamped) rises;
    heap = omega (arith, pages_now, ap (λ (l : List Change). length l) rest.idle.none_changed, ap (λ (m : Meter). m.heap) rest.meter, ap (λ (m : Meter). m.surviving) rest.meter, ap (λ (m : Meter). m.since) rest.meter);
    tuples = λ relation. omega (
      arith,
      ap (λ (t : Tables). tuple_count t.contents relation) now_is,
      ap (λ (l : List Change). changes_of l relation) rest.idle.none_changed,
      ap (λ (m : Meter). (m.traffic relation).entries) rest.meter,
      ap (λ (m : Meter). (m.traffic relation).surviving) rest.meter,
      ap (λ (m : Meter). (m.traffic relation).since) rest.meter,
    );
    room = omega (arith, room, ap (λ (t : Tables). room_number t.definitions state.meter) rest.idle.committed, ap (λ (s : StoreSize). s.slots) rest.idle.same_size);
  }

pub openings_are_metered : OpeningsAreMetered
openings_are_metered pages size tables state opens at =
    let formed = opens.store.root_there.there.formed in
    rest_metered size tables state at.rest
    (omega (arith, at.head opens.stored opens.store, at.end opens.stored opens.store, formed.head_first, formed.before_end))
    (openings_have_room pages size tables state opens at).pages
