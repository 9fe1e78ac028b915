-- The room of a store in which nothing is open.
use Rattle.std.proofs.Common.{◌≡◌, ◌+◌, ◌*◌, ◌≤◌, ap, arith}
use Rattle.std.specs.Prelude.{is_some, Option, option_map, unwrap_or}
use Rattle.rss_base.specs.Listings.{Listing}
use Rattle.rss_base.specs.Paged.{Held, mapped_of, mapped_pages}
use Rattle.rss_base.specs.Sizes.{system_pages}
use Rattle.rss_base.specs.declared.key.PageKey.{PageKey}
use Rattle.rss_base.specs.declared.key.Space.TheVariants.{Home, Overflow, Image}
use Rattle.rss_base.specs.declared.name.Name.{Name}
use Rattle.rss_base.specs.declared.relation.RelationEntry.{RelationEntry}
use Rattle.rss_catalog.specs.Catalogs.{HasSystemPages}
use Rattle.rss_model.specs.Meter.{Meter, entries_most}
use Rattle.rss_model.specs.Spares.{change_counts, listed_bound, live_of}
use Rattle.rss_stored.specs.Store.{SpellsTables}
use Rattle.rss_model.specs.Tables.{Tables, tuple_count}
use Rattle.rss_stored.proofs.ImageRooms.{most_of, bound_rises, listed_same, images_few}
use Rattle.rss_stored.proofs.StorePages.{pages_split}
use Rattle.rss_access.specs.Written.{heap_now}
use Rattle.rss_store.specs.Opening.{HasRoomAtRest}
use Rattle.rss_store.specs.Stores.{StoreView}

-- so each page has room in two slots
pub room_twice : {view : StoreView} → HasSystemPages view.pages.mapped → HasRoomAtRest view → 2 * mapped_pages view.pages.slots view.pages.mapped ≤ view.pages.slots
room_twice {view = view} system room = omega (arith, room.slots, room.images, pages_split view.pages.mapped view.pages.slots system)

-- it is there where the same pages are mapped, and the same is listed
pub room_still : {old new : StoreView} → new.pages.slots ≡ old.pages.slots → new.pages.mapped ≡ old.pages.mapped → new.catalog.listing ≡ old.catalog.listing → HasRoomAtRest old → HasRoomAtRest new
room_still {old = old} {new = new} slots mapped listing room =
    let bound : listed_bound new.catalog.listing (live_of new.catalog.listing) ≡ listed_bound old.catalog.listing (live_of old.catalog.listing) = ap (λ (l : Listing). listed_bound l (live_of l)) listing in
    let heap : heap_now new.pages ≡ heap_now old.pages = λ i. mapped_of (mapped i) Home (slots i) + mapped_of (mapped i) Overflow (slots i) in
    let images : mapped_of new.pages.mapped Image new.pages.slots ≡ mapped_of old.pages.mapped Image old.pages.slots = λ i. mapped_of (mapped i) Image (slots i) in
    record {
      slots = omega (arith, room.slots, bound, heap, slots);
      images = omega (arith, room.images, bound, images);
    }

-- a meter that allows each relation its tuples allows images as many pages
bound_allowed : {held : Held} {listing : Listing} {tables : Tables} → SpellsTables held listing tables → (meter : Meter) → ((relation : Name) → tuple_count tables.contents relation ≤ entries_most (meter.traffic relation))
    → listed_bound listing (live_of listing) ≤ (change_counts tables.definitions meter).images
bound_allowed {listing = listing} spells meter covers =
    let rises = bound_rises listing (live_of listing) (most_of listing meter.traffic) (λ number relation at.
    let live : live_of listing number ≡ relation.live = ap (λ (o : Option RelationEntry). unwrap_or (option_map (λ r. r.live) o) 0) at in
    let most : most_of listing meter.traffic number ≡ entries_most (meter.traffic relation.name) = ap (λ (o : Option RelationEntry). unwrap_or (option_map (λ r. entries_most (meter.traffic r.name)) o) 0) at in
    omega (arith, live, most, spells.counts number relation at, covers relation.name)) in
    omega (arith, rises, listed_same spells.defines spells.listed meter)

-- so pages that spell tables have room where the meter's numbers have it
pub room_spelled : (view : StoreView) {tables : Tables} → SpellsTables view.pages.held view.catalog.listing tables → ((key : PageKey) → is_some (view.pages.held key) ≡ view.pages.mapped key) → (meter : Meter) → ((relation : Name) → tuple_count tables.contents relation ≤ entries_most (meter.traffic relation))
    → 2 * (heap_now view.pages + (change_counts tables.definitions meter).images + system_pages) ≤ view.pages.slots → HasRoomAtRest view
room_spelled view spells holds meter covers room = record {
  slots = omega (arith, room, bound_allowed spells meter covers);
  images = images_few spells holds view.pages.slots;
}
