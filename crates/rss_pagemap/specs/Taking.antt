-- A table while its entries are taken, one behind the other.
use Rattle.std.specs.Prelude.{◌≡◌, ◌≢◌, ℕ, ◌+◌, ◌*◌, ◌<◌, ◌≤◌, List, [], ◌∷◌, ◌++◌, length, min, Option, Some, None}
use Rattle.std.specs.List.{Contains}
use Rattle.std.specs.Vec.{vec_capacity}
use Rattle.rss_base.specs.DiskRule.{Pages, page}
use Rattle.rss_base.specs.Sizes.{map_entries, slots_least, slots_most}
use Rattle.rss_base.specs.Layout.{map_pages}
use Rattle.rss_base.specs.PageMap.{IsKey, AreDistinct, owner_of, entry_bytes, entry_at, IsEntry, BeginsMap, IsOwned, IsMapFault}
use Rattle.rss_base.specs.declared.key.PageKey.{PageKey}
use Rattle.rss_base.specs.declared.place.Place.TheVariants.{Slot}
use Rattle.rss_base.specs.declared.fault.OpenFault.{OpenFault}
use Rattle.rss_base.specs.declared.fault.OpenFault.TheVariants.{NoMemory, NotAStore}
use Rattle.rss_pagemap.specs.declared.reading.Reading.{Reading}

-- The owners of the first slots: pages that the map may name, none of them twice, with room for those
-- of all slots. The pages that were seen are the owners.
pub record IsReading (reading : Reading) : Type 0 where
  pub least : slots_least ≤ reading.slots
  pub most : reading.slots ≤ slots_most
  pub within : length reading.owners.items ≤ reading.slots
  pub room : reading.slots ≤ vec_capacity reading.owners
  pub allowed : (s : ℕ) (key : PageKey) → owner_of reading.owners.items s ≡ Some key
      → IsKey reading.slots key
  pub distinct : AreDistinct reading.owners.items
  pub seen : (s : ℕ) (key : PageKey) → owner_of reading.owners.items s ≡ Some key
      → Contains reading.seen.keys key
  pub owned : (key : PageKey) → Contains reading.seen.keys key
      → IsOwned reading.owners.items (Some key)

-- the entry of a free slot
abbrev pub free_entry : List ℕ
free_entry = entry_bytes None

-- the entry gives the next slot its owner, or it is zeros behind the last one
pub data TakesEntry (slots : ℕ) (entry : List ℕ) (old new : List (Option PageKey)) : Type 0 where
  next : (owner : Option PageKey) → length old < slots → IsEntry slots entry owner
      → new ≡ old ++ owner ∷ [] → TakesEntry slots entry old new
  zeros : length old ≡ slots → entry ≡ free_entry → new ≡ old → TakesEntry slots entry old new

-- Memory ran out, or the next slot has no entry here but that of a page which has a slot, or something
-- else than zeros stands behind the last one.
pub data RefusesEntry (slots : ℕ) (entry : List ℕ) (owners : List (Option PageKey)) : OpenFault → Type 0 where
  memory : RefusesEntry slots entry owners NoMemory
  no_entry : length owners < slots
      → ((owner : Option PageKey) → IsEntry slots entry owner → IsOwned owners owner)
      → RefusesEntry slots entry owners (NotAStore (Slot (length owners)))
  no_zeros : length owners ≡ slots → entry ≢ free_entry
      → RefusesEntry slots entry owners (NotAStore (Slot slots))

-- the first so many entries of a map area are those of these owners, and zeros behind the last slot's
pub record BeginsArea (slots : ℕ) (pages : Pages) (first count : ℕ) (owners : List (Option PageKey)) : Type 0 where
  pub long : length owners ≡ min count slots
  pub begins : BeginsMap slots pages first owners
  pub zeros : (s : ℕ) → slots ≤ s → s < count → entry_at pages first s ≡ free_entry

-- an area that begins with the old owners, and then has this page, begins with the new ones
abbrev pub TakesPage : ℕ → List ℕ → List (Option PageKey) → List (Option PageKey) → Type 0
TakesPage slots bytes old new =
    (pages : Pages) (first at : ℕ) → bytes ≡ page pages (first + at)
    → BeginsArea slots pages first (map_entries * at) old
    → BeginsArea slots pages first (map_entries * at + map_entries) new

-- Memory ran out, or a map area that begins with these owners and goes on with this page is out of
-- form at this slot.
pub data RefusesPage (slots : ℕ) (bytes : List ℕ) (owners : List (Option PageKey)) : OpenFault → Type 0 where
  memory : RefusesPage slots bytes owners NoMemory
  fault : {slot : ℕ} → slot ≤ slots
      → ((pages : Pages) (first at : ℕ) → at < map_pages slots → bytes ≡ page pages (first + at)
      → BeginsArea slots pages first (map_entries * at) owners
      → IsMapFault slots pages first (Slot slot))
      → RefusesPage slots bytes owners (NotAStore (Slot slot))
