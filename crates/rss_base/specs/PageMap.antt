-- The map of the slots: which page each of them holds.
use Rattle.std.specs.Prelude.{◌≡◌, ◌≢◌, ℕ, ◌+◌, ◌*◌, ◌/◌, ◌%◌, ◌<◌, ◌≤◌, List, ◌∷◌, length, take, drop, slice_index_or, replicate, Option, Some, None, is_some, IfSome, count_by}
use Rattle.std.specs.Int.{w32, to_be_bytes}
use Rattle.rss_base.specs.Sizes.{map_entries, slots_least, slots_most, segments, system_pages}
use Rattle.rss_base.specs.DiskRule.{Pages, page, SameOff, IsWithin}
use Rattle.rss_base.specs.Layout.{map_pages, map_at}
use Rattle.rss_base.specs.declared.root.Root.{Root}
use Rattle.rss_base.specs.declared.place.Place.{Place}
use Rattle.rss_base.specs.declared.place.Place.TheVariants.{Slot}
use Rattle.rss_base.specs.declared.key.Space.{Space}
use Rattle.rss_base.specs.declared.key.Space.TheVariants.{Home, Overflow, Image, System}
use Rattle.rss_base.specs.declared.key.PageKey.{PageKey}

-- ---- pages and their owners

-- a segment has a number from 1 to 8, and the system space the number 0
abbrev pub IsSegmentOf : Space → ℕ → Type 0
IsSegmentOf Home segment = (1 ≤ segment) × (segment ≤ segments)
IsSegmentOf Overflow segment = (1 ≤ segment) × (segment ≤ segments)
IsSegmentOf Image segment = (1 ≤ segment) × (segment ≤ segments)
IsSegmentOf System segment = segment ≡ 0

-- the pages of a space have numbers below the number of slots, and those of the system space below 10
abbrev pub number_limit : ℕ → Space → ℕ
number_limit slots Home = slots
number_limit slots Overflow = slots
number_limit slots Image = slots
number_limit slots System = system_pages

-- a map of so many slots may name this page
pub record IsKey (slots : ℕ) (key : PageKey) : Type 0 where
  pub segment : IsSegmentOf key.space key.segment
  pub number : key.number < number_limit slots key.space

-- the page that a slot holds, where it isn't free
abbrev pub owner_of : List (Option PageKey) → ℕ → Option PageKey
owner_of owners slot = slice_index_or owners slot None

-- how many pages a map has
abbrev pub page_count : List (Option PageKey) → ℕ
page_count owners = count_by is_some owners

-- no page has two slots
abbrev pub AreDistinct : List (Option PageKey) → Type 0
AreDistinct owners =
    (s t : ℕ) (key : PageKey) → owner_of owners s ≡ Some key → owner_of owners t ≡ Some key → s ≡ t

-- the table of a store's slots
pub record IsTable (owners : List (Option PageKey)) : Type 0 where
  pub least : slots_least ≤ length owners
  pub most : length owners ≤ slots_most
  pub allowed : (s : ℕ) (key : PageKey) → owner_of owners s ≡ Some key → IsKey (length owners) key
  pub distinct : AreDistinct owners

-- ---- the bytes of a map area

abbrev pub space_code : Space → ℕ
space_code Home = 1
space_code Overflow = 2
space_code Image = 3
space_code System = 4

-- The entry of a slot: zeros where it is free, else the space, the segment, two zeros and the page's
-- number.
abbrev pub entry_bytes : Option PageKey → List ℕ
entry_bytes None = replicate 8 0
entry_bytes (Some key) = space_code key.space ∷ key.segment ∷ 0 ∷ 0 ∷ to_be_bytes w32 key.number

-- the bytes at the place of an entry, in a map area that begins at this page
abbrev pub entry_at : Pages → ℕ → ℕ → List ℕ
entry_at pages first slot =
    take 8 (drop (8 * (slot % map_entries)) (page pages (first + slot / map_entries)))

-- the bytes are the entry of this owner
pub record IsEntry (slots : ℕ) (bytes : List ℕ) (owner : Option PageKey) : Type 0 where
  pub spelled : bytes ≡ entry_bytes owner
  pub allowed : IfSome owner (IsKey slots)

-- the first entries of the area are those of these owners, of which none is there twice
pub record BeginsMap (slots : ℕ) (pages : Pages) (first : ℕ) (owners : List (Option PageKey)) : Type 0 where
  pub entries : (s : ℕ) → s < length owners
      → IsEntry slots (entry_at pages first s) (owner_of owners s)
  pub distinct : AreDistinct owners

-- the area holds the map of these owners, and behind its last entry zeros
pub record IsMap (slots : ℕ) (pages : Pages) (first : ℕ) (owners : List (Option PageKey)) : Type 0 where
  pub count : length owners ≡ slots
  pub begins : BeginsMap slots pages first owners
  pub rest : (s : ℕ) → slots ≤ s → s < map_entries * map_pages slots
      → entry_at pages first s ≡ replicate 8 0

-- the area that a root has in use holds the map of these owners
abbrev pub HasMap : Root → List (Option PageKey) → Pages → Type 0
HasMap root owners pages = IsMap root.slots pages (map_at root.slots root.area) owners

-- some slot has this owner
pub record IsOwned (owners : List (Option PageKey)) (owner : Option PageKey) : Type 0 where
  pub key : PageKey
  pub is : owner ≡ Some key
  pub slot : ℕ
  pub owned : owner_of owners slot ≡ Some key

-- a read gives the map of these owners in the area, and all other pages as they were
pub record HoldsMap (before : Pages) (first : ℕ) (owners : List (Option PageKey)) (contents : Option Pages) : Type 0 where
  pub after : Pages
  pub told : contents ≡ Some after
  pub same : SameOff (IsWithin first (map_pages (length owners))) before after
  pub map : IsMap (length owners) after first owners

-- The first place at which the area is no map: a slot where no entry stands, or that of a page which a
-- lesser slot has. Where all entries are sound, it is the slot behind the last one if something else
-- than zeros stands there.
pub data IsMapFault (slots : ℕ) (pages : Pages) (first : ℕ) : Place → Type 0 where
  entry : {slot : ℕ} (owners : List (Option PageKey)) → length owners ≡ slot → slot < slots
      → BeginsMap slots pages first owners
      → ((owner : Option PageKey) → IsEntry slots (entry_at pages first slot) owner
      → IsOwned owners owner)
      → IsMapFault slots pages first (Slot slot)
  rest : (owners : List (Option PageKey)) (place : ℕ) → length owners ≡ slots
      → BeginsMap slots pages first owners → slots ≤ place → place < map_entries * map_pages slots
      → entry_at pages first place ≢ replicate 8 0 → IsMapFault slots pages first (Slot slots)

-- the first place at which the area that a root has in use is no map
abbrev pub HasMapFault : Root → Place → Pages → Type 0
HasMapFault root place pages = IsMapFault root.slots pages (map_at root.slots root.area) place
