-- Pages that are stored on a device, each in its slot.
use Rattle.std.specs.Prelude.{◌≡◌, ℕ, ◌+◌, if◌then◌else◌, List, [], ◌∷◌, length, Option, Some, None, is_some, option_map}
use Rattle.rss_base.specs.DiskRule.{Pages, page}
use Rattle.rss_base.specs.Layout.{map_at, slots_at, HasRoot}
use Rattle.rss_base.specs.PageMap.{owner_of, IsMap}
use Rattle.rss_base.specs.Paged.{Mapped, Held, is_same}
use Rattle.rss_base.specs.declared.root.Root.{Root}
use Rattle.rss_base.specs.declared.key.PageKey.{PageKey}

-- the slot of a page among the owners from a slot on
abbrev pub slot_from : ℕ → List (Option PageKey) → PageKey → Option ℕ
slot_from slot [] key = None
slot_from slot (None ∷ owners) key = slot_from (slot + 1) owners key
slot_from slot (Some owner ∷ owners) key = if is_same owner key then Some slot else slot_from (slot + 1) owners key

-- the slot of a page, where the map has it
abbrev pub slot_of : List (Option PageKey) → PageKey → Option ℕ
slot_of owners key = slot_from 0 owners key

-- the pages of the map
abbrev pub mapped_by : List (Option PageKey) → Mapped
mapped_by owners key = is_some (slot_of owners key)

-- what the slot of each page of the map holds, where the slots begin at first
abbrev pub held_at : ℕ → Pages → List (Option PageKey) → Held
held_at first pages owners key = option_map (λ slot. page pages (first + slot)) (slot_of owners key)

-- each page stands in its slot, where the slots begin at first
abbrev pub StandInSlots : ℕ → Pages → List (Option PageKey) → Held → Type 0
StandInSlots first pages owners held = (slot : ℕ) (key : PageKey) → owner_of owners slot ≡ Some key → held key ≡ Some (page pages (first + slot))

-- the map area holds the map of these owners, and each page stands in its slot
pub record SavesPages (log_pages area : ℕ) (pages : Pages) (owners : List (Option PageKey)) (held : Held) : Type 0 where
  pub map : IsMap (length owners) pages (map_at (length owners) area) owners
  pub stand : StandInSlots (slots_at (length owners) log_pages) pages owners held

-- the selected root, by its number, with the map that it names and the pages of that map
pub record HoldsPages (pages : Pages) (number : ℕ) (root : Root) (owners : List (Option PageKey)) (held : Held) : Type 0 where
  pub root_there : HasRoot pages number root
  pub count : length owners ≡ root.slots
  pub saved : SavesPages root.log_pages root.area pages owners held
