-- Pages in memory, each in a place of its own.
use Rattle.std.specs.Prelude.{◌≡◌, ℕ, ◌≤◌, ◌==◌, Bool, true, false, if◌then◌else◌, List, [], ◌∷◌, length, slice_index_or, count_by, Option, Some, None, option_map, is_some, is_none}
use Rattle.rss_base.specs.Sizes.{slots_least, slots_most}
use Rattle.rss_base.specs.DiskRule.{Disk}
use Rattle.rss_base.specs.PageMap.{IsKey, space_code}
use Rattle.rss_base.specs.Notes.{Noted}
use Rattle.rss_base.specs.Paged.{Held, Mapped, Fixed, Backing, is_same}
use Rattle.rss_base.specs.declared.key.Space.TheVariants.{Image}
use Rattle.rss_base.specs.declared.key.PageKey.{PageKey}
use Rattle.rss_device.specs.declared.stored.Stored.{Stored}

-- the place has this page
abbrev pub has_key : PageKey → Option Stored → Bool
has_key key None = false
has_key key (Some stored) = is_same key stored.key

abbrev pub place_at : List (Option Stored) → ℕ → Option Stored
place_at places at = slice_index_or places at None

-- what the first place of each page has
abbrev pub StoredOf : Type 0
StoredOf = PageKey → Option Stored

abbrev pub stored_in : List (Option Stored) → StoredOf
stored_in [] key = None
stored_in (None ∷ places) key = stored_in places key
stored_in (Some stored ∷ places) key =
    if is_same key stored.key then Some stored else stored_in places key

-- the same places, but that this page's has this, or it has none
abbrev pub with_stored : StoredOf → PageKey → Option Stored → StoredOf
with_stored all key stored other = if is_same other key then stored else all other

-- what each page holds
abbrev pub page_in : Option Stored → Option (List ℕ)
page_in place = option_map (λ stored. stored.page) place

abbrev pub held_in : List (Option Stored) → Held
held_in places key = page_in (stored_in places key)

-- what was noted on it
abbrev pub note_in : Option Stored → Option ℕ
note_in None = None
note_in (Some stored) = stored.note

abbrev pub noted_in : List (Option Stored) → Noted
noted_in places key = note_in (stored_in places key)

-- the pages that have a place
unfoldable pub placed_in : List (Option Stored) → Mapped
placed_in places key = is_some (stored_in places key)

-- how many places are free
abbrev pub free_in : List (Option Stored) → ℕ
free_in places = count_by is_none places

-- how many have a page of images
abbrev pub has_image : Option Stored → Bool
has_image None = false
has_image (Some stored) = space_code stored.key.space == space_code Image

abbrev pub images_in : List (Option Stored) → ℕ
images_in places = count_by has_image places

-- Each place is free or has a page that no other place has, and a map of so many slots may name it.
pub record ArePlaces (places : List (Option Stored)) : Type 0 where
  pub least : slots_least ≤ length places
  pub most : length places ≤ slots_most
  pub distinct : (s t : ℕ) (key : PageKey) → has_key key (place_at places s) ≡ true → has_key key (place_at places t) ≡ true → s ≡ t
  pub allowed : (s : ℕ) (key : PageKey) → has_key key (place_at places s) ≡ true → IsKey (length places) key

-- no device stands behind them: it tells that it has no pages, now and at a stop
abbrev pub no_device : Disk
no_device = record { contents = Some []; moment = 0; images = λ t image. image ≡ [] }

abbrev pub none_fixed : Fixed
none_fixed = record { size = 0; held_at = λ q. None }

-- and as many of them may be in memory as there are slots
abbrev pub no_backing : ℕ → Backing
no_backing slots = record { log_pages = 0; area = 0; shadow = []; frames = slots }
