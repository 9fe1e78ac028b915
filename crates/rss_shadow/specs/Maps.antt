-- The two maps of a store: which page each slot holds now, and which it held when the map was last saved.
use Rattle.std.specs.Prelude.{◌≡◌, ◌⊎◌, ℕ, ◌+◌, ◌-◌, ◌<◌, ◌≤◌, Bool, true, false, List, length, slice_set, Option, Some, None, count_by}
use Rattle.rss_base.specs.PageMap.{IsTable, owner_of, page_count}
use Rattle.rss_base.specs.Paged.{page_key}
use Rattle.rss_base.specs.declared.key.Space.{Space}
use Rattle.rss_base.specs.declared.key.Space.TheVariants.{Home, Overflow, Image, System}
use Rattle.rss_base.specs.declared.key.PageKey.{PageKey}

pub record Maps : Type 0 where
  pub current : List (Option PageKey)
  pub shadow : List (Option PageKey)

-- how many of them are home and overflow pages
abbrev pub is_heap_space : Space → Bool
is_heap_space Home = true
is_heap_space Overflow = true
is_heap_space Image = false
is_heap_space System = false

abbrev pub is_heap : Option PageKey → Bool
is_heap None = false
is_heap (Some key) = is_heap_space key.space

abbrev pub heap_pages_of : List (Option PageKey) → ℕ
heap_pages_of owners = count_by is_heap owners

-- how many are pages of images
abbrev pub is_image_space : Space → Bool
is_image_space Home = false
is_image_space Overflow = false
is_image_space Image = true
is_image_space System = false

abbrev pub is_image : Option PageKey → Bool
is_image None = false
is_image (Some key) = is_image_space key.space

abbrev pub image_pages_of : List (Option PageKey) → ℕ
image_pages_of owners = count_by is_image owners

-- the slots that are left where each page of either map has one of its own
abbrev pub spare : Maps → ℕ
spare maps = length maps.current - page_count maps.shadow - page_count maps.current

-- What holds of the maps between any two calls. A slot that the shadow map uses holds that page now, or none.
pub record AreMaps (maps : Maps) : Type 0 where
  pub current : IsTable maps.current
  pub shadow : IsTable maps.shadow
  pub count : length maps.shadow ≡ length maps.current
  pub apart : (s : ℕ) (key : PageKey) → owner_of maps.shadow s ≡ Some key → (owner_of maps.current s ≡ None) ⊎ (owner_of maps.current s ≡ Some key)
  pub room : page_count maps.shadow + page_count maps.current ≤ length maps.current

-- neither map uses the slot
pub record IsFree (maps : Maps) (slot : ℕ) : Type 0 where
  pub within : slot < length maps.current
  pub current : owner_of maps.current slot ≡ None
  pub shadow : owner_of maps.shadow slot ≡ None

-- the map has the page
pub record HasPage (owners : List (Option PageKey)) (key : PageKey) : Type 0 where
  pub slot : ℕ
  pub owned : owner_of owners slot ≡ Some key

abbrev pub LacksPage : List (Option PageKey) → PageKey → Type 0
LacksPage owners key = (slot : ℕ) → owner_of owners slot ≡ Some key → ⊥

-- the page gets a free slot
pub record GainsPage (old new : Maps) (key : PageKey) : Type 0 where
  pub slot : ℕ
  pub free : IsFree old slot
  pub current : new.current ≡ slice_set old.current slot (Some key)
  pub shadow : new.shadow ≡ old.shadow

-- the page loses its slot
pub record LosesPage (old new : Maps) (key : PageKey) : Type 0 where
  pub slot : ℕ
  pub owned : owner_of old.current slot ≡ Some key
  pub current : new.current ≡ slice_set old.current slot None
  pub shadow : new.shadow ≡ old.shadow

-- The page moves to a slot of its own: it stays where the shadow map doesn't use its slot, and else gets a free one.
pub record MovesPage (old new : Maps) (key : PageKey) (slot : ℕ) : Type 0 where
  pub from : ℕ
  pub owned : owner_of old.current from ≡ Some key
  pub stays : owner_of old.shadow from ≡ None → slot ≡ from
  pub free : (owner_of old.shadow from ≡ None → ⊥) → IsFree old slot
  pub current : new.current ≡ slice_set (slice_set old.current from None) slot (Some key)
  pub shadow : new.shadow ≡ old.shadow

-- the least number of a segment and a space that no page of the map has
pub record IsLeastLacking (owners : List (Option PageKey)) (segment : ℕ) (space : Space) (number : ℕ) : Type 0 where
  pub within : number < length owners
  pub lacking : LacksPage owners (page_key segment space number)
  pub lesser : (k : ℕ) → k < number → HasPage owners (page_key segment space k)
