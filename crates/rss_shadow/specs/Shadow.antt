-- How the maps of a store are kept.
use Rattle.std.specs.Prelude.{◌≡◌, ◌↔◌, ℕ, ◌<◌, Bool, true, ◌||◌, List, length, slice_index_or, Option, Some, is_some}
use Rattle.rss_base.specs.PageMap.{IsKey, owner_of, page_count}
use Rattle.rss_base.specs.declared.key.PageKey.{PageKey}
use Rattle.rss_shadow.specs.Maps.{Maps, AreMaps, heap_pages_of, image_pages_of}
use Rattle.rss_shadow.specs.Index.{Columns, slot_in, numbers_of, pages_in}

-- the index, for a store of so many slots, has the slots of these owners and no others
pub record IsIndexOf (slots : ℕ) (owners : List (Option PageKey)) (index : Columns) : Type 0 where
  pub numbers : numbers_of index ≡ slots
  pub indexed : (key : PageKey) (slot : ℕ) → IsKey slots key → (slot_in index key ≡ Some slot) ↔ (owner_of owners slot ≡ Some key)
  pub counted : pages_in index ≡ page_count owners

-- of so many slots those are in use that either map uses
pub record AreUsedBy (slots : ℕ) (current shadow : List (Option PageKey)) (used : List Bool) : Type 0 where
  pub count : length used ≡ slots
  pub uses : (slot : ℕ) → slot < slots → slice_index_or used slot true ≡ (is_some (owner_of current slot) || is_some (owner_of shadow slot))

-- index: the slots of the current map's pages, by the pages.
-- used: which slots either map uses.
-- pages, heap, images, shadow_pages: how many pages the current map has, how many of these are home and overflow pages, how many are of images, and how many pages the shadow map has.
pub record IsShadow (maps : Maps) (index : Columns) (used : List Bool) (pages heap images shadow_pages : ℕ) : Type 0 where
  pub maps_hold : AreMaps maps
  pub index_holds : IsIndexOf (length maps.current) maps.current index
  pub used_hold : AreUsedBy (length maps.current) maps.current maps.shadow used
  pub counted : pages ≡ page_count maps.current
  pub heap_counted : heap ≡ heap_pages_of maps.current
  pub images_counted : images ≡ image_pages_of maps.current
  pub shadow_counted : shadow_pages ≡ page_count maps.shadow
