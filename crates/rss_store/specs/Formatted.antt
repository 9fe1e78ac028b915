-- An empty store, as it is made.
use Rattle.std.specs.Prelude.{◌≡◌, ℕ, ◌+◌, ◌-◌, ◌<◌, ◌≤◌, List, [], ◌∷◌, ◌++◌, map, replicate, Option, Some, None}
use Rattle.std.specs.List.{range_with_len}
use Rattle.rss_base.specs.Sizes.{zero_page, format_version, slots_least, slots_most, log_pages_least, log_pages_most, system_pages}
use Rattle.rss_base.specs.DiskRule.{Disk, Pages, page, Told, LeavesOnly, SameOff, IsWithin}
use Rattle.rss_base.specs.Layout.{map_at, slots_at, HasRoot}
use Rattle.rss_base.specs.PageMap.{IsMap}
use Rattle.rss_base.specs.Paged.{page_key}
use Rattle.rss_base.specs.declared.root.Root.{Root}
use Rattle.rss_base.specs.declared.key.Space.TheVariants.{System}
use Rattle.rss_base.specs.declared.key.PageKey.{PageKey}

-- a store can have these sizes
pub record AreSizes (slots log_pages : ℕ) : Type 0 where
  pub slots_least : slots_least ≤ slots
  pub slots_most : slots ≤ slots_most
  pub log_least : log_pages_least ≤ log_pages
  pub log_most : log_pages ≤ log_pages_most

-- the root of an empty store: its log has one record, of a checkpoint at which no transaction is open
abbrev pub first_root : ℕ → ℕ → Root
first_root slots log_pages = record {
  version = format_version;
  slots = slots;
  log_pages = log_pages;
  area = 0;
  head = 0;
  checkpoint = 0;
  end = 2;
  tail = 9 ∷ 0 ∷ [];
}

-- so many pages of the system space have the first slots, each the slot of its number, and the other
-- slots are free
abbrev pub system_owners : ℕ → ℕ → List (Option PageKey)
system_owners slots count =
    map (λ number. Some (page_key 0 System number)) (range_with_len 0 count)
    ++ replicate (slots - count) None

-- the owners of the slots of an empty store
abbrev pub first_owners : ℕ → List (Option PageKey)
first_owners slots = system_owners slots system_pages

-- the pages are an empty store of these sizes, whose system pages are zeros
pub record IsFormatted (slots log_pages : ℕ) (pages : Pages) : Type 0 where
  pub root_there : HasRoot pages 1 (first_root slots log_pages)
  pub map : IsMap slots pages (map_at slots 0) (first_owners slots)
  pub system : (number : ℕ) → number < system_pages
      → page pages (slots_at slots log_pages + number) ≡ zero_page

-- a device that holds such a store, and a stop leaves what a read gives
pub record HoldsFormatted (slots log_pages : ℕ) (disk : Disk) : Type 0 where
  pub formatted : Told disk (IsFormatted slots log_pages)
  pub synced : Told disk (LeavesOnly disk)

-- ---- as it is made

-- a read gives zeros in so many pages, and all other pages as they were
pub record HoldsZeros (before : Pages) (first count : ℕ) (contents : Option Pages) : Type 0 where
  pub after : Pages
  pub told : contents ≡ Some after
  pub same : SameOff (IsWithin first count) before after
  pub zeros : (k : ℕ) → k < count → page after (first + k) ≡ zero_page
