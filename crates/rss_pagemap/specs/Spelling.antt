-- Pages of a map area, as they are made.
use Rattle.std.specs.Prelude.{◌≡◌, ℕ, ◌+◌, ◌*◌, ◌<◌, List, take, drop, Option}
use Rattle.rss_base.specs.DiskRule.{Pages, page}
use Rattle.rss_base.specs.Sizes.{map_entries}
use Rattle.rss_base.specs.PageMap.{owner_of, entry_bytes}
use Rattle.rss_base.specs.declared.key.PageKey.{PageKey}

-- so many entries of a page are those of the slots from one on, and zeros behind the last slot
abbrev pub HasEntries : List (Option PageKey) → ℕ → ℕ → List ℕ → Type 0
HasEntries owners first count bytes = (k : ℕ) → k < count
    → take 8 (drop (8 * k) bytes) ≡ entry_bytes (owner_of owners (first + k))

-- so many pages are those of the map area from one on
abbrev pub HasPages : List (Option PageKey) → ℕ → ℕ → Pages → Type 0
HasPages owners first count pages = (k : ℕ) → k < count
    → HasEntries owners (map_entries * (first + k)) map_entries (page pages k)
