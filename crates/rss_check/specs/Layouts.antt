-- The layout of a device, where it is sound: its selected root, the map that this names, and its log.
use Rattle.std.specs.Prelude.{◌≡◌, ℕ, ◌*◌, ◌^◌, ◌<◌, ◌≤◌, List, ◌++◌, length, drop, Option}
use Rattle.rss_base.specs.DiskRule.{Pages}
use Rattle.rss_base.specs.Layout.{map_at, log_at, slots_at, IsWellFormed, HasRoot}
use Rattle.rss_base.specs.LogPages.{kept_from}
use Rattle.rss_base.specs.PageMap.{page_count, IsTable, IsMap}
use Rattle.rss_base.specs.Paged.{Held}
use Rattle.rss_base.specs.StoredPages.{held_at}
use Rattle.rss_base.specs.declared.root.Root.{Root}
use Rattle.rss_base.specs.declared.key.PageKey.{PageKey}
use Rattle.rss_log.specs.Logs.{LogView, IsLog, bytes_from, piece_start}

-- the pages have this root and this map
pub record HasLayout (pages : Pages) (root : Root) (number : ℕ) (owners : List (Option PageKey)) : Type 0 where
  pub root_there : HasRoot pages number root
  pub map : IsMap root.slots pages (map_at root.slots root.area) owners

-- the layout is sound: this is the selected root, and this its map
pub record Laid (pages : Pages) : Type 0 where
  pub number : ℕ
  pub root : Root
  pub owners : List (Option PageKey)
  pub there : HasLayout pages root number owners

-- the pages of the map
abbrev pub held_in : (pages : Pages) → Laid pages → Held
held_in pages laid = held_at (slots_at laid.root.slots laid.root.log_pages) pages laid.owners

-- ---- as it is read

-- A store whose log ends here or behind isn't opened: the positions to which a session may come would be no numbers.
abbrev pub position_most : ℕ
position_most = 2 ^ 62

-- The root of this number and its map are such as a store has that is opened.
pub record IsLayout (root : Root) (number : ℕ) (owners : List (Option PageKey)) : Type 0 where
  pub number_low : 1 ≤ number
  pub number_high : number ≤ 2
  pub formed : IsWellFormed root
  pub table : IsTable owners
  pub slots : length owners ≡ root.slots
  pub half : 2 * page_count owners ≤ length owners
  pub early : root.end < position_most

-- the bytes that were appended to the log in memory since the root was written
abbrev pub appended_since : Root → LogView → List ℕ
appended_since root log = drop (length root.tail) (bytes_from log (piece_start root.end))

-- The log in memory is that of the root, with the bytes that were appended since.
pub record IsLogBehind (root : Root) (log : LogView) : Type 0 where
  pub is_log : IsLog log
  pub pages : log.pages ≡ root.log_pages
  pub head : log.head ≡ root.head
  pub later : root.end ≤ log.end
  pub bytes : bytes_from log (piece_start root.end) ≡ root.tail ++ appended_since root log

-- The log in memory is that of the root, up to the root's end.
pub record IsLogRead (root : Root) (log : LogView) : Type 0 where
  pub behind : IsLogBehind root log
  pub end : log.end ≡ root.end

-- its bytes are those that the pages have
abbrev pub HasLogBytes : Pages → Root → LogView → Type 0
HasLogBytes pages root log =
    log.kept ≡ kept_from pages (log_at root.slots) root.log_pages root.head root.end root.tail
