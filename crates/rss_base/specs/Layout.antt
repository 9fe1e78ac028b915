-- The layout of a device: the selector, the two roots, the two map areas, the log pages and the data
-- slots, one behind the other.
use Rattle.std.specs.Prelude.{◌≡◌, ◌≢◌, ℕ, ◌+◌, ◌-◌, ◌*◌, ◌/◌, ◌%◌, ◌<◌, ◌≤◌, List, [], ◌∷◌, ◌++◌, length, slice_index, replicate, codes}
use Rattle.std.specs.Int.{w32, w64, to_be_bytes}
use Rattle.rss_base.specs.Sizes.{piece_bytes, format_version, map_entries, head_pages, slots_least, slots_most, log_pages_least, log_pages_most, position_limit, largest_checkpoint}
use Rattle.rss_base.specs.DiskRule.{Pages, page, Places, IsWithin}
use Rattle.rss_base.specs.declared.root.Root.{Root}
use Rattle.rss_base.specs.declared.fault.OpenFault.{OpenFault}
use Rattle.rss_base.specs.declared.fault.OpenFault.TheVariants.{Device as DeviceFailed, NotAStore, Damaged, WrongSize, NoMemory}
use Rattle.rss_base.specs.declared.place.Place.{Place}
use Rattle.rss_base.specs.declared.place.Place.TheVariants.{Size, Root as RootPlace}

-- ---- the parts

-- how many pages a map area of so many slots has
abbrev pub map_pages : ℕ → ℕ
map_pages slots = (slots + (map_entries - 1)) / map_entries

-- where a map area begins
abbrev pub map_at : ℕ → ℕ → ℕ
map_at slots area = head_pages + area * map_pages slots

-- a page of a map area
abbrev pub IsAreaPage : ℕ → ℕ → Places
IsAreaPage slots area = IsWithin (map_at slots area) (map_pages slots)

-- where the log pages begin
abbrev pub log_at : ℕ → ℕ
log_at slots = head_pages + 2 * map_pages slots

-- where the data slots begin
abbrev pub slots_at : ℕ → ℕ → ℕ
slots_at slots log_pages = log_at slots + log_pages

-- how many pages the device has
abbrev pub device_pages : Root → ℕ
device_pages root = slots_at root.slots root.log_pages + root.slots

-- ---- the selector

-- The root that a selector names: root 1 where the lowest bit of its first byte is 0, else root 2.
abbrev pub selected_by : List ℕ → ℕ
selected_by selector = 1 + slice_index selector 0 % 2

abbrev pub selected : Pages → ℕ
selected pages = selected_by (page pages 0)

abbrev pub root_of : Pages → List ℕ
root_of pages = page pages (selected pages)

-- ---- a root

-- How many bytes the log has room for: the pieces from the one with its head on have all log pages
-- and the root's tail.
abbrev pub log_free : Root → ℕ
log_free root = (root.head / piece_bytes + root.log_pages + 1) * piece_bytes - 1 - root.end

-- The bytes of a root: its mark, the version, two zeros, the sizes, the area, seven zeros, the
-- positions of the log, 48 zeros, the log's tail, and zeros to the page's end. Numbers are big-endian.
abbrev pub root_page : Root → List ℕ
root_page root =
    codes "RSSR" ++ 0 ∷ root.version ∷ 0 ∷ 0 ∷ [] ++ to_be_bytes w32 root.slots ++ to_be_bytes w32 root.log_pages
    ++ root.area ∷ replicate 7 0 ++ to_be_bytes w64 root.head ++ to_be_bytes w64 root.checkpoint
    ++ to_be_bytes w64 root.end ++ replicate 48 0
    ++ root.tail
    ++ replicate (piece_bytes - length root.tail) 0

-- A root is well-formed: its version is known, its sizes are in range, the positions of the log stand in order and below
-- 2 ^ 63, the largest Checkpoint record has room, and its tail are the bytes of the log behind the
-- last full piece.
pub record IsWellFormed (root : Root) : Type 0 where
  pub version_least : 1 ≤ root.version
  pub version_most : root.version ≤ format_version
  pub slots_least : slots_least ≤ root.slots
  pub slots_most : root.slots ≤ slots_most
  pub log_least : log_pages_least ≤ root.log_pages
  pub log_most : root.log_pages ≤ log_pages_most
  pub area : root.area < 2
  pub head_first : root.head ≤ root.checkpoint
  pub before_end : root.checkpoint < root.end
  pub end_limit : root.end < position_limit
  pub room : largest_checkpoint ≤ log_free root
  pub tail : length root.tail ≡ root.end % piece_bytes

-- the page is a root that says this
pub record IsRootPage (bytes : List ℕ) (root : Root) : Type 0 where
  pub spelled : bytes ≡ root_page root
  pub formed : IsWellFormed root

-- the selected root, by its number, and a device of the size that it tells
pub record HasRoot (pages : Pages) (number : ℕ) (root : Root) : Type 0 where
  pub selects : number ≡ selected pages
  pub there : IsRootPage (root_of pages) root
  pub size : length pages ≡ device_pages root

-- The first place at which the roots are out of form: there are too few pages for them, the selected
-- root is none, or it tells of another number of pages.
pub data IsRootFault (pages : Pages) : Place → Type 0 where
  few : length pages < head_pages → IsRootFault pages Size
  no_root : {number : ℕ} → head_pages ≤ length pages → number ≡ selected pages
      → ((root : Root) → IsRootPage (root_of pages) root → ⊥) → IsRootFault pages (RootPlace number)
  other_size : {root : Root} → head_pages ≤ length pages → IsRootPage (root_of pages) root
      → length pages ≢ device_pages root → IsRootFault pages Size

-- a fault of the reading of a layout: it names a place, or it is the device's, or memory ran out
abbrev pub IsLayoutFault : OpenFault → Type 0
IsLayoutFault (NotAStore place) = Unit {0}
IsLayoutFault DeviceFailed = Unit {0}
IsLayoutFault NoMemory = Unit {0}
IsLayoutFault (Damaged place) = ⊥
IsLayoutFault WrongSize = ⊥
