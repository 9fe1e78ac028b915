-- Pages by their keys, over a device of which a part is fixed.
use Rattle.std.specs.Prelude.{◌≡◌, ◌↔◌, ℕ, ◌+◌, ◌<◌, ◌≤◌, Bool, true, false, ◌&&◌, ◌==◌, if◌then◌else◌, List, length, Contains, sum_by, count_by, Option, Some, None, Result, Err, IsErrOf}
use Rattle.std.specs.List.{range_with_len}
use Rattle.rss_base.specs.DiskRule.{Disk, Pages, Places, page, IsTold, Passes}
use Rattle.rss_base.specs.Faults.{Rises}
use Rattle.rss_base.specs.Sizes.{segments, system_pages}
use Rattle.rss_base.specs.PageMap.{space_code}
use Rattle.rss_base.specs.declared.place.Place.{Place}
use Rattle.rss_base.specs.declared.fault.PageFault.{PageFault}
use Rattle.rss_base.specs.declared.fault.PageFault.TheVariants.{Device as DeviceFailed, Damaged, NoMemory}
use Rattle.rss_base.specs.declared.key.Space.{Space}
use Rattle.rss_base.specs.declared.key.Space.TheVariants.{Home, Overflow, Image, System}
use Rattle.rss_base.specs.declared.key.PageKey.{PageKey}

-- ---- what pages hold

-- which pages are mapped
abbrev pub Mapped : Type 0
Mapped = PageKey → Bool

-- what each mapped page holds
abbrev pub Held : Type 0
Held = PageKey → Option (List ℕ)

-- the keys name one page
abbrev pub is_same : PageKey → PageKey → Bool
is_same a b = (a.segment == b.segment) && (space_code a.space == space_code b.space) && (a.number == b.number)

-- the same pages are mapped, but that this one is, or isn't
abbrev pub with_mapped : Mapped → PageKey → Bool → Mapped
with_mapped mapped key now other = if is_same other key then now else mapped other

-- the same pages hold the same, but that this one holds these bytes, or isn't mapped
abbrev pub with_page : Held → PageKey → Option (List ℕ) → Held
with_page held key bytes other = if is_same other key then bytes else held other

-- a page of a segment and a space
abbrev pub page_key : ℕ → Space → ℕ → PageKey
page_key segment space number = record { segment = segment; space = space; number = number }

-- the least number of a segment and a space that isn't mapped
pub record IsLeastUnmapped (mapped : Mapped) (segment : ℕ) (space : Space) (number : ℕ) : Type 0 where
  pub free : mapped (page_key segment space number) ≡ false
  pub lesser : (k : ℕ) → k < number → mapped (page_key segment space k) ≡ true

-- the page of this number is mapped
abbrev pub IsMappedAt : Mapped → ℕ → Space → ℕ → Type 0
IsMappedAt mapped segment space number = mapped (page_key segment space number) ≡ true

-- the number is one of a page's of so many slots, and its page isn't mapped
pub record IsUnmappedAt (slots : ℕ) (mapped : Mapped) (segment : ℕ) (space : Space) (number : ℕ) : Type 0 where
  pub within : number < slots
  pub free : mapped (page_key segment space number) ≡ false

-- ---- how many pages are mapped

-- of a segment and a space, with numbers below a limit
abbrev pub mapped_in : Mapped → Space → ℕ → ℕ → ℕ
mapped_in mapped space limit segment = count_by (λ number. mapped (page_key segment space number)) (range_with_len 0 limit)

-- of a space, in all segments
abbrev pub mapped_of : Mapped → Space → ℕ → ℕ
mapped_of mapped space limit = sum_by (mapped_in mapped space limit) (range_with_len 1 segments)

-- of all pages that a map of so many slots may name
unfoldable pub mapped_pages : ℕ → Mapped → ℕ
mapped_pages slots mapped =
    mapped_of mapped Home slots + mapped_of mapped Overflow slots + mapped_of mapped Image slots
    + mapped_in mapped System system_pages 0

-- ---- which pages wait to be written

-- the first pages are among the others
abbrev pub AreAmong : Mapped → Mapped → Type 0
AreAmong some all = (key : PageKey) → some key ≡ true → all key ≡ true

-- the list has each of these pages
abbrev pub HasEach : List PageKey → Mapped → Type 0
HasEach keys pages = (key : PageKey) → pages key ≡ true → Contains keys key

-- A call writes no more pages than those that wait, and so many others: no more than any list has that has each of them.
abbrev pub WritesWaiting : Mapped → ℕ → ℕ → ℕ → Type 0
WritesWaiting waiting others writes writes_now = (keys : List PageKey) → HasEach keys waiting → writes_now ≤ writes + length keys + others

-- ---- what is fixed

-- the number of a device's pages, and what those of them hold that are not to be written
pub record Fixed : Type 0 where
  pub size : ℕ
  pub held_at : ℕ → Option (List ℕ)

-- nothing is fixed of the page in this place
abbrev pub IsUnfixed : Fixed → Places
IsUnfixed fixed q = fixed.held_at q ≡ None

-- the pages have what is fixed, and anything in the others
pub record HasFixed (fixed : Fixed) (image : Pages) : Type 0 where
  pub size : length image ≡ fixed.size
  pub pages : (q : ℕ) (bytes : List ℕ) → fixed.held_at q ≡ Some bytes → page image q ≡ bytes

-- What the pages stand on, which no call on a page changes: how many log pages the device has, the map area that the selected root names, the map as it was last saved, and how many pages there may be in memory at once.
pub record Backing : Type 0 where
  pub log_pages : ℕ
  pub area : ℕ
  pub shadow : List (Option PageKey)
  pub frames : ℕ

-- A call that leaves alone what is fixed: where nothing fixed is on its way to the disk, it stays the same, and each image at a moment of the call has it. The device tells its contents as before.
pub record LeavesFixed (settled settled_now : Type 0) (old new : Disk) (before after : Fixed) : Type 0 where
  pub told : IsTold old ↔ IsTold new
  pub stays_settled : settled → settled_now
  pub same : settled → IsTold old → after ≡ before
  pub moments : settled → IsTold old → Passes old new (HasFixed before)

-- A count of faults never falls, and a device's fault comes only where it rose. Nothing is found damaged on a device that tells its contents, and memory never runs out.
pub record HasPageCause {T : Type 0} (disk : Disk) (before now : ℕ) (result : Result T PageFault) : Type 0 where
  pub later : before ≤ now
  pub failed : IsErrOf result DeviceFailed → Rises before now
  pub sound : (place : Place) → result ≡ Err (Damaged place) → IsTold disk → ⊥
  pub memory : IsErrOf result NoMemory → ⊥

-- ---- the first number from one on

-- the first number from one on that has a property
pub record IsFirstFrom (property : ℕ → Type 0) (from number : ℕ) : Type 0 where
  pub later : from ≤ number
  pub has : property number
  pub none_before : (k : ℕ) → from ≤ k → k < number → property k → ⊥

-- no number from one on has it
abbrev pub NoneFrom : (ℕ → Type 0) → ℕ → Type 0
NoneFrom property from = (k : ℕ) → from ≤ k → property k → ⊥
