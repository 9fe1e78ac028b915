-- A device in memory, by what it held at first and what has happened to it since.
use Rattle.std.specs.Prelude.{◌≡◌, ◌⊎◌, ℕ, zero, suc, ◌-◌, ◌<◌, List, [], ◌∷◌, ◌++◌, length, take, replicate, slice_set, Some, All, Bool, true, false, count_by}
use Rattle.rss_base.specs.Sizes.{page_bytes, zero_page}
use Rattle.rss_base.specs.DiskRule.{Disk, Pages, page, Places, WritesIn}
use Rattle.rss_base.specs.Devices.{DeviceView}
use Rattle.rss_device.specs.declared.event.Event.{Event}
use Rattle.rss_device.specs.declared.event.Event.TheVariants.{Wrote, Torn, Synced, Sized}

-- What a read gives, the pages as the last sync left them, and the pages that a stop may change:
-- those written since then, and after a new size all.
pub record Held : Type 0 where
  pub pages : Pages
  pub synced : Pages
  pub loose : List ℕ

-- so many pages, of which the new ones hold zeros
abbrev pub resized : ℕ → Pages → Pages
resized n pages = take n pages ++ replicate (n - length pages) zero_page

-- the numbers below this one
abbrev pub up_to : ℕ → List ℕ
up_to zero = []
up_to (suc n) = n ∷ up_to n

abbrev pub step : Held → Event → Held
step held (Wrote at bytes) = record {
  pages = slice_set held.pages at bytes;
  synced = held.synced;
  loose = at ∷ held.loose;
}
step held (Torn at) = record { pages = held.pages; synced = held.synced; loose = at ∷ held.loose }
step held Synced = record { pages = held.pages; synced = held.pages; loose = [] }
step held (Sized n) = record {
  pages = resized n held.pages;
  synced = resized n held.synced;
  loose = up_to n;
}

abbrev pub replay : Held → List Event → Held
replay held [] = held
replay held (event ∷ events) = replay (step held event) events

-- the bytes of a page
abbrev pub IsPage : List ℕ → Type 0
IsPage bytes = (length bytes ≡ page_bytes) × All (λ b. b < 256) bytes

-- one of these numbers
abbrev pub Among : List ℕ → ℕ → Type 0
Among [] x = ⊥
Among (y ∷ ys) x = (x ≡ y) ⊎ Among ys x

-- A stop may leave a loose page as it was at the last sync, as it was written last or with any
-- bytes, and leaves every other page.
pub record IsImage (held : Held) (image : Pages) : Type 0 where
  pub size : length image ≡ length held.pages
  pub kept : (q : ℕ) → (Among held.loose q → ⊥) → page image q ≡ page held.pages q
  pub loose : (q : ℕ) → Among held.loose q
      → (page image q ≡ page held.synced q) ⊎ ((page image q ≡ page held.pages q) ⊎ IsPage (page image q))

-- nothing is loose at first
abbrev pub at_first : Pages → Held
at_first pages = record { pages = pages; synced = pages; loose = [] }

-- what such a device tells: one moment an event
abbrev pub disk_of : Pages → List Event → Pages → Disk
disk_of first events pages = record {
  contents = Some pages;
  moment = length events;
  images = λ t image. IsImage (replay (at_first first) (take t events)) image;
}

-- the pages are those that the events left
abbrev pub IsKept : Pages → List Event → Pages → Type 0
IsKept first events pages = pages ≡ (replay (at_first first) events).pages

-- Pages were written or torn in these places alone, and no write and no fault was counted.
pub record OnlyTouches (places : Places) (old new : DeviceView) : Type 0 where
  pub only : WritesIn places old.disk new.disk
  pub size : new.size ≡ old.size
  pub writes : new.writes ≡ old.writes
  pub faults : new.faults ≡ old.faults

-- a page was written, also by a write that failed
abbrev pub is_write : Event → Bool
is_write (Wrote at bytes) = true
is_write (Torn at) = true
is_write Synced = false
is_write (Sized n) = false

abbrev pub writes_in : List Event → ℕ
writes_in events = count_by is_write events
