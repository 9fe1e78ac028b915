-- The images that a stop of a device in memory is tried with.
use Rattle.std.specs.Prelude.{◌≡◌, ◌<◌, ℕ, List, [], ◌∷◌, ◌++◌, length, replicate, ⊤}
use Rattle.rss_base.specs.Sizes.{page_bytes}
use Rattle.rss_base.specs.DiskRule.{Pages, page}
use Rattle.rss_device.specs.Memory.{Held, Among, IsPage}
use Rattle.rss_device.specs.declared.event.Event.{Event}
use Rattle.rss_device.specs.declared.event.Event.TheVariants.{Wrote, Torn, Synced, Sized}
use Rattle.rss_device.specs.declared.image.Unsynced.{Unsynced}
use Rattle.rss_device.specs.declared.image.Unsynced.TheVariants.{Old, New, Filled}

-- every loose page is a page full of this byte
pub record IsFilled (fill : ℕ) (held : Held) (image : Pages) : Type 0 where
  pub size : length image ≡ length held.pages
  pub kept : (q : ℕ) → (Among held.loose q → ⊥) → page image q ≡ page held.pages q
  pub filled : (q : ℕ) → Among held.loose q → q < length held.pages
      → page image q ≡ replicate page_bytes fill
  pub whole : (q : ℕ) → Among held.loose q → q < length held.pages → IsPage (page image q)

-- what a stop leaves, where every loose page is as it was, as it was written last, or filled
abbrev pub IsLeft : Unsynced → Held → Pages → Type 0
IsLeft Old held image = image ≡ held.synced
IsLeft New held image = image ≡ held.pages
IsLeft (Filled fill) held image = IsFilled fill held image

-- no sync
abbrev pub IsUnsynced : Event → Type 0
IsUnsynced (Wrote at bytes) = ⊤
IsUnsynced (Torn at) = ⊤
IsUnsynced Synced = ⊥
IsUnsynced (Sized n) = ⊤

-- an event after which such an image follows from the one before it: a sync brings to the disk what
-- only the newest one knows
abbrev pub Allows : Unsynced → Event → Type 0
Allows Old event = IsUnsynced event
Allows New event = ⊤
Allows (Filled fill) event = IsUnsynced event

-- none of these events leaves a page loose
pub data IsSettled : List Event → Type 0 where
  nothing : IsSettled []
  after_sync : (events : List Event) → IsSettled (events ++ Synced ∷ [])
