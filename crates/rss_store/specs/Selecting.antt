-- What is asked for where a root is selected, and what is so then.
use Rattle.std.specs.Prelude.{◌≡◌, ℕ, ◌+◌, ◌-◌, ◌/◌, ◌<◌, ◌≤◌, true, List, ◌++◌, length, is_some}
use Rattle.rss_base.specs.DiskRule.{Pages, Told, Leaves}
use Rattle.rss_base.specs.Sizes.{piece_bytes}
use Rattle.rss_base.specs.Layout.{log_at, IsWellFormed}
use Rattle.rss_base.specs.Listings.{HoldsListing}
use Rattle.rss_base.specs.LogRecords.{ArePlaced}
use Rattle.rss_base.specs.LogPages.{piece}
use Rattle.rss_base.specs.Paged.{Held}
use Rattle.rss_base.specs.StoredPages.{mapped_by, SavesPages}
use Rattle.rss_base.specs.declared.key.PageKey.{PageKey}
use Rattle.rss_base.specs.declared.root.Root.{Root}
use Rattle.rss_log.specs.Logs.{LogView, HasRecords, piece_of, tail_of}
use Rattle.rss_model.specs.Fits.{Fits}
use Rattle.rss_model.specs.Meanings.{Logged, as_bytes}
use Rattle.rss_model.specs.Meter.{room_number}
use Rattle.rss_stored.specs.LogLaws.{HoldsLog}
use Rattle.rss_stored.specs.Store.{Stored, SpellsTables, AreNodesWithin, HasLog, meter_of, IsStore}
use Rattle.rss_check.specs.Layouts.{IsLogBehind}
use Rattle.rss_store.specs.Stores.{StoreView}

-- ---- the pieces of the log

-- the pieces of this log that a root doesn't have stand in their pages
abbrev pub HoldsPieces : Root → LogView → ℕ → Pages → Type 0
HoldsPieces root log until pages =
    (k : ℕ) → root.end / piece_bytes ≤ k → k < until
    → piece pages (log_at root.slots) root.log_pages k ≡ piece_of log k

-- where the device has all log pages
abbrev pub HoldsPiecesWithin : Root → LogView → ℕ → Pages → Type 0
HoldsPiecesWithin root log until pages =
    log_at root.slots + root.log_pages ≤ length pages → HoldsPieces root log until pages

-- ---- a store by its places and by what is meant

-- What the pages of a store mean, beside where they stand: a log that has its records there says that of the store.
pub record IsMeant (held : Held) (stored : Stored) : Type 0 where
  pub only : (key : PageKey) → is_some (held key) ≡ mapped_by stored.owners key
  pub system : HoldsListing held stored.listing
  pub spells : SpellsTables held stored.listing stored.saved
  pub nodes : AreNodesWithin stored.root.slots held stored.listing
  pub fit : Fits stored.root.slots stored.saved
  pub log : (pages : Pages) → HoldsLog pages stored.root stored.older stored.newer → HasLog pages stored
  pub room : room_number stored.saved.definitions (meter_of stored) ≤ stored.root.slots

-- ---- the next root

-- The root ends where the log does, and has its last part.
pub record IsRootOfLog (view : StoreView) (next : Root) : Type 0 where
  pub formed : IsWellFormed next
  pub slots : next.slots ≡ view.root.slots
  pub log_pages : next.log_pages ≡ view.root.log_pages
  pub end : next.end ≡ view.log.end
  pub tail : next.tail ≡ tail_of view.log

-- A root may be selected.
pub record CanSelect (view : StoreView) (next : Root) : Type 0 where
  pub number_low : 0 < view.number
  pub number_high : view.number < 3
  pub formed : IsWellFormed view.root
  pub size : view.pages.slots ≡ view.root.slots
  pub log_pages : view.pages.backing.log_pages ≡ view.root.log_pages
  pub log : IsLogBehind view.root view.log
  pub of_log : IsRootOfLog view next

-- A stop leaves the one store. The other one is what its root names: its map is saved with the pages, and its records are those of the log from its head on.
pub record IsNextStore (view : StoreView) (next : Root) (stored after : Stored) (held : Held) : Type 0 where
  pub left : (image : Pages) → Leaves view.pages.disk image → IsStore image stored
  pub number_is : stored.number ≡ view.number
  pub root_is : stored.root ≡ view.root
  pub number_next : after.number ≡ 3 - view.number
  pub root_next : after.root ≡ next
  pub count : length after.owners ≡ view.root.slots
  pub saves : Told view.pages.disk (λ pages. SavesPages view.root.log_pages next.area pages after.owners held)
  pub meant : IsMeant held after
  pub appended : List Logged
  pub dropped : List Logged
  pub records : HasRecords view.log (as_bytes ((stored.older ++ stored.newer) ++ appended))
  pub split : (stored.older ++ stored.newer) ++ appended ≡ dropped ++ (after.older ++ after.newer)
  pub gone : ArePlaced view.root.head (as_bytes dropped) next.head
  pub stay : ArePlaced next.head (as_bytes (after.older ++ after.newer)) next.end
  pub checkpoint : ArePlaced next.head (as_bytes after.older) next.checkpoint

-- It is selected, and nothing else changed that there is to see.
pub record Selects (next : Root) (old new : StoreView) : Type 0 where
  pub root : new.root ≡ next
  pub number : new.number ≡ 3 - old.number
  pub area : new.pages.backing.area ≡ next.area
  pub shadow : new.pages.backing.shadow ≡ old.pages.backing.shadow
  pub settled_now : new.pages.settled ≡ true
