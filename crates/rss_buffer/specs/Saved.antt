-- How pages are saved on a device.
use Rattle.std.specs.Prelude.{◌≡◌, ◌⊎◌, ℕ, ◌<◌, true, List, length, Option}
use Rattle.rss_base.specs.DiskRule.{IsWithin}
use Rattle.rss_base.specs.Layout.{map_pages, map_at}
use Rattle.rss_base.specs.declared.key.PageKey.{PageKey}
use Rattle.rss_buffer.specs.declared.stage.Stage.{Stage}
use Rattle.rss_buffer.specs.declared.stage.Stage.TheVariants.{Changing, Saved, Switched}
use Rattle.rss_frames.specs.Frames.{FrameOf}
use Rattle.rss_buffer.specs.Gathered.{IsWritten}
use Rattle.rss_buffer.specs.Slots.{is_loose}

-- the pages that saving may write: slots that the shadow map doesn't use, and those of a map area
abbrev pub IsSaveable : ℕ → ℕ → List (Option PageKey) → ℕ → Type 0
IsSaveable first area shadow q = (is_loose first shadow q ≡ true) ⊎ IsWithin (map_at (length shadow) area) (map_pages (length shadow)) q

-- the pages of the slots below this one, where they are in memory, stand in their slots as well
abbrev pub AreWritten : List (Option PageKey) → FrameOf → ℕ → Type 0
AreWritten owners frames limit = (slot : ℕ) → slot < limit → IsWritten owners frames slot

-- how far the saving has come once some page is on its way to the disk
abbrev pub unsynced : Stage → Stage
unsynced Changing = Changing
unsynced (Saved area) = Saved area
unsynced Switched = Changing
