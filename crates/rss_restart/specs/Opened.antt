-- A store that was opened: what a restart is given of it, and the tables that it leaves.
use Rattle.std.specs.Prelude.{◌≡◌, ℕ, ◌≤◌, None}
use Rattle.rss_base.specs.DiskRule.{Pages}
use Rattle.rss_base.specs.Layout.{log_at}
use Rattle.rss_base.specs.LogPages.{kept_from}
use Rattle.rss_base.specs.StoredPages.{mapped_by}
use Rattle.rss_base.specs.Steps.{AreCounted}
use Rattle.rss_base.specs.declared.key.PageKey.{PageKey}
use Rattle.rss_tuple.specs.Heaps.{AreHeaps}
use Rattle.rss_log.specs.Logs.{LogView}
use Rattle.rss_stored.specs.Store.{Stored, held_in, IsStore}
use Rattle.rss_access.specs.Changes.{AccessView}
use Rattle.rss_restart.specs.Restarting.{Recovery, recovered_tables, CanRestart}

-- The pages and the catalog are those of a store that was just opened, and the log is that of its root: each page stands in its slot of the map, which is the last checkpoint's still, and the log was read from the log pages and the root.
pub record IsOpened (pages : Pages) (stored : Stored) (at : AccessView) (log : LogView) : Type 0 where
  pub held : at.pages.held ≡ held_in pages stored
  pub mapped : at.pages.mapped ≡ mapped_by stored.owners
  pub shadow : at.pages.backing.shadow ≡ stored.owners
  pub slots : at.pages.slots ≡ stored.root.slots
  pub counted : AreCounted at.pages
  pub listing : at.catalog.listing ≡ stored.listing
  pub head : log.head ≡ stored.root.head
  pub end : log.end ≡ stored.root.end
  pub kept : log.kept ≡ kept_from pages (log_at stored.root.slots) stored.root.log_pages
      stored.root.head stored.root.end stored.root.tail

-- what the log of a store recovers over the tables of its checkpoint
abbrev pub recovery_of : Stored → Recovery
recovery_of stored = record {
  saved = stored.saved;
  older = stored.older;
  newer = stored.newer;
  base = stored.tables.contents;
}

-- What a call of `restart` asks for besides: the checkpoint stands in the log, and the pages, as long as none has a note, are those of a tuple store.
pub record MayCall (at : AccessView) (log : LogView) (checkpoint : ℕ) : Type 0 where
  pub low : log.head ≤ checkpoint
  pub high : checkpoint ≤ log.end
  pub heaps : ((key : PageKey) → at.pages.notes key ≡ None) → AreHeaps at.pages

-- ---- laws

-- of whichever store they were opened, it can be restarted from its last checkpoint
abbrev pub CanRestartOpened : AccessView → LogView → Type 0
CanRestartOpened at log = (pages : Pages) (stored : Stored)
    → IsStore pages stored → IsOpened pages stored at log
    → CanRestart at log stored.root.checkpoint (recovery_of stored)

-- and `restart` may be called for it
abbrev pub MayCallOpened : AccessView → LogView → Type 0
MayCallOpened at log = (pages : Pages) (stored : Stored)
    → IsStore pages stored → IsOpened pages stored at log
    → MayCall at log stored.root.checkpoint

-- what a restart leaves are the tables to which the store opens
abbrev pub RestartGivesTables : Type 0
RestartGivesTables = (pages : Pages) (stored : Stored) → IsStore pages stored
    → recovered_tables (recovery_of stored) ≡ stored.tables
