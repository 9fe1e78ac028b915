-- A durable store as its callers see it, and what holds of it between two calls, whatever its device tells.
use Rattle.std.specs.Prelude.{◌≡◌, ℕ, ◌+◌, ◌<◌, true, length}
use Rattle.rss_base.specs.DiskRule.{IsTold}
use Rattle.rss_base.specs.Sizes.{system_pages}
use Rattle.rss_base.specs.Layout.{IsWellFormed}
use Rattle.rss_base.specs.PageMap.{page_count}
use Rattle.rss_base.specs.Paged.{mapped_pages}
use Rattle.rss_base.specs.Steps.{PagesView}
use Rattle.rss_base.specs.StoredPages.{mapped_by}
use Rattle.rss_base.specs.declared.root.Root.{Root}
use Rattle.rss_tuple.specs.Heaps.{AreHeaps}
use Rattle.rss_catalog.specs.Catalogs.{CatalogView, HasSystemPages}
use Rattle.rss_log.specs.Logs.{LogView}
use Rattle.rss_access.specs.Changes.{both, HasTables}
use Rattle.rss_check.specs.Layouts.{IsLogBehind}

-- pages: those with the tuples and the catalog.
-- catalog: what is defined, with the counts of tuples.
-- log: the log in memory.
-- root, number: the selected root and its number.
pub record StoreView : Type 1 where
  pub pages : PagesView
  pub catalog : CatalogView
  pub log : LogView
  pub root : Root
  pub number : ℕ

-- A call may be made. On a device that tells its contents, the pages spell some tables.
pub record IsReady (view : StoreView) : Type 0 where
  pub number_low : 0 < view.number
  pub number_high : view.number < 3
  pub formed : IsWellFormed view.root
  pub size : view.pages.slots ≡ view.root.slots
  pub log_pages : view.pages.backing.log_pages ≡ view.root.log_pages
  pub area : view.pages.backing.area ≡ view.root.area
  pub log : IsLogBehind view.root view.log
  pub system : HasSystemPages view.pages.mapped
  pub pending_places : length view.catalog.pending ≡ system_pages
  pub settled_now : view.pages.settled ≡ true
  pub heaps : IsTold view.pages.disk → AreHeaps view.pages
  pub tables : IsTold view.pages.disk → ∥ HasTables (both view.pages view.catalog) ∥₁

-- The selected root has the whole log, and the map that it names has each page, once.
pub record IsSaved (view : StoreView) : Type 0 where
  pub log : view.root.end ≡ view.log.end
  pub pages : view.pages.mapped ≡ mapped_by view.pages.backing.shadow
  pub count : page_count view.pages.backing.shadow ≡ mapped_pages view.pages.slots view.pages.mapped

-- ---- the log in memory

-- it has so many bytes more
pub record Grows (size : ℕ) (old new : LogView) : Type 0 where
  pub pages : new.pages ≡ old.pages
  pub head : new.head ≡ old.head
  pub end : new.end ≡ old.end + size
