-- What there is to see of a durable store.
use Rattle.rss_base.specs.Steps.{PagesView}
use Rattle.rss_store.specs.Stores.{StoreView}
use Rattle.rss_store.specs.declared.store.DurableStore.{DurableStore}

-- over pages of which this is to be seen
abbrev pub view : {S : Type 0} → (S → PagesView) → DurableStore S → StoreView
view pages_view store = record {
  pages = pages_view store.tuples.pages;
  catalog = store.catalog;
  log = store.log;
  root = store.root;
  number = store.number;
}

-- the pages under it
abbrev pub pages_of : {S : Type 0} → DurableStore S → S
pages_of store = store.tuples.pages
