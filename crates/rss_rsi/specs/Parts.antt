-- What an `Rss` stands on, and what there is to see of it.
use Rattle.std.specs.Prelude.{◌≡◌, false}
use Rattle.rss_base.specs.declared.pages.Pages.{Ghosts as PagesGhosts}
use Rattle.rss_buffer.specs.declared.saving.Saving.{Ghosts}
use Rattle.rss_stored.specs.Calls.{EngineView}
use Rattle.rss_store.specs.declared.store.DurableStore.{DurableStore}
use Rattle.rss_lock.specs.Table.{told}
use Rattle.rss_scan.specs.Scans.{told as scans_told}
use Rattle.rss_session.specs.Sessions.{SessionView}
use Rattle.rss_session.specs.Parts.{view as session_view}
use Rattle.rss_rsi.specs.Views.{RssParts, engine_view}
use Rattle.rss_rsi.specs.declared.engine.Rss.{Rss}

module _ {S : Type 0} {g : Ghosts S} {h : PagesGhosts S} where
  -- the pages under the store
  abbrev pub pages_below : Rss S g h → S
  pages_below store = store.session.store.tuples.pages

  -- the durable store in which its session stands
  abbrev pub store_of : Rss S g h → DurableStore S
  store_of store = store.session.store

  -- its session
  abbrev pub session_of : Rss S g h → SessionView
  session_of store = session_view h.view store.session

  -- with its locks and scans
  abbrev pub parts_of : Rss S g h → RssParts
  parts_of store = record { session = session_of store; locks = told store.locks; scans = scans_told store.scans }

  -- what there is to see of it
  abbrev pub view : Rss S g h → EngineView
  view store = engine_view (parts_of store) store.calls (store.down ≡ false)
