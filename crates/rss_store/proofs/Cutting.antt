-- The records of ways back: the states that follow are shown.
use Rattle.std.proofs.Common.{◌≡◌, ℕ, ◌^◌, ◌<◌, List, length, refl, subst}
use Rattle.rss_base.specs.declared.log_record.LogRecord.TheVariants as records
use Rattle.rss_log.specs.Logs.{LogView}
use Rattle.rss_model.specs.Changes.{Change, maker, others, kept_to}
use Rattle.rss_model.specs.Machine.{with_changes}
use Rattle.rss_model.specs.Records.{Restore, Abort}
use Rattle.rss_model.specs.Spares.{change_counts, page_counts, IsInSession}
use Rattle.rss_model.specs.EngineLogs.{appended}
use Rattle.rss_stored.specs.LogLaws.{RestoreTies, AbortTies}
use Rattle.rss_stored.specs.Store.{SpellsTables}
use Rattle.rss_model.proofs.Metering.{kept_none}
use Rattle.rss_check.specs.Layouts.{IsLogBehind}
use Rattle.rss_store.specs.Changing.{CutsAt, CutsAll}
use Rattle.rss_store.specs.Stores.{StoreView, IsReady}
use Rattle.rss_store.proofs.Growing.{Appends, logged_appended}
use Rattle.rss_store.proofs.Ways.{stands}

-- the store with another log
abbrev pub with_log : StoreView → LogView → StoreView
with_log view log = record { pages = view.pages; catalog = view.catalog; log = log; root = view.root; number = view.number }

pub ready_with : {view : StoreView} {log : LogView} → IsReady view → IsLogBehind view.root log → IsReady (with_log view log)
ready_with ready behind = record {
  number_low = ready.number_low;
  number_high = ready.number_high;
  formed = ready.formed;
  size = ready.size;
  log_pages = ready.log_pages;
  area = ready.area;
  log = behind;
  system = ready.system;
  pending_places = ready.pending_places;
  settled_now = ready.settled_now;
  heaps = ready.heaps;
  tables = ready.tables;
}

module _ (view : StoreView) (log : LogView) (at t : ℕ) (low : t < 2 ^ 32) where
  pub cuts_at : (position : ℕ) → position < 2 ^ 64 → RestoreTies → Appends (records.Restore t position) at view.log log → CutsAt view (with_log view log) t position
  cuts_at position few ties appends state n own back fit =
      let shown = back.shows in
      record {
        log = appended shown.log (records.Restore t position) (Restore t position);
        stored = shown.stored;
        disk = record { number_is = shown.disk.number_is; root_is = shown.disk.root_is; owners_are = shown.disk.owners_are; fixes = shown.disk.fixes };
        tied = record {
          ties = ties shown.stored.listing shown.stored.saved shown.log state t n position back.over shown.tied.ties (stands shown.tied.ties own) (record { bounded = tt; fits = (low, few) }) fit;
          older = shown.tied.older;
          newer = shown.tied.newer;
          size = shown.tied.size;
          tables = shown.tied.tables;
        };
        logged = logged_appended (Restore t position) refl appends shown.logged;
        definitions = shown.definitions;
        spells = shown.spells;
        written = shown.written;
        heap = shown.heap;
        session = shown.session;
        over_is = shown.over_is;
      }

  pub cuts_all : AbortTies → Appends (records.Abort t) at view.log log → CutsAll view (with_log view log) t
  cuts_all ties appends state back fit =
      let shown = back.shows in
      let none_kept : kept_to maker t 0 state.changes ≡ others t state.changes = kept_none maker t state.changes in
      record {
        log = appended shown.log (records.Abort t) (Abort t);
        stored = shown.stored;
        disk = record { number_is = shown.disk.number_is; root_is = shown.disk.root_is; owners_are = shown.disk.owners_are; fixes = shown.disk.fixes };
        tied = record {
          ties = ties shown.stored.listing shown.stored.saved shown.log state t back.over shown.tied.ties (record { bounded = tt; fits = low }) fit;
          older = shown.tied.older;
          newer = shown.tied.newer;
          size = shown.tied.size;
          tables = shown.tied.tables;
        };
        logged = logged_appended (Abort t) refl appends shown.logged;
        definitions = shown.definitions;
        spells = subst (λ (cs : List Change). SpellsTables view.pages.held view.catalog.listing (with_changes state.base cs)) none_kept shown.spells;
        written = shown.written;
        heap = shown.heap;
        session = subst (λ (cs : List Change). IsInSession (change_counts state.base.definitions state.meter) (length cs) (page_counts view.pages)) none_kept shown.session;
        over_is = shown.over_is;
      }
