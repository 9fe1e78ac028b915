-- What stands behind a session: the log, and what a stop leaves, whatever is done to pages of images and to the catalog.
use Rattle.std.proofs.Common.{◌≡◌, ◌++◌, sym, ◌∙◌, ap, subst}
use Rattle.rss_base.specs.LogRecords.{ArePlaced}
use Rattle.rss_base.specs.Paged.{mapped_of}
use Rattle.rss_base.specs.declared.key.Space.TheVariants.{Overflow}
use Rattle.rss_base.specs.declared.root.Root.{Root}
use Rattle.rss_log.specs.Logs.{LogView, HasRecords}
use Rattle.rss_model.specs.EngineLogs.{EngineLog, all_logged}
use Rattle.rss_model.specs.Machine.{State}
use Rattle.rss_model.specs.Meanings.{as_bytes}
use Rattle.rss_stored.specs.Store.{Stored}
use Rattle.rss_store.specs.Shown.{HoldsLogged, LeavesStore, Shows}
use Rattle.rss_store.specs.Stores.{StoreView}
use Rattle.rss_session.specs.Calls.{StandsBehind}

-- The log and the root are as they were, a stop leaves what it left, and as many overflow pages are mapped.
pub record IsRebuilt (old new : StoreView) : Type 0 where
  pub log : new.log ≡ old.log
  pub root : new.root ≡ old.root
  pub leaves : (stored : Stored) → LeavesStore old stored → LeavesStore new stored
  pub over : mapped_of new.pages.mapped Overflow new.pages.slots ≡ mapped_of old.pages.mapped Overflow old.pages.slots

-- the log is that of the store still
logged_still : {old new : StoreView} {log : EngineLog} → new.log ≡ old.log → new.root ≡ old.root → HoldsLogged old log → HoldsLogged new log
logged_still {log = log} same root logged = record {
  head_is = ap (λ (l : LogView). l.head) same ∙ logged.head_is;
  end_is = ap (λ (l : LogView). l.end) same ∙ logged.end_is;
  records = subst (λ (l : LogView). HasRecords l (as_bytes (all_logged log))) (sym same) logged.records;
  until = subst (λ (r : Root). ArePlaced log.head (as_bytes (log.older ++ log.written)) r.end) (sym root) logged.until;
}

-- what a state shows stands behind it then
pub stands_behind : {old new : StoreView} {state : State} → IsRebuilt old new → Shows old state → StandsBehind new state
stands_behind rebuilt shows = record {
  log = shows.log;
  stored = shows.stored;
  disk = rebuilt.leaves shows.stored shows.disk;
  tied = shows.tied;
  logged = logged_still rebuilt.log rebuilt.root shows.logged;
  over_is = shows.over_is ∙ sym rebuilt.over;
}
