-- A store that was opened: an engine over a session in which no transaction is open.
use Rattle.std.proofs.Common.{◌≡◌, ℕ, length, sym, ◌∙◌, ap, subst, arith}
use Rattle.std.specs.Prelude.{unwrap_or}
use Rattle.std.specs.FinMap.{FinMap, empty, get, get-empty}
use Rattle.std.specs.Ordering.{nat_cmp}
use Rattle.std.proofs.lemmas.Option.{none-some}
use Rattle.rss_base.specs.Devices.{DeviceView}
use Rattle.rss_base.specs.DiskRule.{Pages}
use Rattle.rss_base.specs.Paged.{mapped_of}
use Rattle.rss_base.specs.Steps.{device_below}
use Rattle.rss_base.specs.declared.key.Space.TheVariants.{Overflow}
use Rattle.rss_lock.specs.Locks.{LocksView}
use Rattle.rss_model.specs.Locks.{claim, claim_cmp}
use Rattle.rss_model.specs.Machine.{StoreSize, State, IsAtRest}
use Rattle.rss_model.specs.Ruled.{HasBothRooms}
use Rattle.rss_stored.specs.Store.{Stored, IsStore, size_of}
use Rattle.rss_model.specs.Tables.{Tables}
use Rattle.rss_stored.proofs.LogPlaced.{recovered_fit}
use Rattle.rss_model.proofs.StepKeeping.{rest_keeps}
use Rattle.rss_scan.specs.Scans.{OpenScans}
use Rattle.rss_trans.specs.Transactions.{Transaction, nothing, OpenView, transaction_in}
use Rattle.rss_store.specs.Opening.{OpensStore}
use Rattle.rss_store.specs.Opening.{BeginsIn as StoreBeginsIn}
use Rattle.rss_store.specs.Shown.{Shows as StoreShows}
use Rattle.rss_store.specs.Stores.{StoreView, IsSaved}
use Rattle.rss_store.specs.Stores.{IsReady as IsStoreReady}
use Rattle.rss_store.proofs.Unopened.{passes_sized}
use Rattle.rss_session.specs.Sessions.{SessionView}
use Rattle.rss_session.specs.Sessions.{IsReady as IsSessionReady}
use Rattle.rss_session.specs.Shown.{Shows, IsRested}
use Rattle.rss_rsi.specs.Opening.{BeginsIn, IsOpened, OpensOver}
use Rattle.rss_rsi.specs.Views.{IsReady, engine_view}
use Rattle.rss_rsi.proofs.Spelled.{none_open, still_scans}

-- ---- ready

none_saved : (opened : OpenView) → opened.transactions ≡ empty → (t : ℕ) → length (transaction_in opened t).saves ≡ 0
none_saved opened none t =
    ap (λ (m : FinMap nat_cmp Transaction). length (unwrap_or (get m t) nothing).saves) none ∙ ap (λ o. length (unwrap_or o nothing).saves) (get-empty {X = Transaction} nat_cmp t)

pub opened_ready : {old : DeviceView} {store : StoreView} {session : SessionView} → OpensStore old store → session.store ≡ store → IsSessionReady session → session.opened.transactions ≡ empty → IsReady (record { session = session; locks = record { locks = empty; spare = 0 }; scans = empty }) 0
opened_ready {session = session} is same ready none = record {
  session = ready;
  paced = omega (arith, is.early, ap (λ (s : StoreView). s.log.end) same);
  saves = λ t. omega (arith, none_saved session.opened none t);
  scans = λ number scan has. absurd (none-some scan (sym (get-empty nat_cmp number) ∙ has));
  holders = λ t item mode has. absurd (none-some mode (sym (get-empty claim_cmp (claim t item)) ∙ has));
}

-- ---- where it begins

-- how a session shows a state at rest of its store
abbrev pub ShowsRest : StoreView → SessionView → Type 0
ShowsRest store session = (size : StoreSize) (tables : Tables) (state : State) → StoreShows store state → IsAtRest size tables state → HasBothRooms state → IsRested session state → Shows session state

module _ (session : SessionView) (ready : IsStoreReady session.store) (saved : IsSaved session.store) where
  -- the map on the disk has all pages
  rested_saved : {state : State} → StoreShows session.store state → IsRested session state
  rested_saved shows none all = shows.over_is ∙ (λ i. mapped_of (saved.pages i) Overflow (ready.size i))

  begins_in : {pages : Pages} {stored : Stored} {locks : LocksView} {scans : OpenScans} {calls : ℕ} {up : Type 0} → locks.locks ≡ empty → scans ≡ empty → ShowsRest session.store session → IsStore pages stored → StoreBeginsIn stored session.store → BeginsIn stored (engine_view (record { session = session; locks = locks; scans = scans }) calls up)
  begins_in {stored = stored} none none_scanned shows store begins = record {
    state = begins.state;
    shows = record {
      shows = shows _ stored.tables begins.state begins.shows begins.rest (record { metered = begins.metered; log = begins.room }) (rested_saved begins.shows);
      locked = begins.rest.idle.none_locked ∙ sym none;
      scanned = still_scans none_scanned begins.rest.idle.none_scanned (none_open begins.state.base.definitions empty empty (λ number. get-empty nat_cmp number) (λ number. get-empty nat_cmp number));
      kept = rest_keeps (size_of stored.root) stored.tables begins.state begins.rest.idle (recovered_fit store.log);
    };
    rest = begins.rest;
    opens = begins.opens;
  }

-- the store of the session was opened
opened_there : {old : DeviceView} {session : SessionView} {locks : LocksView} {scans : OpenScans} {calls : ℕ} {up : Type 0} → OpensStore old session.store → locks.locks ≡ empty → scans ≡ empty → ShowsRest session.store session → calls ≡ 0 → up → IsOpened old (engine_view (record { session = session; locks = locks; scans = scans }) calls up)
opened_there {session = session} is none none_scanned shows none_asked is_up = record {
  begins = λ pages told stored store. begins_in session is.ready is.saved none none_scanned shows store (is.begins pages told stored store);
  up = is_up;
  none_asked = none_asked;
  unbroken = is.unbroken;
  not_overfull = is.not_overfull;
  not_spent = is.not_spent;
  tables = is.tables;
}

pub opens_over : {old : DeviceView} {store : StoreView} {session : SessionView} {locks : LocksView} {scans : OpenScans} {calls : ℕ} {up : Type 0} (size : ℕ) → OpensStore old store → session.store ≡ store → locks.locks ≡ empty → scans ≡ empty → ShowsRest store session → calls ≡ 0 → up → OpensOver old (record (device_below session.store.pages) { size = size }) (engine_view (record { session = session; locks = locks; scans = scans }) calls up)
opens_over {old = old} {session = session} size is same none none_scanned shows none_asked is_up =
    let here : OpensStore old session.store = subst (OpensStore old) (sym same) is in
    record {
      opened = opened_there here none none_scanned (subst (λ (s : StoreView). ShowsRest s session) (sym same) shows) none_asked is_up;
      passes = passes_sized size here.passes;
    }
