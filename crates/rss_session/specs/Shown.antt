-- The states of the machine in which a session may be.
use Rattle.std.specs.Prelude.{◌≡◌, ℕ, List, length}
use Rattle.rss_base.specs.Paged.{mapped_of}
use Rattle.rss_base.specs.StoredPages.{mapped_by}
use Rattle.rss_base.specs.Listings.{Listing, IsNumberOf}
use Rattle.rss_base.specs.declared.key.Space.TheVariants.{Overflow}
use Rattle.rss_base.specs.declared.name.Name.{Name}
use Rattle.rss_base.specs.declared.refusal.Kind.TheVariants.{Relation}
use Rattle.rss_model.specs.Changes.{kept_to}
use Rattle.rss_model.specs.Machine.{State}
use Rattle.rss_model.specs.Meter.{Traffic}
use Rattle.rss_model.specs.Records.{Listed}
use Rattle.rss_model.specs.Ruled.{HasBothRooms}
use Rattle.rss_trans.specs.Told.{TellsOpen, TellsSince, IsListOf, listed_by}
use Rattle.rss_store.specs.Shown.{Shows as StoreShows, ShowsBack as StoreShowsBack}
use Rattle.rss_session.specs.Sessions.{SessionView}

-- Where no change was made since the last checkpoint and none undone, there are as many overflow pages as in its map.
abbrev pub IsRested : SessionView → State → Type 0
IsRested view state =
    state.meter.since ≡ 0 → length state.changes ≡ state.meter.surviving
    → state.meter.over ≡ mapped_of (mapped_by view.store.pages.backing.shadow) Overflow view.store.root.slots

-- What was counted of each relation at the last checkpoint is the meter's.
pub record CountsEach (listing : Listing) (tuples changes : ℕ → ℕ) (traffic : Name → Traffic) : Type 0 where
  pub entries : (relation : Name) (number : ℕ) → IsNumberOf Relation listing relation number
      → (traffic relation).entries ≡ tuples number
  pub survived : (relation : Name) (number : ℕ) → IsNumberOf Relation listing relation number
      → (traffic relation).surviving ≡ changes number

-- What is counted is the meter's, and there is room for all pages and in the log.
pub record Counts (view : SessionView) (state : State) : Type 0 where
  pub each : CountsEach view.store.catalog.listing view.entries view.survived state.meter.traffic
  pub since : TellsSince view.store.catalog.listing view.opened state.meter
  pub heap : state.meter.heap ≡ view.heap
  pub surviving : state.meter.surviving ≡ view.surviving
  pub rooms : HasBothRooms state

-- The session is in this state: so is its store, the open transactions are those of the state with their changes, and the counts are its meter's.
pub record Shows (view : SessionView) (state : State) : Type 0 where
  pub store : StoreShows view.store state
  pub listed : List Listed
  pub list : IsListOf state.changes state.meter.stamps listed
  pub told : TellsOpen view.store.catalog.listing view.opened state.marks listed
  pub counted : Counts view state
  pub rested : IsRested view state

-- On a way back of a transaction: of its changes only the oldest so many are still in the tables.
pub record ShowsBack (view : SessionView) (state : State) (t n : ℕ) : Type 0 where
  pub store : StoreShowsBack view.store state t n
  pub listed : List Listed
  pub list : IsListOf state.changes state.meter.stamps listed
  pub told : TellsOpen view.store.catalog.listing view.opened state.marks (kept_to listed_by t n listed)
  pub counted : Counts view state
