-- Changes that are made and taken back: what they ask of a state, and the state to which they lead.
use Rattle.std.specs.Prelude.{◌≡◌, ℕ, ◌+◌, List, reverse, map, slice_get, Some, Result, IsErrOf, OnOk}
use Rattle.rss_base.specs.Faults.{Rises}
use Rattle.rss_base.specs.Steps.{PagesStep}
use Rattle.rss_base.specs.declared.fault.PageFault.{PageFault}
use Rattle.rss_base.specs.declared.fault.PageFault.TheVariants.{Device as DeviceFailed, NoMemory}
use Rattle.rss_base.specs.declared.change.Change as told
use Rattle.rss_model.specs.Tables.{content}
use Rattle.rss_model.specs.Changes.{Change, mine}
use Rattle.rss_model.specs.Meter.{Stamp}
use Rattle.rss_model.specs.Machine.{State, now}
use Rattle.rss_model.specs.Meanings.{SameDefinitions}
use Rattle.rss_model.specs.Steps.{IsOver, stamp_by}
use Rattle.rss_model.specs.Kept.{FitMixed}
use Rattle.rss_model.specs.Restart.{OnlyBy}
use Rattle.rss_stored.specs.LogLaws.{IsToldBy, noted, gone_back, all_back}
use Rattle.rss_access.specs.Changes.{AccessView, both, HasRoomFor, alter_cost, Takes}
use Rattle.rss_access.specs.Written.{content_of}
use Rattle.rss_restart.specs.Restarting.{KeepsCatalog}
use Rattle.rss_restart.specs.Walks.{TellsAt}
use Rattle.rss_store.specs.Stores.{StoreView}
use Rattle.rss_store.specs.Shown.{Shows, ShowsBack}

-- ---- a change

-- The change of what is there, of an item that no other transaction has changed. The committed tables fit with it, and with any of the others up to some time of each.
pub record MayMake (view : StoreView) (state : State) (told_change : told.Change) (change : Change) : Type 0 where
  pub told : IsToldBy view.catalog.listing told_change change
  pub finds : change.old ≡ content (now state).contents change.item
  pub alone : OnlyBy change.by change.item state.changes
  pub mixed : FitMixed (noted change state.meter.over state)

-- it is made, with as many overflow pages as the machine allows
pub record MakesOne (new : StoreView) (state : State) (change : Change) : Type 0 where
  pub over : ℕ
  pub allowed : IsOver state change over
  pub shows : Shows new (noted change over state)

-- from each state in which it may be made
abbrev pub MakesChange : StoreView → StoreView → ℕ → told.Change → Type 0
MakesChange old new t told_change = (state : State) (change : Change) → change.by ≡ t
    → Shows old state → MayMake old state told_change change → MakesOne new state change

-- ---- ways back

-- the positions of a transaction's changes, the oldest first
abbrev pub own_positions : ℕ → List Stamp → List ℕ
own_positions t stamps = reverse (map (λ stamp. stamp.at) (mine stamp_by t stamps))

-- the change that has so many older ones of its transaction has this position
abbrev pub IsOwnAt : State → ℕ → ℕ → ℕ → Type 0
IsOwnAt state t n position = slice_get (own_positions t state.meter.stamps) n ≡ Some position

-- one change of a transaction less is in the tables
abbrev pub TakesBackOne : StoreView → StoreView → ℕ → Type 0
TakesBackOne old new position = (state : State) (t n : ℕ) → IsOwnAt state t n position
    → ShowsBack old state t (n + 1) → ShowsBack new state t n

-- what was taken back is gone from the log
abbrev pub CutsAt : StoreView → StoreView → ℕ → ℕ → Type 0
CutsAt old new t position = (state : State) (n : ℕ) → IsOwnAt state t n position
    → (back : ShowsBack old state t n) → FitMixed (gone_back t n back.over state)
    → Shows new (gone_back t n back.over state)

abbrev pub CutsAll : StoreView → StoreView → ℕ → Type 0
CutsAll old new t = (state : State) (back : ShowsBack old state t 0)
    → FitMixed (all_back t back.over state) → Shows new (all_back t back.over state)

-- ---- what a change and its undoing pass on

abbrev pub access : StoreView → AccessView
access view = both view.pages view.catalog

-- By the result: pages of tuples and images alone are touched, and two home or overflow pages are taken at most. The catalog is sound still, and lists the same definitions. Each failure of the device has its cause, and memory never runs out.
pub record AltersPages {T : Type 0} (old new : StoreView) (result : Result T PageFault) : Type 0 where
  pub step : PagesStep (content_of old.catalog.listing) (alter_cost old.pages.slots) (alter_cost old.pages.slots)
      old.pages new.pages
  pub takes : OnOk result (Takes 2 old.pages new.pages)
  pub keeps : KeepsCatalog (access old) (access new)
  pub definitions : OnOk result (SameDefinitions old.catalog.listing new.catalog.listing)
  pub failed : IsErrOf result DeviceFailed → Rises old.pages.faults new.pages.faults
  pub memory : IsErrOf result NoMemory → ⊥
  pub root : new.root ≡ old.root
  pub number : new.number ≡ old.number

-- where there is room, in no state in which the change may be made is anything found damaged
abbrev pub MayNotMake : StoreView → ℕ → told.Change → Type 0
MayNotMake view t told_change = HasRoomFor (access view) told_change
    → (state : State) (change : Change) → change.by ≡ t
    → Shows view state → MayMake view state told_change change → ⊥

-- nor on a way back
abbrev pub MayNotTakeBack : StoreView → ℕ → Type 0
MayNotTakeBack view position = (told_change : told.Change) → TellsAt view.log position told_change
    → HasRoomFor (access view) told_change → (state : State) (t n : ℕ) → IsOwnAt state t n position
    → ShowsBack view state t (n + 1) → ⊥
