-- The engine to which an opening leads.
use Rattle.std.specs.Prelude.{◌≡◌}
use Rattle.rss_base.specs.DiskRule.{Pages, Told, Leaves}
use Rattle.rss_base.specs.Devices.{DeviceView}
use Rattle.rss_base.specs.declared.place.Place.{Place}
use Rattle.rss_stored.specs.Calls.{EngineView}
use Rattle.rss_model.specs.Machine.{State, IsAtRest}
use Rattle.rss_stored.specs.Store.{Stored, IsStore, IsOverfull, size_of}
use Rattle.rss_check.specs.Refused.{IsFoundAt}
use Rattle.rss_store.specs.Opening.{HasTables, OpensAt, IsSpent, PassesOpening}

-- The engine is in a state at rest with the tables to which this store opens, and what a stop leaves is opened in that state.
pub record BeginsIn (stored : Stored) (new : EngineView) : Type 0 where
  pub state : State
  pub shows : new.shows state
  pub rest : IsAtRest (size_of stored.root) stored.tables state
  pub opens : (image : Pages) → Leaves new.disk image
      → OpensAt image (size_of stored.root) stored.tables state

-- The engine over a device that was opened. The device's pages are at no place found to be no store, and spell tables; the positions of their log aren't used up; and where they are a store, that is where it begins.
pub record IsOpened (old : DeviceView) (new : EngineView) : Type 0 where
  pub begins : Told old.disk (λ pages. (stored : Stored) → IsStore pages stored
      → BeginsIn stored new)
  pub up : new.is_up
  pub none_asked : new.calls ≡ 0
  pub unbroken : (place : Place) → Told old.disk (λ pages. IsFoundAt pages place → ⊥)
  pub not_overfull : Told old.disk (λ pages. IsOverfull pages → ⊥)
  pub not_spent : Told old.disk (λ pages. IsSpent pages → ⊥)
  pub tables : Told old.disk HasTables

-- It stands on the device as the opening left it.
pub record OpensOver (old below : DeviceView) (new : EngineView) : Type 0 where
  pub opened : IsOpened old new
  pub passes : PassesOpening old below
