-- Why pages don't open, by the fault that is answered.
use Rattle.std.specs.Prelude.{◌≡◌, ◌⊎◌, ◌≤◌, ⊤}
use Rattle.rss_base.specs.DiskRule.{Pages, Told, IsTold}
use Rattle.rss_base.specs.Devices.{DeviceView}
use Rattle.rss_base.specs.declared.fault.OpenFault.{OpenFault}
use Rattle.rss_base.specs.declared.fault.OpenFault.TheVariants.{Device as DeviceFailed, NotAStore, Damaged, WrongSize, NoMemory as LacksMemory}
use Rattle.rss_base.specs.declared.fault.PageFault.{PageFault}
use Rattle.rss_base.specs.declared.fault.PageFault.TheVariants.{Device as PageDevice, Damaged as PageDamaged, NoMemory as PageNoMemory}
use Rattle.rss_base.specs.declared.place.Place.{Place}
use Rattle.rss_base.specs.declared.place.Place.TheVariants.{Log as LogPlace, Room}
use Rattle.rss_stored.specs.Store.{Stored, IsStore, IsOverfull}
use Rattle.rss_check.specs.Lines.{Links, line_number}
use Rattle.rss_check.specs.Faults.{IsFirstFault}

-- the pages are no store
abbrev pub IsNoStore : Pages → Type 0
IsNoStore pages = (stored : Stored) → IsStore pages stored → ⊥

-- ---- what is found before anything is written

-- It is the first place at which pages are no store, by the lines up to the links.
pub record IsFoundAt (pages : Pages) (place : Place) : Type 0 where
  pub first : IsFirstFault pages place
  pub early : line_number first.line ≤ line_number Links

-- a place that such a line may have: none of the log, and not the room
abbrev pub IsEarlyPlace : Place → Type 0
IsEarlyPlace (LogPlace position) = ⊥
IsEarlyPlace Room = ⊥
IsEarlyPlace place = ⊤

-- The fault of an opening, by that of a look: what this finds damaged is no store.
abbrev pub look_error : PageFault → OpenFault
look_error PageDevice = DeviceFailed
look_error (PageDamaged place) = NotAStore place
look_error PageNoMemory = LacksMemory

-- ---- why pages don't open

-- The place is named, but of so many pages that they aren't looked through. What is damaged is no store either.
pub record IsRefused (pages : Pages) (fault : OpenFault) : Type 0 where
  pub named : (place : Place) → fault ≡ NotAStore place → IsFoundAt pages place
  pub names : (place : Place) → IsFoundAt pages place
      → (fault ≡ NotAStore place) ⊎ (fault ≡ DeviceFailed) ⊎ (fault ≡ LacksMemory) ⊎ IsOverfull pages
  pub no_store : (place : Place) → fault ≡ Damaged place → IsNoStore pages
  pub only_overfull : fault ≡ Damaged Room → IsOverfull pages
  pub overfull : IsOverfull pages
      → (fault ≡ Damaged Room) ⊎ (fault ≡ DeviceFailed) ⊎ (fault ≡ LacksMemory)

-- A device didn't open, and this is the fault: why, where it tells its contents. There damage is named in the log alone, or of too many pages.
pub record IsUnopened (device : DeviceView) (fault : OpenFault) : Type 0 where
  pub refused : Told device.disk (λ pages. IsRefused pages fault)
  pub late : (place : Place) → fault ≡ Damaged place → IsTold device.disk → IsEarlyPlace place → ⊥
  pub right_size : fault ≡ WrongSize → ⊥
