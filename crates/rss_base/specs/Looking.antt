-- What a look at pages passes on, whatever they hold.
use Rattle.std.specs.Prelude.{◌≡◌, ℕ, Result, IsErrOf}
use Rattle.rss_base.specs.DiskRule.{IsTold}
use Rattle.rss_base.specs.Paged.{AreAmong}
use Rattle.rss_base.specs.Devices.{OnlyReads}
use Rattle.rss_base.specs.Faults.{Rises}
use Rattle.rss_base.specs.Steps.{PagesView, Keys, PagesStep, NoneChanged, device_below}
use Rattle.rss_base.specs.declared.fault.PageFault.{PageFault}
use Rattle.rss_base.specs.declared.fault.PageFault.TheVariants.{Device as DeviceFailed}

-- No page is changed, and nothing is written where none was changed before; these pages may be noted, and so many asked for.
pub record LooksStep (noted : Keys) (asks : ℕ) (old new : PagesView) : Type 0 where
  pub step : PagesStep noted asks asks old new
  pub mapped : new.mapped ≡ old.mapped
  pub held : IsTold old.disk → new.held ≡ old.held
  pub changed : AreAmong new.changed old.changed
  pub unwritten : NoneChanged old → OnlyReads (device_below old) (device_below new)

-- What a look through pages passes on, by its result.
pub record ChecksPages {T : Type 0} (noted : Keys) (asks : ℕ)
    (old new : PagesView) (result : Result T PageFault) : Type 0 where
  pub looks : LooksStep noted asks old new
  pub failed : IsErrOf result DeviceFailed → Rises old.faults new.faults
