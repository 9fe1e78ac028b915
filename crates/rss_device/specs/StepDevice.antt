-- A device in memory that another one follows: what it tells, and its steps.
use Rattle.std.specs.Prelude.{◌≡◌, ℕ, List, [], length, Some}
use Rattle.rss_base.specs.DiskRule.{Pages, LeavesOnly}
use Rattle.rss_base.specs.Devices.{DeviceView}
use Rattle.rss_device.specs.Memory.{disk_of}
use Rattle.rss_device.specs.Steps.{all_steps, events_in}
use Rattle.rss_device.specs.declared.step.Step.{Step}
use Rattle.rss_device.specs.declared.step_device.StepDevice.{StepDevice}

-- all steps so far
abbrev pub steps_of : StepDevice → List Step
steps_of device = all_steps device.steps

-- how many of them, from the first on, are kept no more
abbrev pub gone_of : StepDevice → ℕ
gone_of device = device.steps.gone

-- What there is to see of it. Each step is a moment.
abbrev pub view_of : StepDevice → DeviceView
view_of device = record {
  disk = disk_of device.steps.past.first (events_in device.steps) device.pages.items;
  size = length device.pages.items;
  writes = device.writes;
  faults = device.faults;
}

-- It holds these pages, all synced, and nothing was done with it.
pub record IsFresh (pages : Pages) (device : StepDevice) : Type 0 where
  pub contents : (view_of device).disk.contents ≡ Some pages
  pub only : LeavesOnly (view_of device).disk pages
  pub none : steps_of device ≡ []
  pub faults : (view_of device).faults ≡ 0
  pub writes : (view_of device).writes ≡ 0
