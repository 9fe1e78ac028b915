-- A device in memory: what it tells, its moments, and the calls of it that fail.
use Rattle.std.specs.Prelude.{◌≡◌, ℕ, List, [], length, take, Some, Contains, Result, IsErr}
use Rattle.rss_base.specs.DiskRule.{Pages, LeavesOnly}
use Rattle.rss_base.specs.Devices.{DeviceView}
use Rattle.rss_base.specs.Faults.{counted}
use Rattle.rss_device.specs.Memory.{Held, replay, at_first, writes_in, disk_of}
use Rattle.rss_device.specs.declared.memory.MemDevice.{MemDevice}

-- what there is to see of it
abbrev pub view_of : MemDevice → DeviceView
view_of device = record {
  disk = disk_of device.first.items device.events.items device.pages.items;
  size = length device.pages.items;
  writes = device.writes;
  faults = device.faults;
}

-- what it held at a moment
abbrev pub held_at : MemDevice → ℕ → Held
held_at device moment = replay (at_first device.first.items) (take moment device.events.items)

-- How many pages were written up to a moment, each page of a run and those of writes that failed
-- among them.
abbrev pub writes_by : MemDevice → ℕ → ℕ
writes_by device moment = writes_in (take moment device.events.items)

-- the numbers of the calls that fail
abbrev pub failing_calls : MemDevice → List ℕ
failing_calls device = device.calls.failing.items

-- the number of the next call
abbrev pub next_call : MemDevice → ℕ
next_call device = device.calls.next

-- It holds these pages, all synced, and nothing was done with it.
pub record IsFresh (pages : Pages) (device : MemDevice) : Type 0 where
  pub contents : (view_of device).disk.contents ≡ Some pages
  pub only : LeavesOnly (view_of device).disk pages
  pub faults : (view_of device).faults ≡ 0
  pub writes : (view_of device).writes ≡ 0
  pub failing : failing_calls device ≡ []
  pub next : next_call device ≡ 0

-- a call fails where its number is one of those that fail, and each call is counted
pub record IsNumbered {T E : Type 0} (old new : MemDevice) (result : Result T E) : Type 0 where
  pub due : Contains (failing_calls old) (next_call old) → IsErr result
  pub next : next_call new ≡ counted (next_call old)
  pub same : failing_calls new ≡ failing_calls old

-- a call that needs no memory fails only where its number is one of those that fail
abbrev pub FailsAsNumbered : {T E : Type 0} → MemDevice → Result T E → Type 0
FailsAsNumbered old result = IsErr result → Contains (failing_calls old) (next_call old)
