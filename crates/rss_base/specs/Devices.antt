-- What there is to see of a device, and what a call on it passes on, whatever it does.
use Rattle.std.specs.Prelude.{◌≡◌, ◌↔◌, ℕ, ◌+◌, ◌*◌, ◌<◌, ◌≤◌, Result, IsErr, IsErrOf}
use Rattle.rss_base.specs.DiskRule.{Disk, Pages, IsTold, Passes, Leaves, Places, WritesIn}
use Rattle.rss_base.specs.Faults.{HasCause, Rises, count_limit}
use Rattle.rss_base.specs.Runs.{run_pages}
use Rattle.rss_base.specs.declared.fault.Failed.{Failed}
use Rattle.rss_base.specs.declared.fault.OpenFault.{OpenFault}
use Rattle.rss_base.specs.declared.fault.OpenFault.TheVariants.{Device as DeviceFailed}

-- disk: what it tells of its pages: what a read gives, and what a stop at each moment may leave.
-- size: how many pages there are. A device that tells nothing has as many as its last `size` or
-- `set_size` said.
-- writes, faults: how many pages were written, each page of a run counted, and how often it failed,
-- counted up to 2 ^ 64 - 1.
pub record DeviceView : Type 1 where
  pub disk : Disk
  pub size : ℕ
  pub writes : ℕ
  pub faults : ℕ

-- The device tells what it told, a stop leaves what was left before, no write is counted, and the
-- count of the faults never falls.
pub record OnlyReads (old new : DeviceView) : Type 0 where
  pub contents : new.disk.contents ≡ old.disk.contents
  pub moments : IsTold old.disk → Passes old.disk new.disk (Leaves old.disk)
  pub same_writes : new.writes ≡ old.writes
  pub later : old.faults ≤ new.faults

-- The device is as it was.
pub record SameDevice (old new : DeviceView) : Type 0 where
  pub contents : new.disk.contents ≡ old.disk.contents
  pub moment : new.disk.moment ≡ old.disk.moment
  pub images : (t : ℕ) (image : Pages) → new.disk.images t image ↔ old.disk.images t image
  pub size : new.size ≡ old.size
  pub writes : new.writes ≡ old.writes
  pub faults : new.faults ≡ old.faults

-- A call that reads pages, by its result.
pub record ReadsPages {T : Type 0} (old new : DeviceView) (result : Result T Failed) : Type 0 where
  pub reads : OnlyReads old new
  pub size : new.size ≡ old.size
  pub failed : IsErr result → Rises old.faults new.faults

-- A call of an opening, by its result.
pub record ReadsStore {T : Type 0} (old new : DeviceView) (result : Result T OpenFault) : Type 0 where
  pub reads : OnlyReads old new
  pub failed : IsErrOf result DeviceFailed → Rises old.faults new.faults

-- A call that writes so many pages at most, and only in these places, by its result.
pub record WritesPages {T : Type 0} (places : Places) (count : ℕ) (old new : DeviceView) (result : Result T Failed) : Type 0 where
  pub only : WritesIn places old.disk new.disk
  pub size : new.size ≡ old.size
  pub writes : new.writes ≤ old.writes + count
  pub cause : HasCause old.faults new.faults result

-- ---- pages that are driven out of memory

-- What there is to see of a device whose pages are kept in memory: what it tells, which of its pages
-- are free, how many were written, and how many pages were driven out of memory. The counts go up to
-- 2 ^ 64 - 1.
pub record DrivenView : Type 1 where
  pub disk : Disk
  pub free : Places
  pub writes : ℕ
  pub outs : ℕ

-- Free pages alone are written, and no more of them than a run for each page that is driven out. No
-- other pages come to be free. Once the count of those driven out has come to its limit, nothing is
-- said of how many are written.
pub record DrivesOut (old new : DrivenView) : Type 0 where
  pub only : WritesIn old.free old.disk new.disk
  pub still : (q : ℕ) → new.free q → old.free q
  pub later : old.outs ≤ new.outs
  pub few : new.outs < count_limit
      → new.writes + run_pages * old.outs ≤ old.writes + run_pages * new.outs
