use Rattle.std.proofs.Common.{◌≡◌, ◌+◌, ◌<◌, ℕ, length}
use Rattle.rss_base.specs.DiskRule.{page, IsWithin}
use Rattle.rss_device.specs.Memory.{OnlyTouches}
use Rattle.rss_device.specs.StepDevice.{view_of}
use Rattle.rss_device.proofs.step_device.StepDeviceDevice.write_run.Given as goal

abbrev pub invariant-loop-k : goal.invariant-loop-k
invariant-loop-k l = record {
  only : OnlyTouches (IsWithin l.at (length l.from)) (view_of l.initial.self) (view_of l.self);
  holds : (j : ℕ) → j < l.k → page l.self.pages.items (l.at + j) ≡ page l.from j;
}
