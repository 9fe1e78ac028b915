use Rattle.std.proofs.Common.{Ok}
use Rattle.rss_base.specs.DiskRule.{Told, IsWithin}
use Rattle.rss_base.specs.Devices.{WritesPages}
use Rattle.rss_store.specs.Formatted.{HoldsZeros}
use Rattle.rss_store.proofs.formatting.write_zeros.Given as goal

abbrev pub invariant-loop-at : goal.invariant-loop-at
invariant-loop-at g l = record {
  zeros : Told (g.D.Device.view l.initial.device).disk (λ pages. HoldsZeros pages l.first l.at (g.D.Device.view l.device).disk.contents);
  did : WritesPages {T = Unit {0}} (IsWithin l.first l.count) l.at (g.D.Device.view l.initial.device) (g.D.Device.view l.device) (Ok tt);
}
