use Rattle.std.proofs.Common.{◌≡◌, ◌*◌, length, min}
use Rattle.rss_base.specs.DiskRule.{Told}
use Rattle.rss_base.specs.Devices.{OnlyReads}
use Rattle.rss_base.specs.Layout.{map_at}
use Rattle.rss_pagemap.specs.Taking.{IsReading, BeginsArea}
use Rattle.rss_pagemap.proofs.reading.read_table.Given as goal

abbrev pub invariant-loop-at : goal.invariant-loop-at
invariant-loop-at g l = record {
  first : l.first ≡ map_at l.root.slots l.root.area;
  reading : IsReading l.reading;
  slots : l.reading.slots ≡ l.root.slots;
  long : length l.reading.owners.items ≡ min (512 * l.at) l.root.slots;
  begins : Told (g.D.Device.view l.initial.device).disk (λ pages. BeginsArea l.root.slots pages (map_at l.root.slots l.root.area) (512 * l.at) l.reading.owners.items);
  reads : OnlyReads (g.D.Device.view l.initial.device) (g.D.Device.view l.device);
  size : (g.D.Device.view l.device).size ≡ (g.D.Device.view l.initial.device).size;
}
