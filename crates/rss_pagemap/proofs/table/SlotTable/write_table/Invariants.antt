use Rattle.std.proofs.Common.{◌≡◌, ◌≤◌, ◌-◌, length, Ok}
use Rattle.rss_base.specs.DiskRule.{Told}
use Rattle.rss_base.specs.Devices.{WritesPages}
use Rattle.rss_base.specs.Layout.{map_at, IsAreaPage}
use Rattle.rss_pagemap.proofs.Written.{IsWrittenTo}
use Rattle.rss_pagemap.proofs.table.SlotTable.write_table.Given as goal

abbrev pub decreases-loop-done : goal.decreases-loop-done
decreases-loop-done g l = l.pages - l.done

abbrev pub invariant-loop-done : goal.invariant-loop-done
invariant-loop-done g l = record {
  first : l.first ≡ map_at (length l.self) l.area;
  within : l.done ≤ l.pages;
  written : Told (g.D.Device.view l.initial.device).disk (λ pages. IsWrittenTo pages (map_at (length l.self) l.area) l.self l.done (g.D.Device.view l.device).disk.contents);
  did : WritesPages {T = Unit {0}} (IsAreaPage (length l.self) l.area) l.done (g.D.Device.view l.initial.device) (g.D.Device.view l.device) (Ok tt);
}
