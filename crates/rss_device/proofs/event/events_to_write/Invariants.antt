use Rattle.std.proofs.Common.{◌≡◌, ◌≤◌, take}
use Rattle.rss_device.specs.Memory.{writes_in}
use Rattle.rss_device.proofs.event.events_to_write.Given as goal

abbrev pub invariant-loop-i : goal.invariant-loop-i
invariant-loop-i l = record {
  counted : l.writes ≡ writes_in (take l.i l.events);
  before : l.writes ≤ l.k;
}
