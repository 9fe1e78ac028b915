use Rattle.std.proofs.Common.{◌<◌, ◌≤◌, ℕ, take, get_or}
use Rattle.rss_device.specs.Stop.{IsSettled, IsUnsynced}
use Rattle.rss_device.specs.declared.event.Event.TheVariants.{Synced}
use Rattle.rss_device.proofs.image.synced_events.Given as goal

abbrev pub invariant-loop-i : goal.invariant-loop-i
invariant-loop-i l = record {
  within : l.synced ≤ l.i;
  settled : IsSettled (take l.synced l.events);
  unsynced : (k : ℕ) → l.synced ≤ k → k < l.i → IsUnsynced (get_or l.events k Synced);
}
