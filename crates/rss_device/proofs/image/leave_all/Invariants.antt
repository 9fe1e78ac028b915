use Rattle.std.proofs.Common.{take, All}
use Rattle.rss_device.specs.Memory.{Held, replay}
use Rattle.rss_device.specs.Stop.{Allows, IsLeft}
use Rattle.rss_device.proofs.image.leave_all.Given as goal

abbrev pub invariant-loop-event : goal.invariant-loop-event
invariant-loop-event l = (held : Held) → All (Allows l.unsynced) l.events → IsLeft l.unsynced held l.initial.pages.items → IsLeft l.unsynced (replay held (take l.event-index l.events)) l.pages.items
