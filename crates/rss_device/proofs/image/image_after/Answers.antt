use Rattle.std.proofs.Common.{rules}
use Rattle.rss_device.specs.Memory.{replay, at_first}
use Rattle.rss_device.specs.Stop.{IsLeft}
use Rattle.rss_device.proofs.Images.{agrees, left_after, left_is_image}
use Rattle.rss_device.proofs.image.image_after.Goals as goal

pub returns-clause-image : goal.returns-clause-image
returns-clause-image c =
    let left : IsLeft c.args.unsynced (replay (at_first c.args.first.now) c.args.events.now) c.leave_all-2.new.pages.items = left_after
    c.args.unsynced c.args.first.now c.args.events.now c.synced_events-synced.result c.leave_all.new.pages.items c.leave_all-2.new.pages.items
    c.synced_events-synced.ensures.settled c.synced_events-synced.ensures.unsynced
    (c.in_ok-leave_all.ensures (at_first c.args.first.now) (λ k d lt. tt) (search rules)) c.in_ok-leave_all-2.ensures in
    left_is_image c.args.unsynced _ _ (agrees c.args.first.now c.args.events.now) left

pub returns-clause-left : goal.returns-clause-left
returns-clause-left c = left_after
    c.args.unsynced c.args.first.now c.args.events.now c.synced_events-synced.result c.leave_all.new.pages.items c.leave_all-2.new.pages.items
    c.synced_events-synced.ensures.settled c.synced_events-synced.ensures.unsynced
    (c.in_ok-leave_all.ensures (at_first c.args.first.now) (λ k d lt. tt) (search rules)) c.in_ok-leave_all-2.ensures
