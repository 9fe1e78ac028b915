use Rattle.std.proofs.Common.{[], sym, subst}
use Rattle.rss_device.specs.Memory.{Held}
use Rattle.rss_device.specs.Stop.{IsLeft}
use Rattle.rss_device.specs.declared.event.Event.TheVariants.{Wrote}
use Rattle.rss_device.proofs.Events.{replay_more}
use Rattle.rss_device.proofs.image.leave_all.Goals as goal

pub loop-event-preserved : goal.loop-event-preserved
loop-event-preserved c = λ held allowed left.
    subst (λ (h : Held). IsLeft c.args.unsynced h c.leave.new.pages.items) (sym (replay_more held c.args.events.now c.loop-event.event-index (Wrote 0 []) c.loop-event-test.true))
    (c.in_ok-leave.ensures _ (allowed c.loop-event.event-index (Wrote 0 []) c.loop-event-test.true) (c.loop-event.invariant held allowed left))
