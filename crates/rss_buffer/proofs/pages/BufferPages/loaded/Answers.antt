use Rattle.rss_frames.specs.Frames.{frame_in}
use Rattle.rss_buffer.specs.Devices.{buffer_view}
use Rattle.rss_buffer.proofs.Changed.{held-there}
use Rattle.rss_buffer.proofs.Turns.{mapped_there}
use Rattle.rss_buffer.proofs.pages.BufferPages.loaded.Goals as goal

pub returns : goal.returns
returns g c = λ told.
    let self = c.args.self.now in
    held-there self.first_slot self.shadow.current (frame_in self.frames) (g.D.Device.view self.device).disk.contents c.args.key _ (mapped_there {b = buffer_view self} self.holds c.args.key c.requires) c.in-Some.ensures.some
