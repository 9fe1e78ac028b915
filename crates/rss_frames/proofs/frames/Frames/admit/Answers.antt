use Rattle.rss_frames.specs.Frames.{Admits}
use Rattle.rss_frames.specs.contracts.frames.Frames.{the_view}
use Rattle.rss_frames.proofs.Shown.{shown_admitted}
use Rattle.rss_frames.proofs.frames.Frames.admit.Goals as goal

pub returns : goal.returns
returns c =
    let new = the_view c.self.inside in
    let admits : Admits c.args.key c.give_frame-frame.result c.args.changed c.args.self.now new = rw c.self.view_is c.give_frame-frame.ensures in
    shown_admitted c.args.self.now new _ _ c.self.invariant.0 c.args.key c.give_frame-frame.result c.args.changed admits c.args.page.now
