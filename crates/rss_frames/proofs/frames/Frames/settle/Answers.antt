use Rattle.rss_frames.specs.contracts.frames.Frames.{the_view}
use Rattle.rss_frames.proofs.Shown.{shown_settled, absent_settled}
use Rattle.rss_frames.proofs.frames.Frames.settle.Goals as goal

pub returns-in-Some : goal.returns-in-Some
returns-in-Some c = rw (← c.self.view_is) (shown_settled (the_view c.self.inside) _ _ c.self.invariant.0 c.args.key c.in-Some.frame c.in-Some.ensures.at)

pub returns-in_default : goal.returns-in_default
returns-in_default c = rw (← c.self.view_is) (absent_settled (the_view c.self.inside) _ _ c.self.invariant.0 c.args.key c.in_default.ensures)
