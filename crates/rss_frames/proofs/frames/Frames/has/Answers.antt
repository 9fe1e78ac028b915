use Rattle.std.proofs.Common.{◌∙◌}
use Rattle.rss_frames.specs.contracts.frames.Frames.{the_view}
use Rattle.rss_frames.proofs.Shown.{some_found}
use Rattle.rss_frames.proofs.frames.Frames.has.Goals as goal

pub returns : goal.returns
returns c = rw (← c.self.view_is) (c.is_some.ensures ∙ some_found (the_view c.self.inside) _ _ c.self.invariant.0 c.args.key _ c.find.ensures)
