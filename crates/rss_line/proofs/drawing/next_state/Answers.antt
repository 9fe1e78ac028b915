use Rattle.std.proofs.Common.{◌∙◌}
use Rattle.rss_line.proofs.Draws.{next_moved}
use Rattle.rss_line.proofs.drawing.next_state.Goals as goal

pub returns : goal.returns
returns c = c.moved.ensures ∙ next_moved c.args.state
