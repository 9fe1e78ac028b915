use Rattle.std.proofs.Common.{rules}
use Rattle.rss_model.specs.Generator.{drawn}
use Rattle.rss_line.proofs.drawing.drawn.Goals as goal

pub returns : goal.returns
unfolding drawn
returns c = search rules
