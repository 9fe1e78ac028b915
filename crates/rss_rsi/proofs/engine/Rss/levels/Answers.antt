use Rattle.std.proofs.Common.{sym}
use Rattle.rss_rsi.proofs.ImageScans.{image_defined}
use Rattle.rss_rsi.proofs.engine.Rss.levels.Goals as goal

pub returns-clause-states : goal.returns-clause-states
returns-clause-states g c = λ state is_in. sym (image_defined c.args.image.now c.in_ok-number.number is_in c.in_ok-number.ensures.some)
