use Rattle.rss_image.proofs.Halves.{many}
use Rattle.rss_image.proofs.Putting.{few_levels}
use Rattle.rss_image.proofs.laws.levels_are_few.Goals as goal

pub returns : goal.returns
returns c = λ image held of. few_levels image held (many image.width of.narrow)
