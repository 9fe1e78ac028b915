use Rattle.rss_image.proofs.Halves.{many}
use Rattle.rss_image.proofs.Putting.{few_pages}
use Rattle.rss_image.proofs.laws.pages_are_few.Goals as goal

pub returns : goal.returns
returns c = λ image held of. few_pages image held (many image.width of.narrow)
