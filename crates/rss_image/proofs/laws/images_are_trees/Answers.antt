use Rattle.rss_image.proofs.Rowed.{same_tree}
use Rattle.rss_image.proofs.laws.images_are_trees.Goals as goal

pub returns : goal.returns
returns c = λ image held fit numbered numbers pairs is different. same_tree image held fit numbered numbers pairs is different
