use Rattle.rss_image.proofs.Nested.{same_image}
use Rattle.rss_image.proofs.laws.trees_are_images.Goals as goal

pub returns : goal.returns
returns c = λ image held numbered pairs tree. same_image image held numbered pairs tree
