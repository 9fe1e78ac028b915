use Rattle.rss_shadow.proofs.Found.{images_told}
use Rattle.rss_shadow.proofs.shadow.Shadow.image_pages.Goals as goal

pub returns : goal.returns
returns c = images_told c.self.invariant c.self.view_is
