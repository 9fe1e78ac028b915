use Rattle.rss_image.proofs.Putting.{spell_one}
use Rattle.rss_image.proofs.laws.spelled_once.Goals as goal

pub returns : goal.returns
returns c = spell_one
