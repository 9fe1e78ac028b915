use Rattle.rss_link.proofs.Meaning.{one_meaning}
use Rattle.rss_link.proofs.laws.spelled_once.Goals as goal

pub returns : goal.returns
returns c = λ link ends bodies one other children parents spells spells_too parent. one_meaning link ends bodies one other spells spells_too parent parents
