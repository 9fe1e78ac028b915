use Rattle.rss_link.proofs.Prefixed.{prefixed, spelled}
use Rattle.rss_link.proofs.laws.spelled_by_blocks.Goals as goal

pub returns : goal.returns
returns c = λ link ends bodies linkage. ((λ spells. prefixed spells), (λ is. spelled is))
