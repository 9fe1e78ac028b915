use Rattle.rss_link.proofs.Meaning.{still_spells}
use Rattle.rss_link.proofs.laws.blocks_matter_alone.Goals as goal

pub returns : goal.returns
returns c = λ link ends old new linkage same spells. still_spells link ends old new linkage same spells
