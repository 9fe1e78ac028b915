use Rattle.rss_top.proofs.HeardLines.{talking_enough}
use Rattle.rss_top.proofs.telling.TalkTeller.keeps.Goals as goal

pub returns-clause-enough : goal.returns-clause-enough
returns-clause-enough c = talking_enough
