use Rattle.rss_top.proofs.HeardLines.{plainly_enough}
use Rattle.rss_top.proofs.telling.PlainTeller.keeps.Goals as goal

pub returns-clause-enough : goal.returns-clause-enough
returns-clause-enough c = plainly_enough
