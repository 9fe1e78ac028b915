use Rattle.rss_trans.proofs.Showing.{zero_in}
use Rattle.rss_trans.proofs.open.no_changes.Goals as goal

pub returns : goal.returns
returns c = λ relation. zero_in 256 relation
