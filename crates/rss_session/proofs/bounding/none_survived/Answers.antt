use Rattle.rss_trans.proofs.Showing.{zero_in}
use Rattle.rss_session.proofs.bounding.none_survived.Goals as goal

pub returns : goal.returns
returns c = λ number. zero_in 256 number
