use Rattle.rss_trans.proofs.Mapping.{new_made}
use Rattle.rss_trans.proofs.open.Open.new.Goals as goal

pub returns-clause-none : goal.returns-clause-none
returns-clause-none c = new_made c.new.result.entries _ c.new.ensures.empty
