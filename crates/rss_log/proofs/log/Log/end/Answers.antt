use Rattle.rss_log.proofs.LogViews.{is_log}
use Rattle.rss_log.proofs.log.Log.end.Goals as goal

pub returns-clause-log : goal.returns-clause-log
returns-clause-log c = rw (← c.self.view_is) (is_log c.self.inside c.self.invariant)
