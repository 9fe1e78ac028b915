use Rattle.rss_restart.proofs.Opening.{stores_restart, may_call_opened, gives_tables}
use Rattle.rss_restart.proofs.laws.stores_can_restart.Goals as goal

pub returns-clause-can : goal.returns-clause-can
returns-clause-can g c = stores_restart _ _

pub returns-clause-call : goal.returns-clause-call
returns-clause-call g c = may_call_opened _ _

pub returns-clause-gives : goal.returns-clause-gives
returns-clause-gives g c = gives_tables
