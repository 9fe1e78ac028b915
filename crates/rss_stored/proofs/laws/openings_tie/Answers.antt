use Rattle.rss_stored.proofs.LogOpening.{rest_ties, restart_ties}
use Rattle.rss_stored.proofs.laws.openings_tie.Goals as goal

pub returns-clause-rest : goal.returns-clause-rest
returns-clause-rest g = rest_ties

pub returns-clause-restart : goal.returns-clause-restart
returns-clause-restart g = restart_ties
