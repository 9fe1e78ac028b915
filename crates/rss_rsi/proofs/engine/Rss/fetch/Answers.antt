use Rattle.rss_rsi.proofs.Looks.{passed_call}
use Rattle.rss_rsi.proofs.engine.Rss.fetch.Goals as goal

pub returns-in_err-fetch_into-clause-did : goal.returns-in_err-fetch_into-clause-did
returns-in_err-fetch_into-clause-did g c = passed_call c.from_residual.result c.from_residual.ensures.1 c.in_err-fetch_into.ensures.did

pub returns-clause-did : goal.returns-clause-did
returns-clause-did g c = c.in_ok-fetch_into.ensures.did
