use Rattle.rss_tuple.proofs.Seen.{on_err}
use Rattle.rss_tuple.proofs.walking.taken_on.Goals as goal

pub returns-in_err-found-clause-ill : goal.returns-in_err-found-clause-ill
returns-in_err-found-clause-ill c = on_err c.from_residual.result (λ formed short. c.in_err-found.ensures.ill formed (short c.in-Some.slot))
