use Rattle.rss_store.proofs.FirstStore.{opens_empty}
use Rattle.rss_store.proofs.formatting.format.Goals as goal

pub returns-clause-opens : goal.returns-clause-opens
returns-clause-opens g c = λ pages told. opens_empty c.args.slots c.args.log_pages pages (c.in_ok-write_store.ensures.made.formatted pages told)
