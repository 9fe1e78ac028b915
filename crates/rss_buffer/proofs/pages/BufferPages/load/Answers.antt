use Rattle.std.proofs.lemmas.Result.{on_ok_weaker}
use Rattle.rss_buffer.proofs.Lookups.{newest_there}
use Rattle.rss_buffer.proofs.pages.BufferPages.load.Goals as goal

pub returns-clause-there : goal.returns-clause-there
returns-clause-there g c = on_ok_weaker c.ask.result (λ newest. newest_there _ c.args.key newest) c.ask.ensures.newest

pub returns-clause-asks : goal.returns-clause-asks
returns-clause-asks g c = c.ask.ensures.keeps.asks
