use Rattle.std.proofs.Common.{rules}
use Rattle.rss_rsi.proofs.LinkLines.{connected_short}
use Rattle.rss_rsi.proofs.linked.connected.Goals as goal

pub returns-clause-short : goal.returns-clause-short
returns-clause-short c = connected_short c.args.link.now (search rules)
