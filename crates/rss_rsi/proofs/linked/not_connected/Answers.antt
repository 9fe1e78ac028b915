use Rattle.std.proofs.Common.{rules}
use Rattle.rss_rsi.proofs.LinkLines.{not_connected_short}
use Rattle.rss_rsi.proofs.linked.not_connected.Goals as goal

pub returns-clause-short : goal.returns-clause-short
returns-clause-short c = not_connected_short c.args.link.now (search rules)
