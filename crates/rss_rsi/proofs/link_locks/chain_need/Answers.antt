use Rattle.std.proofs.Common.{rules}
use Rattle.rss_rsi.proofs.Sayable.{chain_sayable}
use Rattle.rss_rsi.proofs.link_locks.chain_need.Goals as goal

pub returns-clause-sayable : goal.returns-clause-sayable
returns-clause-sayable c = chain_sayable c.args.link.now c.args.parent (search rules) c.tid_is_spelled.ensures
