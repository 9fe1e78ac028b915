use Rattle.std.proofs.Common.{rules}
use Rattle.rss_rsi.proofs.Sayable.{relation_sayable}
use Rattle.rss_rsi.proofs.locking.relation_need.Goals as goal

pub returns-clause-sayable : goal.returns-clause-sayable
returns-clause-sayable c = relation_sayable c.args.relation.now (search rules)
