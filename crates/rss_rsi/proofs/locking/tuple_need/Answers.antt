use Rattle.std.proofs.Common.{rules, arith}
use Rattle.rss_rsi.proofs.Sayable.{tuple_sayable}
use Rattle.rss_rsi.proofs.locking.tuple_need.Goals as goal

pub returns-clause-sayable : goal.returns-clause-sayable
returns-clause-sayable c = tuple_sayable c.args.relation.now c.args.tid (search rules) (omega arith) (omega arith)
