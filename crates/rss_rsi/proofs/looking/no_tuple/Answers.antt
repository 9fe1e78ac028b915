use Rattle.std.proofs.Common.{rules, arith}
use Rattle.rss_rsi.proofs.NoTuple.{no_tuple_short}
use Rattle.rss_rsi.proofs.looking.no_tuple.Goals as goal

pub returns-clause-short : goal.returns-clause-short
returns-clause-short c = no_tuple_short c.args.relation.now c.args.tid (search rules) (omega arith) (omega arith)
