use Rattle.std.proofs.Common.{rules, arith}
use Rattle.rss_session.proofs.Lines.{duplicate_line}
use Rattle.rss_session.proofs.uniques.duplicate.Goals as goal

pub returns-clause-short : goal.returns-clause-short
returns-clause-short c = duplicate_line c.args.image c.args.tid (search rules) (omega arith) (omega arith)
