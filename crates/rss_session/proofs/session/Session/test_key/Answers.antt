use Rattle.std.proofs.Common.{arith}
use Rattle.rss_model.proofs.Lengths.{bad_tuple_line}
use Rattle.rss_session.proofs.session.Session.test_key.Goals as goal

pub returns-in-Err-clause-short : goal.returns-in-Err-clause-short
returns-in-Err-clause-short g c = bad_tuple_line c.in-Err.field (omega arith)
