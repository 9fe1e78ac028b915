use Rattle.std.proofs.Common.{arith}
use Rattle.rss_trans.specs.Tables.{told}
use Rattle.rss_session.proofs.Admitted.{any_open, none_is_open, none_least}
use Rattle.rss_session.proofs.Lines.{open_line}
use Rattle.rss_session.proofs.session.Session.test_rest.Goals as goal

pub returns-in-Some-clause-tests : goal.returns-in-Some-clause-tests
returns-in-Some-clause-tests g c = (λ is_told state shows. any_open shows c.in-Some.open c.in-Some.ensures, open_line c.in-Some.open (omega arith))

pub returns-in-None-clause-closed : goal.returns-in-None-clause-closed
returns-in-None-clause-closed g c = none_least (told c.args.self.now.open).transactions c.in-None.ensures

pub returns-in-None-clause-tests : goal.returns-in-None-clause-tests
returns-in-None-clause-tests g c = λ is_told state shows. none_is_open shows c.in-None.ensures
