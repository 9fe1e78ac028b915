use Rattle.rss_node.proofs.Passed.{passed_less, passed_equal, equal_not, greater_not}
use Rattle.rss_node.proofs.node.passes.Goals as goal

pub returns-in-Less-clause-yes : goal.returns-in-Less-clause-yes
returns-in-Less-clause-yes c = λ yes. passed_less c.args.beyond c.args.pair.now c.args.target.now c.in-Less.ensures

pub returns-in-Equal-clause-yes : goal.returns-in-Equal-clause-yes
returns-in-Equal-clause-yes c = λ yes. passed_equal c.args.beyond c.args.pair.now c.args.target.now c.in-Equal.ensures yes

pub returns-in-Equal-clause-no : goal.returns-in-Equal-clause-no
returns-in-Equal-clause-no c = λ no. equal_not c.args.beyond c.args.pair.now c.args.target.now c.in-Equal.ensures no

pub returns-in-Greater-clause-no : goal.returns-in-Greater-clause-no
returns-in-Greater-clause-no c = λ no. greater_not c.args.beyond c.args.pair.now c.args.target.now c.in-Greater.ensures
