use Rattle.rss_trans.proofs.Summing.{names_told, names_counted, names_few, names_spelled}
use Rattle.rss_trans.proofs.laws.names_are_told.Goals as goal

pub returns-clause-names : goal.returns-clause-names
returns-clause-names c = names_told

pub returns-clause-count : goal.returns-clause-count
returns-clause-count c = names_counted

pub returns-clause-few : goal.returns-clause-few
returns-clause-few c = names_few

pub returns-clause-spelled : goal.returns-clause-spelled
returns-clause-spelled c = names_spelled
