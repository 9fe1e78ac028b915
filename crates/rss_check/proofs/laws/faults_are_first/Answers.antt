use Rattle.rss_check.proofs.FirstFaults.{faults_are_one}
use Rattle.rss_check.proofs.NoFaults.{stores_have_none}
use Rattle.rss_check.proofs.Firsts.{others_have_one}
use Rattle.rss_check.proofs.laws.faults_are_first.Goals as goal

pub returns-clause-one : goal.returns-clause-one
returns-clause-one g = faults_are_one

pub returns-clause-none : goal.returns-clause-none
returns-clause-none g = stores_have_none

pub returns-clause-some : goal.returns-clause-some
returns-clause-some g = others_have_one
