use Rattle.rss_trans.specs.Tables.{told}
use Rattle.rss_session.specs.Weighing.{survived_now}
use Rattle.rss_session.proofs.Filled.{IsFilled}
use Rattle.rss_session.proofs.bounding.survived_of.Given as goal

abbrev pub invariant-loop-place : goal.invariant-loop-place
invariant-loop-place l = IsFilled l.survived (survived_now (told l.transactions)) l.place
