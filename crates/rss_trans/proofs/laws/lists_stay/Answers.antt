use Rattle.rss_trans.proofs.Noting.{tied_listed, listed_once, back_listed, gone_listed, stands_before, all_stay}
use Rattle.rss_trans.proofs.laws.lists_stay.Goals as goal

pub returns-clause-tied : goal.returns-clause-tied
returns-clause-tied c = tied_listed

pub returns-clause-once : goal.returns-clause-once
returns-clause-once c = listed_once

pub returns-clause-back : goal.returns-clause-back
returns-clause-back c = back_listed

pub returns-clause-gone : goal.returns-clause-gone
returns-clause-gone c = gone_listed

pub returns-clause-stands : goal.returns-clause-stands
returns-clause-stands c = stands_before

pub returns-clause-all : goal.returns-clause-all
returns-clause-all c = all_stay
