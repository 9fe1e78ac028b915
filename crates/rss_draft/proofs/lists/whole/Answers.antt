use Rattle.rss_draft.proofs.InLists.{some_whole, none_whole}
use Rattle.rss_draft.proofs.lists.whole.Goals as goal

pub returns-in-Some-clause-some : goal.returns-in-Some-clause-some
returns-in-Some-clause-some c = rw c.in-Some.is (some_whole c.in-Some.tid)

pub returns-in-Some-clause-none : goal.returns-in-Some-clause-none
returns-in-Some-clause-none c = rw c.in-Some.is (none_whole c.in-Some.tid)

pub returns-in-None-clause-none : goal.returns-in-None-clause-none
returns-in-None-clause-none c = rw c.in-None.is (λ tid is. absurd (cc (is)))
