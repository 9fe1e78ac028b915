use Rattle.rss_access.proofs.edit.TupleChange.front_in.Goals as goal
use Rattle.rss_access.proofs.Fronts.{delete_front}

pub returns-in_default-clause-some : goal.returns-in_default-clause-some
returns-in_default-clause-some c = rw c.in_default.is c.front_of_new.ensures.some

pub returns-in_default-clause-none : goal.returns-in_default-clause-none
returns-in_default-clause-none c = rw c.in_default.is c.front_of_new.ensures.none

pub returns-in-Delete-clause-front : goal.returns-in-Delete-clause-front
returns-in-Delete-clause-front c = delete_front c.args.catalog.now.listing c.args.self.number c.args.self.tid c.in-Delete.is _ _ c.gone_front.result c.gone_front.ensures.some
