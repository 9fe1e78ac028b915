use Rattle.rss_access.proofs.edit.TupleChange.front_of_new.Goals as goal
use Rattle.rss_access.proofs.Fronts.{insert_front}

pub returns-in-Insert-clause-front : goal.returns-in-Insert-clause-front
returns-in-Insert-clause-front c = insert_front c.args.catalog.now.listing c.args.self.number c.args.self.tid c.in-Insert.is c.blank_front.ensures
