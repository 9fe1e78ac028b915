use Rattle.rss_stored.proofs.StorePages.{stores_have_room, openings_have_room, openings_are_metered}
use Rattle.rss_stored.proofs.laws.stores_have_room.Goals as goal

pub returns-clause-stores : goal.returns-clause-stores
returns-clause-stores g = stores_have_room

pub returns-clause-openings : goal.returns-clause-openings
returns-clause-openings g = openings_have_room

pub returns-clause-metered : goal.returns-clause-metered
returns-clause-metered g = openings_are_metered
