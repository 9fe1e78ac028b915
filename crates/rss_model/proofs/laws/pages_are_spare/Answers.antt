use Rattle.rss_model.proofs.Sparing.{number_leaves_room, spare_in_restart, spare_in_session, once_more}
use Rattle.rss_model.proofs.laws.pages_are_spare.Goals as goal

pub returns-clause-number : goal.returns-clause-number
returns-clause-number g = number_leaves_room

pub returns-clause-restart : goal.returns-clause-restart
returns-clause-restart g = spare_in_restart

pub returns-clause-session : goal.returns-clause-session
returns-clause-session g = spare_in_session

pub returns-clause-more : goal.returns-clause-more
returns-clause-more g = once_more
