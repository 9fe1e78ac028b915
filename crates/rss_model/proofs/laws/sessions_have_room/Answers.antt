use Rattle.rss_model.proofs.Sparing.{session_begins, session_changes, session_goes_back, session_forgets, spare_for_all, spare_for_next}
use Rattle.rss_model.proofs.laws.sessions_have_room.Goals as goal

pub returns-clause-begins : goal.returns-clause-begins
returns-clause-begins g = session_begins

pub returns-clause-changes : goal.returns-clause-changes
returns-clause-changes g = session_changes

pub returns-clause-goes_back : goal.returns-clause-goes_back
returns-clause-goes_back g = session_goes_back

pub returns-clause-forgets : goal.returns-clause-forgets
returns-clause-forgets g = session_forgets

pub returns-clause-back : goal.returns-clause-back
returns-clause-back g = spare_for_all

pub returns-clause-next : goal.returns-clause-next
returns-clause-next g = spare_for_next
