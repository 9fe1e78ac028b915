use Rattle.rss_draft.proofs.Standings.{lookups_begin, connects_follow, disconnects_follow}
use Rattle.rss_draft.proofs.Owners.{changes_follow}
use Rattle.rss_draft.proofs.laws.lookups_follow.Goals as goal

pub returns-clause-begin : goal.returns-clause-begin
returns-clause-begin g = lookups_begin

pub returns-clause-connects : goal.returns-clause-connects
returns-clause-connects g = connects_follow

pub returns-clause-disconnects : goal.returns-clause-disconnects
returns-clause-disconnects g = disconnects_follow

pub returns-clause-changes : goal.returns-clause-changes
returns-clause-changes g = changes_follow
