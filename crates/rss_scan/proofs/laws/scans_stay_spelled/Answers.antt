use Rattle.rss_scan.proofs.Spelled.{none_spelled, added_spelled, given_spelled, removed_spelled, closed_spelled, found_spelled, counted_spelled}
use Rattle.rss_scan.proofs.laws.scans_stay_spelled.Goals as goal

pub returns-clause-none : goal.returns-clause-none
returns-clause-none c = none_spelled

pub returns-clause-added : goal.returns-clause-added
returns-clause-added c = added_spelled

pub returns-clause-given : goal.returns-clause-given
returns-clause-given c = given_spelled

pub returns-clause-removed : goal.returns-clause-removed
returns-clause-removed c = removed_spelled

pub returns-clause-closed : goal.returns-clause-closed
returns-clause-closed c = closed_spelled

pub returns-clause-found : goal.returns-clause-found
returns-clause-found c = found_spelled

pub returns-clause-counted : goal.returns-clause-counted
returns-clause-counted c = counted_spelled
