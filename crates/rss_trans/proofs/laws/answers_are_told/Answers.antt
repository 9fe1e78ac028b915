use Rattle.rss_trans.proofs.Asked.{open_told, keys_told, count_told, saves_told, changes_told, makers_open, positions_told, newest_told}
use Rattle.rss_trans.proofs.laws.answers_are_told.Goals as goal

pub returns-clause-opened : goal.returns-clause-opened
returns-clause-opened c = open_told

pub returns-clause-keys : goal.returns-clause-keys
returns-clause-keys c = keys_told

pub returns-clause-count : goal.returns-clause-count
returns-clause-count c = count_told

pub returns-clause-saves : goal.returns-clause-saves
returns-clause-saves c = saves_told

pub returns-clause-changes : goal.returns-clause-changes
returns-clause-changes c = changes_told

pub returns-clause-makers : goal.returns-clause-makers
returns-clause-makers c = makers_open

pub returns-clause-positions : goal.returns-clause-positions
returns-clause-positions c = positions_told

pub returns-clause-newest : goal.returns-clause-newest
returns-clause-newest c = newest_told
