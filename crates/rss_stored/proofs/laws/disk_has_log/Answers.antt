use Rattle.rss_stored.proofs.LogStored.{disk_has_log, disk_has_room}
use Rattle.rss_stored.proofs.laws.disk_has_log.Goals as goal

pub returns-clause-log : goal.returns-clause-log
returns-clause-log g = disk_has_log

pub returns-clause-room : goal.returns-clause-room
returns-clause-room g = disk_has_room
