use Rattle.rss_log.proofs.LogViews.{listed}
use Rattle.rss_log.proofs.laws.listed_records_stand.Goals as goal

pub returns : goal.returns
returns c = listed
