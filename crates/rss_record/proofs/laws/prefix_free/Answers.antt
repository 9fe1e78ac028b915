use Rattle.rss_record.proofs.Records.{one_front}
use Rattle.rss_record.proofs.laws.prefix_free.Goals as goal

pub returns : goal.returns
returns c = one_front
