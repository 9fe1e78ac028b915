use Rattle.std.proofs.Common.{rules}
use Rattle.rss_rsi.proofs.Sayable.{segment_sayable}
use Rattle.rss_rsi.proofs.locking.segment_need.Goals as goal

pub returns-clause-sayable : goal.returns-clause-sayable
returns-clause-sayable c = segment_sayable c.args.segment.now (search rules)
