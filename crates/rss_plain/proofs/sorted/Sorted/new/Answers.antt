use Rattle.rss_plain.proofs.Maps.{none_mapped}
use Rattle.rss_plain.proofs.sorted.Sorted.new.Goals as goal

pub returns : goal.returns
returns g c = none_mapped g.K.Keyed.order c.new.result.items c.new.ensures.items
