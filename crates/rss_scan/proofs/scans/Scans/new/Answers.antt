use Rattle.rss_scan.proofs.Telling.{none_told}
use Rattle.rss_scan.proofs.scans.Scans.new.Goals as goal

pub returns : goal.returns
returns c = none_told c.loop.scans.items c.loop.invariant.none
