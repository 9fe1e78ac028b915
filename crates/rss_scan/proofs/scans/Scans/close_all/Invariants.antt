use Rattle.rss_scan.proofs.Telling.{closed_place}
use Rattle.rss_scan.proofs.Closing.{IsMapped}
use Rattle.rss_scan.proofs.scans.Scans.close_all.Given as goal

abbrev pub invariant-loop-scan : goal.invariant-loop-scan
invariant-loop-scan l = IsMapped (closed_place l.transaction) l.initial.scan-items l.scan-items l.scan-index
