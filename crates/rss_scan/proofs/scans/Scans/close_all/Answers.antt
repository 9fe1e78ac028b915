use Rattle.std.proofs.Common.{◌≡◌, List, length, map, ◌∙◌, ap, arith}
use Rattle.std.specs.Prelude.{Option}
use Rattle.rss_scan.specs.declared.cursor.Scan.{Scan}
use Rattle.rss_scan.specs.Scans.{told}
use Rattle.rss_scan.proofs.Closing.{mapped, whole}
use Rattle.rss_scan.proofs.Telling.{closed_place, closed_told}
use Rattle.rss_scan.proofs.scans.Scans.close_all.Goals as goal

pub returns : goal.returns
returns c =
    let long : length c.loop-scan.scan-items ≡ length c.deref_mut-scan-items.result.now = c.loop-scan.auto.scan-items in
    let were : c.deref_mut-scan-items.result.now ≡ c.self.inside.scans.items = c.deref_mut-scan-items.ensures.value in
    let same : length c.deref_mut-scan-items.result.now ≡ length c.self.inside.scans.items = ap (λ (l : List (Option Scan)). length l) were in
    let count = c.self.inside.scans.ok in
    ap told (whole c.self.inside.scans.len c.loop-scan.scan-items c.self.inside.scans.items (omega arith) (omega arith)
    ∙ mapped (closed_place c.args.transaction) c.deref_mut-scan-items.result.now c.loop-scan.scan-items long (λ k below. c.loop-scan.invariant.done k (omega arith))
    ∙ ap (map (closed_place c.args.transaction)) (were ∙ c.self.view_is))
    ∙ closed_told c.args.transaction c.args.self.now
