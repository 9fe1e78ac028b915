use Rattle.std.proofs.Common.{◌<◌, List, length, sym, ◌∙◌, ap, subst, arith}
use Rattle.std.specs.Prelude.{Option, IsSome}
use Rattle.std.specs.FinMap as finite
use Rattle.rss_scan.specs.declared.cursor.Scan.{Scan}
use Rattle.rss_scan.specs.Scans.{told}
use Rattle.rss_scan.proofs.Telling.{within_told, cut_told}
use Rattle.rss_scan.proofs.scans.Scans.close.Goals as goal

pub index_mut-requires : goal.index_mut-requires
index_mut-requires c =
    let below : c.args.scan < length c.self.inside.scans.items = within_told c.self.inside.scans.items c.args.scan (subst (λ (l : List (Option Scan)). IsSome (finite.get (told l) c.args.scan)) (sym c.self.view_is) c.requires) in
    let count = c.self.inside.scans.ok in
    omega arith

pub returns : goal.returns
returns c =
    let below : c.args.scan < length c.self.inside.scans.items = within_told c.self.inside.scans.items c.args.scan (subst (λ (l : List (Option Scan)). IsSome (finite.get (told l) c.args.scan)) (sym c.self.view_is) c.requires) in
    cut_told c.self.inside.scans.items c.args.scan below ∙ ap (λ (l : List (Option Scan)). finite.remove (told l) c.args.scan) c.self.view_is
