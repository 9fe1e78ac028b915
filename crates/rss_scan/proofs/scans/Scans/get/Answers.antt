use Rattle.std.proofs.Common.{List, get_or, sym, ◌∙◌, ap}
use Rattle.std.specs.Prelude.{Option, None}
use Rattle.std.specs.FinMap as finite
use Rattle.rss_scan.specs.declared.cursor.Scan.{Scan}
use Rattle.rss_scan.specs.Scans.{told, cursor_in}
use Rattle.rss_scan.proofs.Telling.{tells, cursor_told}
use Rattle.rss_scan.proofs.scans.Scans.get.Goals as goal

pub returns : goal.returns
returns c =
    c.cursor_at.ensures
    ∙ ap (λ (l : List (Option Scan)). cursor_in c.args.transaction (get_or l c.args.scan None)) (c.deref.ensures.value ∙ c.self.view_is)
    ∙ ap (cursor_in c.args.transaction) (sym (tells c.args.self.now c.args.scan))
    ∙ cursor_told c.args.transaction (finite.get (told c.args.self.now) c.args.scan)
