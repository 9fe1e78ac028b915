use Rattle.std.proofs.Common.{◌≡◌, ℕ, ◌<◌, List, length, get_or, sym, ◌∙◌, ap, subst}
use Rattle.std.proofs.Common.{true}
use Rattle.std.specs.Prelude.{Option, None, IfNone, IfSome, is_some}
use Rattle.rss_scan.specs.declared.cursor.Scan.{Scan}
use Rattle.rss_scan.proofs.Telling.{full_told}
use Rattle.rss_scan.proofs.scans.Scans.is_full.Goals as goal

pub returns : goal.returns
returns c =
    let value : c.deref.result.now ≡ c.args.self.now = c.deref.ensures.value ∙ c.self.view_is in
    let count : length c.args.self.now ≡ 256 = ap (λ (l : List (Option Scan)). length l) (sym c.self.view_is) ∙ c.self.invariant in
    full_told c.args.self.now 256 c.free_place.result c.is_none.result count c.is_none.ensures
    (subst (λ (l : List (Option Scan)). IfSome c.free_place.result (λ p. p < length l)) value c.free_place.ensures.within)
    (subst (λ (l : List (Option Scan)). IfSome c.free_place.result (λ p. get_or l p None ≡ None)) value c.free_place.ensures.free)
    (subst (λ (l : List (Option Scan)). IfNone c.free_place.result ((k : ℕ) → k < length l → is_some (get_or l k None) ≡ true)) value c.free_place.ensures.full)
