use Rattle.std.proofs.Common.{◌≡◌, ℕ, ◌<◌, List, length, get_or, sym, ◌∙◌, ap, subst, arith}
use Rattle.std.proofs.Common.{true}
use Rattle.std.specs.Prelude.{Option, None, IfNone, is_some}
use Rattle.std.specs.FinMap as finite
use Rattle.rss_scan.specs.declared.cursor.Scan.{Scan}
use Rattle.rss_scan.specs.Scans.{told, begun}
use Rattle.rss_scan.proofs.Telling.{tells, put_told, all_open, some_free}
use Rattle.rss_scan.proofs.scans.Scans.add.Goals as goal

pub returns-in_err-number-clause-full : goal.returns-in_err-number-clause-full
returns-in_err-number-clause-full c =
    let value : c.deref.result.now ≡ c.args.self.now = c.deref.ensures.value ∙ c.self.view_is in
    let long : length c.self.inside.scans.items ≡ 256 = c.self.invariant in
    let count : length c.args.self.now ≡ 256 = ap (λ (l : List (Option Scan)). length l) (sym c.self.view_is) ∙ long in
    subst (λ (r : Option ℕ). IfNone r (finite.len (told c.args.self.now) ≡ 256)) (sym c.from_residual.ensures)
    (all_open c.args.self.now (subst (λ (l : List (Option Scan)). (k : ℕ) → k < length l → is_some (get_or l k None) ≡ true) value c.in_err-number.ensures.full) ∙ count)

pub returns-clause-least : goal.returns-clause-least
returns-clause-least c =
    let value : c.deref.result.now ≡ c.args.self.now = c.deref.ensures.value ∙ c.self.view_is in
    let long : length c.self.inside.scans.items ≡ 256 = c.self.invariant in
    let count : length c.args.self.now ≡ 256 = ap (λ (l : List (Option Scan)). length l) (sym c.self.view_is) ∙ long in
    let below : c.in_ok-number.number < length c.args.self.now = subst (λ (l : List (Option Scan)). c.in_ok-number.number < length l) value c.in_ok-number.ensures.within in
    let free : get_or c.args.self.now c.in_ok-number.number None ≡ None = ap (λ (l : List (Option Scan)). get_or l c.in_ok-number.number None) (sym value) ∙ c.in_ok-number.ensures.free in
    let room : finite.len (told c.args.self.now) < length c.args.self.now = some_free c.args.self.now c.in_ok-number.number below free in
    record {
      room = omega arith;
      within = omega arith;
      free = tells c.args.self.now c.in_ok-number.number ∙ free;
      least = λ k earlier. ap is_some (tells c.args.self.now k ∙ ap (λ (l : List (Option Scan)). get_or l k None) (sym value)) ∙ c.in_ok-number.ensures.least k earlier;
    }

pub returns-clause-added : goal.returns-clause-added
returns-clause-added c =
    let below : c.in_ok-number.number < length c.self.inside.scans.items = subst (λ (l : List (Option Scan)). c.in_ok-number.number < length l) c.deref.ensures.value c.in_ok-number.ensures.within in
    put_told c.self.inside.scans.items c.in_ok-number.number (begun c.args.transaction c.args.path) below
    ∙ ap (λ (l : List (Option Scan)). finite.insert (told l) c.in_ok-number.number (begun c.args.transaction c.args.path)) c.self.view_is
