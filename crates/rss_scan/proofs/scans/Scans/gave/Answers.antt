use Rattle.std.proofs.Common.{◌≡◌, ◌<◌, List, length, sym, ◌∙◌, ap, subst, arith}
use Rattle.std.specs.Prelude.{Option, Some, IsSome, is_some}
use Rattle.std.specs.FinMap as finite
use Rattle.rss_scan.specs.declared.cursor.Scan.{Scan}
use Rattle.rss_scan.specs.Scans.{told, given}
use Rattle.rss_scan.proofs.Telling.{within_told, read_there, put_told}
use mathlib.Core.Bool.{true≢false}
use Rattle.rss_scan.proofs.scans.Scans.gave.Goals as goal

pub index_mut-requires : goal.index_mut-requires
index_mut-requires c =
    let below : c.args.scan < length c.self.inside.scans.items = within_told c.self.inside.scans.items c.args.scan (subst (λ (l : List (Option Scan)). IsSome (finite.get (told l) c.args.scan)) (sym c.self.view_is) c.requires) in
    let count = c.self.inside.scans.ok in
    omega arith

pub unreachable-requires : goal.unreachable-requires
unreachable-requires c =
    let used = subst (λ (l : List (Option Scan)). IsSome (finite.get (told l) c.args.scan)) (sym c.self.view_is) c.requires in
    let read : c.index_mut.result.now ≡ finite.get (told c.self.inside.scans.items) c.args.scan = read_there c.self.inside.scans.items c.args.scan c.index_mut.result.now (within_told c.self.inside.scans.items c.args.scan used) c.index_mut.ensures.value in
    true≢false (sym used ∙ ap is_some (sym read ∙ c.in_default.is))

pub returns : goal.returns
returns c = λ was there.
    let used = subst (λ (l : List (Option Scan)). IsSome (finite.get (told l) c.args.scan)) (sym c.self.view_is) c.requires in
    let below = within_told c.self.inside.scans.items c.args.scan used in
    let read : c.index_mut.result.now ≡ finite.get (told c.self.inside.scans.items) c.args.scan = read_there c.self.inside.scans.items c.args.scan c.index_mut.result.now below c.index_mut.ensures.value in
    let found : Some c.in-Some.open ≡ Some was = sym c.in-Some.is ∙ read ∙ ap (λ (l : List (Option Scan)). finite.get (told l) c.args.scan) c.self.view_is ∙ there in
    let one : c.in-Some.open ≡ was = cc in
    put_told c.self.inside.scans.items c.args.scan (given c.copy_of.result c.args.tid c.in-Some.open) below
    ∙ (λ i. finite.insert (told (c.self.view_is i)) c.args.scan (given (c.copy_of.ensures i) c.args.tid (one i)))
