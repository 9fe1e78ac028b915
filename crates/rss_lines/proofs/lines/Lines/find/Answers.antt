use Rattle.std.proofs.Common.{◌≤◌, ◌+◌, ◌-◌, ◌∙◌, List, ℕ, ap, arith, length, drop, length-take, length-drop}
use Rattle.std.proofs.lemmas.List.{drop-drop}
use Rattle.rss_lines.specs.Lines.{LinesView}
use Rattle.rss_lines.proofs.Passing.{rest_passed, ends_at}
use Rattle.rss_lines.proofs.lines.Lines.find.Goals as goal

pub returns-in_ok-pass-in-Some-clause-found : goal.returns-in_ok-pass-in-Some-clause-found
returns-in_ok-pass-in-Some-clause-found c =
    let old : LinesView = c.args.self.now in
    let at = c.in-Some.at in
    let l = c.self.inside in
    let here = rw c.rest.ensures at c.in-Some.ensures in
    let both = c.self.view_is ∙ c.in_ok-pass-in-Some.ensures.passed in
    let left = ap (λ (v : LinesView). length v.rest) both in
    let some : l.from + 1 ≤ l.until = omega (arith, here.within, left, length-drop at old.rest, length-take (l.until - l.from) (drop l.from l.piece.items)) in
    let next = rest_passed l.piece.items l.from l.until 1 some c.self.invariant.until ∙ ap (λ (v : LinesView). drop 1 v.rest) both ∙ drop-drop 1 at old.rest in
    ends_at at here.within here.end here.line (ap (λ (r : List ℕ). record { keep = l.keep; taken = l.taken; line = l.line.items; rest = r; over = l.over }) next ∙ ap (λ (v : LinesView). record v { rest = drop (at + 1) old.rest }) both)
