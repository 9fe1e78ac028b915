use Rattle.std.proofs.Common.{◌∙◌, ap, nat_eq, length, ℕ, List}
use Rattle.rss_lines.proofs.Passing.{none_left}
use Rattle.rss_lines.proofs.Seeking.{was_over, line_found, piece_filled, piece_failed, source_over, passed_on}
use Rattle.rss_lines.proofs.lines.Lines.advance.Goals as goal

pub returns-then-self : goal.returns-then-self
returns-then-self g c =
    let l = c.self.inside in
    let over = c.self.invariant.over c.if-self.true in
    rw (← c.self.view_is) (was_over _ _ _ c.clear.ensures.items c.if-self.true (none_left l.piece.items l.from l.until over.0) over.1)

pub returns-in_err-fill : goal.returns-in_err-fill
returns-in_err-fill g c =
    passed_on _ c.from_residual-in_err-fill.ensures.1
    (piece_failed c.loop-self.invariant (rw c.if-not-branch.true at c.in_ok-find.ensures.found) _ c.in_err-fill.ensures)

pub returns-then-not-branch-2 : goal.returns-then-not-branch-2
returns-then-not-branch-2 g c =
    source_over c.loop-self.invariant (rw c.if-not-branch.true at c.in_ok-find.ensures.found) _
    (c.is_empty.ensures ∙ ap (λ (l : List ℕ). nat_eq (length l) 0) c.line.ensures) (rw c.if-not-branch-2.true at c.in_ok-fill.ensures)

pub loop-self-preserved : goal.loop-self-preserved
loop-self-preserved g c =
    piece_filled c.loop-self.invariant (rw c.if-not-branch.true at c.in_ok-find.ensures.found) (rw c.if-not-branch-2.false at c.in_ok-fill.ensures)

pub returns : goal.returns
returns g c = line_found c.loop-self.invariant (rw c.if-not-branch.false at c.in_ok-find.ensures.found)
