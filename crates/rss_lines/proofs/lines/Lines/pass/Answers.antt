use Rattle.std.proofs.Common.{rules, ◌≤◌, ◌-◌, ◌+◌, drop, arith, length-take, length-drop}
use Rattle.rss_lines.proofs.Passing.{rest_passed, line_passed}
use Rattle.rss_lines.proofs.lines.Lines.pass.Goals as goal

pub returns-clause-passed : goal.returns-clause-passed
returns-clause-passed c =
    let l = c.self.inside in
    let held = c.self.invariant in
    let few = rw (← c.self.view_is) at c.requires in
    let within : l.from + c.args.count ≤ l.until = omega (arith, few, held.from, length-take (l.until - l.from) (drop l.from l.piece.items), length-drop l.from l.piece.items) in
    let rest = rest_passed l.piece.items l.from l.until c.args.count within held.until in
    let line = line_passed l.piece.items l.from l.until c.args.count within held.until l.keep c.min-kept.result l.line.items held.few (search rules) in
    rw (← c.self.view_is, rest, c.in_ok-extend_from_slice.ensures.items, c.deref.ensures.value, line)
