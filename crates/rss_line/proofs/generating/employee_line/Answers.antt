use Rattle.std.proofs.Common.{◌≡◌, ℕ, ◌-◌, ◌∙◌, length, sym, ap, arith}
use Rattle.std.specs.Prelude.{slice_get}
use Rattle.rss_model.specs.Generator.{first_employees, employee_lines, state_before}
use Rattle.rss_line.proofs.Parts.{moved_to}
use Rattle.rss_line.proofs.Generated.{employee_placed}
use Rattle.rss_line.proofs.generating.employee_line.Goals as goal

pub line_of_employee-requires : goal.line_of_employee-requires
line_of_employee-requires c =
    let i = c.employee_at-employee.result in
    let at = c.employee_at-employee.ensures in
    let before = c.lines_before.ensures c.args.number c.args.count at.within in
    let placed = employee_placed c.args.number c.args.count i c.args.line at.within (at.begun c.args.number) (at.ends c.args.number c.requires.within) in
    rw (c.state_before-state.ensures) (omega (arith, placed.0, before))

pub returns : goal.returns
returns c =
    let i = c.employee_at-employee.result in
    let at = c.employee_at-employee.ensures in
    let before = c.lines_before.ensures c.args.number c.args.count at.within in
    let placed = employee_placed c.args.number c.args.count i c.args.line at.within (at.begun c.args.number) (at.ends c.args.number c.requires.within) in
    let place : c.args.line - length (first_employees c.args.number c.args.count i) ≡ c.args.line - c.lines_before.result = omega (arith, before) in
    moved_to c.line_of_employee.result
    (placed.1 ∙ (ap (slice_get (employee_lines c.args.count i (state_before c.args.number i))) place
    ∙ ap (λ (x : ℕ). slice_get (employee_lines c.args.count i x) (c.args.line - c.lines_before.result)) (sym c.state_before-state.ensures)))
    c.line_of_employee.ensures
