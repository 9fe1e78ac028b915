use Rattle.std.proofs.Common.{◌≡◌, ℕ, ◌-◌, ◌<◌, ◌≤◌, ◌++◌, ◌∙◌, length, sym, ap, arith}
use Rattle.std.specs.Prelude.{Some, slice_get}
use Rattle.rss_model.specs.Generator.{opening_lines, first_employees, closing_lines, generated}
use Rattle.rss_line.proofs.Parts.{get_front, get_past}
use Rattle.rss_line.proofs.Generated.{nineteen}
use Rattle.rss_line.proofs.generating.generate.Goals as goal

-- a line behind those at the beginning
past_opening : (number count k : ℕ) → 19 ≤ k
    → slice_get (generated number count) k ≡ slice_get (first_employees number count count ++ closing_lines) (k - 19)
unfolding generated
past_opening number count k past =
    get_past opening_lines _ k (omega (arith, nineteen))
    ∙ ap (λ (n : ℕ). slice_get (first_employees number count count ++ closing_lines) (k - n)) nineteen

-- a line behind those of the employees
past_employees : (number count k : ℕ) → 19 ≤ k → length (first_employees number count count) ≤ k - 19
    → slice_get (generated number count) k ≡ slice_get closing_lines (k - 19 - length (first_employees number count count))
past_employees number count k past then_past =
    past_opening number count k past ∙ get_past (first_employees number count count) closing_lines (k - 19) then_past

pub returns-then-index-lt-OPENING_LINES : goal.returns-then-index-lt-OPENING_LINES
unfolding generated
returns-then-index-lt-OPENING_LINES c =
    sym (get_front opening_lines (first_employees c.args.number c.args.count c.args.count ++ closing_lines) c.args.index (omega (arith, nineteen)) ∙ c.in_ok-opening_line.ensures)

pub returns-then-line-employees : goal.returns-then-line-employees
returns-then-line-employees c =
    let low : c.args.index - 19 < length (first_employees c.args.number c.args.count c.args.count) = omega (arith, c.lines_of_all-employees.ensures.all c.args.number) in
    sym (past_opening c.args.number c.args.count c.args.index (omega arith)
    ∙ (get_front (first_employees c.args.number c.args.count c.args.count) closing_lines (c.args.index - 19) low
    ∙ c.in_ok-employee_line.ensures))

-- by the counts of the program
behind_employees : (number count k n : ℕ) → 19 ≤ k → n ≡ length (first_employees number count count) → n ≤ k - 19
    → slice_get (generated number count) k ≡ slice_get closing_lines (k - 19 - n)
behind_employees number count k n past is then_past =
    past_employees number count k past (omega (arith, is)) ∙ ap (λ (m : ℕ). slice_get closing_lines (k - 19 - m)) (sym is)

pub returns-in-None : goal.returns-in-None
returns-in-None c =
    sym (behind_employees c.args.number c.args.count c.args.index c.lines_of_all-employees.result (omega arith) (c.lines_of_all-employees.ensures.all c.args.number) (omega arith)
    ∙ sym c.in-None.ensures)

pub returns-in_ok-from_slice-in-Some : goal.returns-in_ok-from_slice-in-Some
returns-in_ok-from_slice-in-Some c =
    sym (behind_employees c.args.number c.args.count c.args.index c.lines_of_all-employees.result (omega arith) (c.lines_of_all-employees.ensures.all c.args.number) (omega arith)
    ∙ (sym c.in-Some.ensures ∙ ap Some (sym (c.in_ok-from_slice-in-Some.ensures ∙ c.as_bytes.ensures.value))))
