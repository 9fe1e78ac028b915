use Rattle.std.proofs.Common.{Bool, suc, ◌≡◌, ℕ, ◌-◌, ◌<◌, ◌≤◌, ◌∷◌, ◌∙◌, length, refl, sym, ap, arith, length-append}
use Rattle.std.specs.Prelude.{Some, slice_get, codes, ◌==◌, if◌then◌else◌}
use Rattle.rss_model.specs.Generator.{next_state, pay_state, department_state, drawn, insert_line, connect_line, begin_lines, lines_behind, employee_lines}
use Rattle.rss_line.proofs.Parts.{made, moved_to, get_front, get_past, not_zero}
use Rattle.rss_line.proofs.Generated.{begin_at}
use Rattle.rss_line.proofs.generating.line_of_employee.Goals as goal
use Rattle.rss_line.proofs.generating.line_of_employee.Goals.{then-line-eq0, else-line-eq0}

-- the lines behind those that begin transactions
behind_begins : (count i x k : ℕ) → length (begin_lines i) ≤ k
    → slice_get (employee_lines count i x) k ≡ slice_get (insert_line i (drawn 1000 (pay_state x)) ∷ connect_line (drawn 10 (department_state x)) ∷ lines_behind count i x) (k - length (begin_lines i))
behind_begins count i x k past = get_past (begin_lines i) _ k past

pub returns-then-line-begins : goal.returns-then-line-begins
returns-then-line-begins c =
    let i = c.args.employee in
    let low : c.args.line < length (begin_lines i) = omega (arith, c.count_begins-begins.ensures) in
    let is : (if c.args.line == 0 then codes "begin 1" else codes "begin 2") ≡ c.if-line-eq0.text.now =
    elim c.if-line-eq0.branch [
      | then-line-eq0 w ↦ rw (w.text-is, w.if-line-eq0.true) refl
      | else-line-eq0 w ↦ rw w.text-is (ap (λ (b : Bool). if b then codes "begin 1" else codes "begin 2") (not_zero c.args.line w.if-line-eq0.false))
    ] in
    made c.text.result
    (get_front (begin_lines i) _ c.args.line low ∙ (begin_at i c.args.line low ∙ ap Some is))
    c.text.ensures

pub returns-in-0 : goal.returns-in-0
returns-in-0 c =
    let i = c.args.employee in
    let begins = c.count_begins-begins.ensures in
    let past : length (begin_lines i) ≤ c.args.line = omega (arith, begins) in
    let at : c.args.line - length (begin_lines i) ≡ 0 = omega (arith, begins, c.in-0.is) in
    let lines = insert_line i (drawn 1000 (pay_state c.args.state)) ∷ connect_line (drawn 10 (department_state c.args.state)) ∷ lines_behind c.args.count i c.args.state in
    let pay : drawn 1000 (pay_state c.args.state) ≡ c.drawn.result = sym (c.drawn.ensures ∙ ap (drawn 1000) c.next_state-pay.ensures) in
    made c.insert_line.result
    (behind_begins c.args.count i c.args.state c.args.line past ∙ (ap (slice_get lines) at ∙ ap (λ (n : ℕ). Some (insert_line i n)) pay))
    c.insert_line.ensures

pub returns-in-1 : goal.returns-in-1
returns-in-1 c =
    let i = c.args.employee in
    let begins = c.count_begins-begins.ensures in
    let past : length (begin_lines i) ≤ c.args.line = omega (arith, begins) in
    let at : c.args.line - length (begin_lines i) ≡ 1 = omega (arith, begins, c.in-1.is) in
    let lines = insert_line i (drawn 1000 (pay_state c.args.state)) ∷ connect_line (drawn 10 (department_state c.args.state)) ∷ lines_behind c.args.count i c.args.state in
    let department : c.next_state-department.result ≡ department_state c.args.state = c.next_state-department.ensures ∙ ap next_state c.next_state-pay.ensures in
    made c.connect_line.result
    (behind_begins c.args.count i c.args.state c.args.line past ∙ (ap (slice_get lines) at ∙ ap (λ (n : ℕ). Some (connect_line n)) (sym (c.drawn-in-1.ensures ∙ ap (drawn 10) department))))
    c.connect_line.ensures

pub returns-in_default : goal.returns-in_default
returns-in_default c =
    let i = c.args.employee in
    let x = c.args.state in
    let begins = c.count_begins-begins.ensures in
    let past : length (begin_lines i) ≤ c.args.line = omega (arith, begins) in
    let place : ℕ = c.args.line - length (begin_lines i) - 2 in
    let two : c.args.line - length (begin_lines i) ≡ suc (suc place) = omega (arith, begins) in
    let lines = insert_line i (drawn 1000 (pay_state x)) ∷ connect_line (drawn 10 (department_state x)) ∷ lines_behind c.args.count i x in
    let department : c.next_state-department.result ≡ department_state x = c.next_state-department.ensures ∙ ap next_state c.next_state-pay.ensures in
    let within : place < length (lines_behind c.args.count i x) = omega (arith, two, c.requires, length-append (begin_lines i) lines) in
    let same : c.args.line - c.count_begins-begins.result - 2 ≡ place = omega (arith, begins) in
    let behind = c.line_behind.ensures c.args.count x department (omega (arith, within, same)) in
    moved_to c.line_behind.result
    (behind_begins c.args.count i x c.args.line past
    ∙ (ap (slice_get lines) two ∙ ap (slice_get (lines_behind c.args.count i x)) (sym same)))
    behind
