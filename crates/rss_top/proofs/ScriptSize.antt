-- A generated script has fewer bytes than a script may have.
use Rattle.std.proofs.Common.{◌≡◌, ℕ, zero, suc, ◌+◌, ◌*◌, ◌^◌, ◌<◌, ◌≤◌, Bool, true, false, List, [], ◌∷◌, ◌++◌, length, refl, arith, length-append}
use Rattle.std.specs.Prelude.{map, codes, decimal, ◌%◌, ◌==◌, ◌||◌}
use Rattle.std.specs.List.{range_with_len}
use Rattle.std.proofs.lemmas.Fmt.{length-decimal-le}
use Rattle.rss_model.specs.Generator.{drawn, opening_lines, department_line, closing_lines, when, employee_text, insert_line, connect_line, update_line, begin_lines, update_lines, fetch_lines, end_lines, pay_state, department_state, next_pay_state, lines_behind, employee_lines, first_employees, generated, most_employees, state_before}
use Rattle.rss_model.specs.Script.{joined}

-- how many bytes lines have, each with its end
abbrev size : List (List ℕ) → ℕ
size lines = length (joined lines)

size_append : (lines others : List (List ℕ)) → size (lines ++ others) ≡ size lines + size others
size_append [] others = omega arith
size_append (line ∷ lines) others =
    omega (arith, length-append line (10 ∷ joined (lines ++ others)), length-append line (10 ∷ joined lines), size_append lines others)

size_when : (test : Bool) (lines : List (List ℕ)) → size (when test lines) ≤ size lines
size_when true lines = omega arith
size_when false lines = omega arith

-- one line more
size_more : (line : List ℕ) (lines : List (List ℕ)) → size (line ∷ lines) ≡ length line + 1 + size lines
size_more line lines = omega (arith, length-append line (10 ∷ joined lines))

-- ---- a line

-- a number of these has five digits at most
digits : (n : ℕ) → n < 100000 → length (decimal n) ≤ 5
digits n low = length-decimal-le 5 n (omega arith) low (omega (arith, low))

drawn_low : (limit x : ℕ) → 0 < limit → drawn limit x < limit
unfolding drawn
drawn_low limit x some = omega arith

module _ (i pay : ℕ) (low : i < 100000) (less : pay < 1000) where
  employee_short : length (employee_text i pay) ≤ 20
  employee_short = simp length-append (omega (arith, digits i low, digits pay (omega (arith, less))))

  insert_short : length (insert_line i pay) ≤ 40
  insert_short = omega (arith, length-append (codes "$e = insert 1 emp ") (employee_text i pay), employee_short)

  update_short : length (update_line i pay) ≤ 40
  update_short = omega (arith, length-append (codes "update 1 emp $e ") (employee_text i pay), employee_short)

connect_short : (k : ℕ) → k < 10 → length (connect_line k) ≤ 40
connect_short k low = simp length-append (omega (arith, digits k (omega (arith, low))))

-- ---- the lines of an employee

begin_size : (i : ℕ) → size (begin_lines i) ≤ 16
unfolding begin_lines
begin_size i = size_when (i % 50 == 0) (codes "begin 1" ∷ codes "begin 2" ∷ [])

fetch_size : (i : ℕ) → size (fetch_lines i) ≤ 15
unfolding fetch_lines
fetch_size i = size_when (i % 10 == 9) (codes "fetch 2 emp $e" ∷ [])

end_size : (count i : ℕ) → size (end_lines count i) ≤ 12
unfolding end_lines
end_size count i = size_when ((i % 50 == 49) || (i + 1 == count)) (codes "end 2" ∷ codes "end 1" ∷ [])

update_size : (i x : ℕ) → i < 100000 → size (update_lines i x) ≤ 41
unfolding update_lines
update_size i x low =
    let line = update_line i (drawn 1000 (next_pay_state x)) in
    omega (arith, size_when (i % 8 == 0) (line ∷ []), size_more line [], update_short i (drawn 1000 (next_pay_state x)) low (drawn_low 1000 (next_pay_state x) (omega arith)))

employee_size : (count i x : ℕ) → i < 100000 → size (employee_lines count i x) ≤ 166
employee_size count i x low =
    let pay = drawn 1000 (pay_state x) in
    let department = drawn 10 (department_state x) in
    let behind = lines_behind count i x in
    let updates = update_lines i x in
    let fetches = fetch_lines i in
    let ends = end_lines count i in
    omega (
      arith,
      size_append (begin_lines i) (insert_line i pay ∷ connect_line department ∷ behind),
      size_more (insert_line i pay) (connect_line department ∷ behind),
      size_more (connect_line department) behind,
      size_append updates (fetches ++ ends),
      size_append fetches ends,
      begin_size i,
      insert_short i pay low (drawn_low 1000 (pay_state x) (omega arith)),
      connect_short department (drawn_low 10 (department_state x) (omega arith)),
      update_size i x low,
      fetch_size i,
      end_size count i,
    )

first_size : (number count i : ℕ) → i ≤ 100000 → size (first_employees number count i) ≤ i * 166
unfolding first_employees
first_size number count zero few = omega arith
first_size number count (suc i) few =
    omega (arith, size_append (first_employees number count i) (employee_lines count i (state_before number i)), first_size number count i (omega (arith, few)), employee_size count i (state_before number i) (omega (arith, few)))

-- ---- the script

department_short : (k : ℕ) → k < 10 → length (department_line k) ≤ 40
department_short k low = simp length-append (omega (arith, digits k (omega (arith, low))))

departments_size : (first many : ℕ) → first + many ≤ 10 → size (map department_line (range_with_len first many)) ≤ many * 60
departments_size first zero few = omega arith
departments_size first (suc many) few =
    let more = size_more (department_line first) (map department_line (range_with_len (first + 1) many)) in
    let line = department_short first (omega (arith, few)) in
    omega (arith, more, line, departments_size (first + 1) many (omega (arith, few)))

opening_size : size opening_lines ≤ 1000
unfolding opening_lines
opening_size =
    let front = codes "segment s" ∷ codes "relation dept s no:int name:text20" ∷ codes "relation emp s no:int name:text20 pay:int"
    ∷ codes "unique dept_no dept no" ∷ codes "unique emp_no emp no" ∷ codes "image emp_pay emp pay" ∷ codes "link works dept emp" ∷ codes "begin 1" ∷ [] in
    let departments = map department_line (range_with_len 0 10) in
    let last = codes "end 1" ∷ [] in
    let first : size front ≤ 300 = omega arith in
    let ends : size last ≡ 6 = refl in
    omega (arith, size_append front (departments ++ last), size_append departments last, first, ends, departments_size 0 10 (omega arith))

closing_size : size closing_lines ≤ 200
unfolding closing_lines
closing_size = omega arith

pub generated_short : (number count : ℕ) → count ≤ most_employees → length (joined (generated number count)) < 2 ^ 30
unfolding generated
generated_short number count few =
    let one = size_append opening_lines (first_employees number count count ++ closing_lines) in
    let two = size_append (first_employees number count count) closing_lines in
    omega (arith, one, two, opening_size, first_size number count count few, closing_size, few)
