-- The script that is generated from a number and a count: a relation of departments, a relation of
-- as many employees as the count says, with what is drawn for each, and a scan of some of them.
use Rattle.std.specs.Prelude.{ℕ, zero, suc, ◌+◌, ◌*◌, ◌/◌, ◌%◌, ◌^◌, Bool, ◌==◌, ◌||◌, if◌then◌else◌, List, [], ◌∷◌, ◌++◌, map, codes, decimal}
use Rattle.std.specs.List.{range_with_len}

-- ---- draws

-- A draw moves the state on.
unfoldable pub next_state : ℕ → ℕ
next_state x = (x * 6364136223846793005 + 1442695040888963407) % 2 ^ 64

-- What it gives, below a limit, by the state behind it.
unfoldable pub drawn : ℕ → ℕ → ℕ
drawn limit x = (x / 2 ^ 33) % limit

-- ---- the lines at the beginning

abbrev pub department_line : ℕ → List ℕ
department_line k = codes "$d" ++ decimal k ++ codes " = insert 1 dept " ++ decimal k
    ++ codes " \"d" ++ decimal k ++ codes "\""

unfoldable pub opening_lines : List (List ℕ)
opening_lines =
    codes "segment s"
    ∷ codes "relation dept s no:int name:text20"
    ∷ codes "relation emp s no:int name:text20 pay:int"
    ∷ codes "unique dept_no dept no"
    ∷ codes "unique emp_no emp no"
    ∷ codes "image emp_pay emp pay"
    ∷ codes "link works dept emp"
    ∷ codes "begin 1"
    ∷ (map department_line (range_with_len 0 10) ++ codes "end 1" ∷ [])

-- ---- the lines of an employee

-- these lines, where it is so
abbrev pub when : Bool → List (List ℕ) → List (List ℕ)
when test lines = if test then lines else []

-- what an employee has: its number, its name and its pay
abbrev pub employee_text : ℕ → ℕ → List ℕ
employee_text i pay = decimal i ++ codes " \"e" ++ decimal i ++ codes "\" " ++ decimal pay

abbrev pub insert_line : ℕ → ℕ → List ℕ
insert_line i pay = codes "$e = insert 1 emp " ++ employee_text i pay

abbrev pub connect_line : ℕ → List ℕ
connect_line k = codes "connect 1 works $e $d" ++ decimal k ++ codes " last"

abbrev pub update_line : ℕ → ℕ → List ℕ
update_line i pay = codes "update 1 emp $e " ++ employee_text i pay

-- Fifty employees are a transaction.
unfoldable pub begin_lines : ℕ → List (List ℕ)
begin_lines i = when (i % 50 == 0) (codes "begin 1" ∷ codes "begin 2" ∷ [])

unfoldable pub fetch_lines : ℕ → List (List ℕ)
fetch_lines i = when (i % 10 == 9) (codes "fetch 2 emp $e" ∷ [])

unfoldable pub end_lines : ℕ → ℕ → List (List ℕ)
end_lines count i =
    when ((i % 50 == 49) || (i + 1 == count)) (codes "end 2" ∷ codes "end 1" ∷ [])

-- Its pay and its department are drawn, and of each eighth its next pay. These are the states behind
-- the draws, from the state before them.
abbrev pub pay_state : ℕ → ℕ
pay_state x = next_state x

abbrev pub department_state : ℕ → ℕ
department_state x = next_state (pay_state x)

abbrev pub next_pay_state : ℕ → ℕ
next_pay_state x = next_state (department_state x)

unfoldable pub update_lines : ℕ → ℕ → List (List ℕ)
update_lines i x = when (i % 8 == 0) (update_line i (drawn 1000 (next_pay_state x)) ∷ [])

-- the lines of an employee behind those that insert and connect it
abbrev pub lines_behind : ℕ → ℕ → ℕ → List (List ℕ)
lines_behind count i x = update_lines i x ++ (fetch_lines i ++ end_lines count i)

-- the lines of employee i of so many, by the state before its draws
abbrev pub employee_lines : ℕ → ℕ → ℕ → List (List ℕ)
employee_lines count i x =
    begin_lines i
    ++ (insert_line i (drawn 1000 (pay_state x))
    ∷ connect_line (drawn 10 (department_state x))
    ∷ lines_behind count i x)

-- the state behind its draws
unfoldable pub state_behind : ℕ → ℕ → ℕ
state_behind i x = if i % 8 == 0 then next_pay_state x else department_state x

-- the state before employee i, which begins as the number
unfoldable pub state_before : ℕ → ℕ → ℕ
state_before number zero = number
state_before number (suc i) = state_behind i (state_before number i)

-- the lines of the first i employees, of so many
unfoldable pub first_employees : ℕ → ℕ → ℕ → List (List ℕ)
first_employees number count zero = []
first_employees number count (suc i) =
    first_employees number count i ++ employee_lines count i (state_before number i)

-- ---- the script

-- the lines at the end: a scan of the three who are paid least
unfoldable pub closing_lines : List (List ℕ)
closing_lines =
    codes "begin 1"
    ∷ codes "$s = open 1 image emp_pay"
    ∷ codes "next 1 $s"
    ∷ codes "next 1 $s"
    ∷ codes "next 1 $s"
    ∷ codes "end 1"
    ∷ codes "# end"
    ∷ codes "# end"
    ∷ codes "# end"
    ∷ []

-- at least one employee is generated, and at most so many
abbrev pub most_employees : ℕ
most_employees = 100000

-- the lines of the script, each without the byte that ends it
unfoldable pub generated : ℕ → ℕ → List (List ℕ)
generated number count =
    opening_lines ++ (first_employees number count count ++ closing_lines)
