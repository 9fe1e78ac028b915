-- How many lines a generated script has of its employees.
use Rattle.std.proofs.Common.{◌≡◌, ℕ, zero, suc, ◌+◌, ◌*◌, ◌/◌, ◌%◌, ◌<◌, ◌≤◌, Bool, true, false, ◌++◌, length, refl, ap, ◌∙◌, arith, length-append}
use Rattle.std.proofs.lemmas.Bool.Decides.{nat_tests}
use Rattle.std.specs.Prelude.{◌==◌, ◌||◌, if◌then◌else◌}
use Rattle.std.specs.Int.{div_ceil}
use Rattle.rss_model.specs.Generator.{begin_lines, update_lines, fetch_lines, end_lines, employee_lines, first_employees, state_before}
use Rattle.rss_line.proofs.Parts.{length-when}

-- one more where it is so
abbrev pub one_if : Bool → ℕ
one_if test = if test then 1 else 0

-- ---- the parts of an employee's lines

pub length-begin : (i : ℕ) → length (begin_lines i) ≡ (if i % 50 == 0 then 2 else 0)
unfolding begin_lines
length-begin i = length-when (i % 50 == 0) _

pub length-update : (i x : ℕ) → length (update_lines i x) ≡ (if i % 8 == 0 then 1 else 0)
unfolding update_lines
length-update i x = length-when (i % 8 == 0) _

pub length-fetch : (i : ℕ) → length (fetch_lines i) ≡ (if i % 10 == 9 then 1 else 0)
unfolding fetch_lines
length-fetch i = length-when (i % 10 == 9) _

pub length-end : (count i : ℕ) → length (end_lines count i) ≡ (if (i % 50 == 49) || (i + 1 == count) then 2 else 0)
unfolding end_lines
length-end count i = length-when ((i % 50 == 49) || (i + 1 == count)) _

pub length-employee : (count i x : ℕ) → length (employee_lines count i x) ≡ length (begin_lines i) + (2 + (length (update_lines i x) + (length (fetch_lines i) + length (end_lines count i))))
length-employee count i x =
    let behind : length (update_lines i x ++ (fetch_lines i ++ end_lines count i)) ≡ length (update_lines i x) + (length (fetch_lines i) + length (end_lines count i)) = simp length-append in
    length-append (begin_lines i) _ ∙ ap (λ (n : ℕ). length (begin_lines i) + n) (omega (arith, behind))

-- ---- the employees before one

-- how many lines they have, by its number
abbrev pub lines_before : ℕ → ℕ
lines_before i = 2 * i + div_ceil i 8 + i / 10 + 2 * (i / 50 + div_ceil i 50)

eighths : (i : ℕ) → div_ceil (suc i) 8 ≡ div_ceil i 8 + one_if (i % 8 == 0)
eighths i = grind (arith, nat_tests)

tenths : (i : ℕ) → suc i / 10 ≡ i / 10 + one_if (i % 10 == 9)
tenths i = grind (arith, nat_tests)

fifties_begun : (i : ℕ) → div_ceil (suc i) 50 ≡ div_ceil i 50 + one_if (i % 50 == 0)
fifties_begun i = grind (arith, nat_tests)

fifties_ended : (i : ℕ) → suc i / 50 ≡ i / 50 + one_if (i % 50 == 49)
fifties_ended i = grind (arith, nat_tests)

two_if : (test : Bool) → (if test then 2 else 0) ≡ 2 * one_if test
two_if true = refl
two_if false = refl

end_open : (count i : ℕ) → suc i < count → length (end_lines count i) ≡ 2 * one_if (i % 50 == 49)
end_open count i low = length-end count i ∙ grind (arith, nat_tests)

end_last : (i : ℕ) → length (end_lines (suc i) i) ≡ 2
end_last i = length-end (suc i) i ∙ grind (arith, nat_tests)

pub length-first : (number count i : ℕ) → i < count → length (first_employees number count i) ≡ lines_before i
unfolding first_employees
length-first number count zero low = refl
length-first number count (suc i) low =
    let x = state_before number i in
    let before = length-first number count i (omega arith) in
    let begins : length (begin_lines i) ≡ 2 * one_if (i % 50 == 0) = length-begin i ∙ two_if (i % 50 == 0) in
    omega (
      arith,
      length-append (first_employees number count i) (employee_lines count i x),
      before,
      length-employee count i x,
      begins,
      length-update i x,
      length-fetch i,
      end_open count i low,
      eighths i,
      tenths i,
      fifties_begun i,
      fifties_ended i,
    )

-- ---- all employees

last_fifty : (i : ℕ) → div_ceil (suc i) 50 ≡ suc (i / 50)
last_fifty i = grind (arith, nat_tests)

pub length-all : (number count : ℕ) → 1 ≤ count → length (first_employees number count count) ≡ 2 * count + div_ceil count 8 + count / 10 + 2 * (2 * div_ceil count 50)
unfolding first_employees
length-all number zero some = absurd (omega arith)
length-all number (suc i) some =
    let x = state_before number i in
    let before = length-first number (suc i) i (omega arith) in
    let begins : length (begin_lines i) ≡ 2 * one_if (i % 50 == 0) = length-begin i ∙ two_if (i % 50 == 0) in
    omega (
      arith,
      length-append (first_employees number (suc i) i) (employee_lines (suc i) i x),
      before,
      length-employee (suc i) i x,
      begins,
      length-update i x,
      length-fetch i,
      end_last i,
      eighths i,
      tenths i,
      fifties_begun i,
      last_fifty i,
    )
