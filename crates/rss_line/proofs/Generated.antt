-- Where the lines of a generated script stand.
use Rattle.std.proofs.Common.{◌≡◌, ℕ, zero, suc, ◌+◌, ◌-◌, ◌<◌, ◌≤◌, List, [], ◌∷◌, ◌++◌, length, refl, ap, ◌∙◌, sym, inl, inr, arith, append_assoc, length-append, eq-or-lt_of_le}
use Rattle.std.specs.Prelude.{◌%◌, Some, slice_get, map, codes, ◌==◌, ◌||◌, if◌then◌else◌}
use Rattle.std.specs.List.{range_with_len}
use Rattle.std.proofs.lemmas.List.{append-nil}
use Rattle.std.proofs.lemmas.List.FromFn.{length-map-range_with_len}
use Rattle.rss_model.specs.Generator.{opening_lines, department_line, closing_lines, update_line, begin_lines, update_lines, fetch_lines, end_lines, employee_lines, first_employees, generated, next_pay_state, drawn, state_before}
use Rattle.rss_line.proofs.Parts.{get_front, get_past, when_one, when_two}

-- ---- the lines at the beginning and at the end

get_range : {A : Type 0} (f : ℕ → A) (a n k : ℕ) → k < n → slice_get (map f (range_with_len a n)) k ≡ Some (f (a + k))
get_range f a zero k low = absurd (omega arith)
get_range f a (suc n) zero low = ap (λ (m : ℕ). Some (f m)) (omega arith)
get_range f a (suc n) (suc k) low =
    let next : (a + 1) + k ≡ a + suc k = omega arith in
    get_range f (a + 1) n k (omega arith) ∙ ap (λ (m : ℕ). Some (f m)) next

pub opening_department : (k : ℕ) → 8 ≤ k → k < 18 → slice_get opening_lines k ≡ Some (department_line (k - 8))
unfolding opening_lines
opening_department k past low =
    let front = codes "segment s" ∷ codes "relation dept s no:int name:text20" ∷ codes "relation emp s no:int name:text20 pay:int"
    ∷ codes "unique dept_no dept no" ∷ codes "unique emp_no emp no" ∷ codes "image emp_pay emp pay" ∷ codes "link works dept emp" ∷ codes "begin 1" ∷ [] in
    let departments = map department_line (range_with_len 0 10) in
    let many : length departments ≡ 10 = length-map-range_with_len department_line 0 10 in
    get_past front (departments ++ codes "end 1" ∷ []) k past
    ∙ (get_front departments (codes "end 1" ∷ []) (k - 8) (omega arith)
    ∙ (get_range department_line 0 10 (k - 8) (omega arith) ∙ ap (λ (m : ℕ). Some (department_line m)) (omega arith)))

pub nineteen : length opening_lines ≡ 19
unfolding opening_lines
nineteen = refl

pub length-generated : (number count : ℕ) → length (generated number count) ≡ 28 + length (first_employees number count count)
unfolding generated opening_lines closing_lines
length-generated number count =
    let behind : length (first_employees number count count ++ closing_lines) ≡ length (first_employees number count count) + 9 = length-append (first_employees number count count) closing_lines in
    omega (arith, nineteen, behind, length-append opening_lines (first_employees number count count ++ closing_lines))

pub closing_next : (k : ℕ) → 2 ≤ k → k ≤ 4 → slice_get closing_lines k ≡ Some (codes "next 1 $s")
unfolding closing_lines
closing_next zero past low = absurd (omega arith)
closing_next (suc zero) past low = absurd (omega arith)
closing_next (suc (suc zero)) past low = refl
closing_next (suc (suc (suc zero))) past low = refl
closing_next (suc (suc (suc (suc zero)))) past low = refl
closing_next (suc (suc (suc (suc (suc k))))) past low = absurd (omega arith)

pub closing_end : (k : ℕ) → 6 ≤ k → k ≤ 8 → slice_get closing_lines k ≡ Some (codes "# end")
unfolding closing_lines
closing_end zero past low = absurd (omega arith)
closing_end (suc zero) past low = absurd (omega arith)
closing_end (suc (suc zero)) past low = absurd (omega arith)
closing_end (suc (suc (suc zero))) past low = absurd (omega arith)
closing_end (suc (suc (suc (suc zero)))) past low = absurd (omega arith)
closing_end (suc (suc (suc (suc (suc zero))))) past low = absurd (omega arith)
closing_end (suc (suc (suc (suc (suc (suc zero)))))) past low = refl
closing_end (suc (suc (suc (suc (suc (suc (suc zero))))))) past low = refl
closing_end (suc (suc (suc (suc (suc (suc (suc (suc zero)))))))) past low = refl
closing_end (suc (suc (suc (suc (suc (suc (suc (suc (suc k))))))))) past low = absurd (omega arith)

-- ---- the lines of an employee

-- the employees up to one, and then the others
record Parted (number count i n : ℕ) : Type 0 where
  others : List (List ℕ)
  parts : first_employees number count n ≡ first_employees number count i ++ (employee_lines count i (state_before number i) ++ others)

parted : (number count i n : ℕ) → i < n → Parted number count i n
unfolding first_employees
parted number count i zero low = absurd (omega arith)
parted number count i (suc n) low =
    let own : ℕ → List (List ℕ) = λ j. employee_lines count j (state_before number j) in
    let before : ℕ → List (List ℕ) = first_employees number count in
    elim (eq-or-lt_of_le {n = i} {m = n} (omega arith)) [
      | inl same ↦ record {
        others = [];
        parts = ap (λ (j : ℕ). before j ++ own j) (sym same) ∙ ap (λ (lines : List (List ℕ)). before i ++ lines) (sym (append-nil (own i)));
      }
      | inr lower ↦
          let first = parted number count i n lower in record {
            others = first.others ++ own n;
            parts = ap (λ (lines : List (List ℕ)). lines ++ own n) first.parts ∙ simp append_assoc;
          }
    ]

pub employee_placed : (number count i line : ℕ) → i < count
    → length (first_employees number count i) ≤ line
    → line < length (first_employees number count (i + 1))
    → (line - length (first_employees number count i) < length (employee_lines count i (state_before number i)))
    × (slice_get (first_employees number count count) line ≡ slice_get (employee_lines count i (state_before number i)) (line - length (first_employees number count i)))
unfolding first_employees
employee_placed number count i line low begun open_line =
    let own = employee_lines count i (state_before number i) in
    let before = first_employees number count i in
    let first = parted number count i count low in
    let next : i + 1 ≡ suc i = omega arith in
    let both : line < length (before ++ own) = rw next at open_line in
    let within : line - length before < length own = omega (arith, length-append before own, both) in
    (within, ap (λ (lines : List (List ℕ)). slice_get lines line) first.parts ∙ (get_past before (own ++ first.others) line begun ∙ get_front own first.others (line - length before) within))

-- no lines before the first
pub none_before : (number count : ℕ) → length (first_employees number count 0) ≡ 0
unfolding first_employees
none_before number count = refl

pub update_at : (i x k : ℕ) → k < length (update_lines i x) → slice_get (update_lines i x) k ≡ Some (update_line i (drawn 1000 (next_pay_state x)))
unfolding update_lines
update_at i x k low = when_one (i % 8 == 0) _ k low

pub fetch_at : (i k : ℕ) → k < length (fetch_lines i) → slice_get (fetch_lines i) k ≡ Some (codes "fetch 2 emp $e")
unfolding fetch_lines
fetch_at i k low = when_one (i % 10 == 9) _ k low

pub begin_at : (i k : ℕ) → k < length (begin_lines i) → slice_get (begin_lines i) k ≡ Some (if k == 0 then codes "begin 1" else codes "begin 2")
unfolding begin_lines
begin_at i k low = when_two (i % 50 == 0) _ _ k low

pub end_at : (count i k : ℕ) → k < length (end_lines count i) → slice_get (end_lines count i) k ≡ Some (if k == 0 then codes "end 2" else codes "end 1")
unfolding end_lines
end_at count i k low = when_two ((i % 50 == 49) || (i + 1 == count)) _ _ k low
