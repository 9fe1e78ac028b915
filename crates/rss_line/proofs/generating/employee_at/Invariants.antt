use Rattle.std.proofs.Common.{ℕ, ◌-◌, ◌<◌, ◌≤◌, length}
use Rattle.rss_model.specs.Generator.{first_employees}
use Rattle.rss_line.proofs.generating.employee_at.Given as goal

abbrev pub invariant-halves : goal.invariant-halves
invariant-halves l = record {
  apart : l.employee < l.end;
  within : l.end ≤ l.count;
  begun : (number : ℕ) → length (first_employees number l.count l.employee) ≤ l.line;
  ends : (number : ℕ) → l.line < length (first_employees number l.count l.count) → l.line < length (first_employees number l.count l.end);
}

abbrev pub decreases-halves : goal.decreases-halves
decreases-halves l = l.end - l.employee
