-- Counts that go up to a limit, and counts of faults.
use Rattle.std.specs.Prelude.{ℕ, ◌+◌, ◌-◌, ◌^◌, ◌≤◌, min, Result, IsErr}

-- where a count stops
abbrev pub count_limit : ℕ
count_limit = 2 ^ 64 - 1

-- so many more, up to there
abbrev pub counted_by : ℕ → ℕ → ℕ
counted_by more before = min (before + more) count_limit

-- one more, up to there
abbrev pub counted : ℕ → ℕ
counted = counted_by 1

-- a count has gone up, or it stands at its limit
abbrev pub Rises : ℕ → ℕ → Type 0
Rises before now = counted before ≤ now

-- a count of faults never falls, and a failure comes only where it rose
pub record HasCause {T E : Type 0} (before now : ℕ) (result : Result T E) : Type 0 where
  pub later : before ≤ now
  pub failed : IsErr result → Rises before now
